use Rattle.std.proofs.Common.{◌≢◌, ◌↔◌, ◌-◌, ◌^◌, min, ap, ◌∙◌, arith}
use Rattle.std.specs.Option.{option_map}
use Rattle.std.proofs.lemmas.Bool.{eqb-false, ne_eqb, not-true, not_from_false}
use Rattle.flow_syntax.specs.DeclFaults.{IsIncomplete, tuple_count}
use Rattle.check_decls.proofs.Counting.{incomplete_at}
use Rattle.check_decls.proofs.size.is_incomplete.Goals as goal

pub returns-in-Some : goal.returns-in-Some
returns-in-Some c =
    let both : (c.len.result ≢ c.in-Some.count) ↔ IsIncomplete c.args.spec.now c.args.function.now =
    incomplete_at (2 ^ 128 - 1) c.args.spec.now c.args.function.now c.len.result c.in-Some.count c.len.ensures (omega (arith, c.len.type_inv))
    (c.in-Some.ensures ∙ ap (λ ns. option_map (λ n. min n (2 ^ 128 - 1)) (tuple_count c.args.spec.now ns)) c.as_slice.ensures) in
    (λ h. both.0 (eqb-false c.len.result c.in-Some.count (not-true _ h)), λ incomplete. not_from_false _ (ne_eqb c.len.result c.in-Some.count (both.1 incomplete)))
