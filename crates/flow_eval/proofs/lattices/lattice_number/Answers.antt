use Rattle.std.proofs.Common.{◌≡◌, arith, rules, ap, bytes_eq, drop, find, length, sym, ◌∙◌}
use Rattle.std.proofs.lemmas.Option.{slice_get_past}
use Rattle.std.proofs.Math.Seq.{drop-length}
use Rattle.std.proofs.lemmas.Bool.{true≢false}
use Rattle.std.proofs.lemmas.Slice.Eq.{bytes_eq-Decides}
use Rattle.flow_eval.proofs.Found.{found_here, passed_here}
use Rattle.flow_eval.proofs.lattices.lattice_number.Goals as goal

pub returns-then-eq : goal.returns-then-eq
returns-then-eq c =
    found_here _ _ _ c.index-declared-number.result c.loop-number-test.true c.index-declared-number.is c.loop-number.invariant ((bytes_eq-Decides _ _).0 (sym c.eq.ensures ∙ c.if-eq.true))

pub loop-number-preserved : goal.loop-number-preserved
loop-number-preserved c =
    passed_here _ _ _ c.index-declared-number.result c.loop-number-test.true c.index-declared-number.is c.loop-number.invariant
    (λ same. true≢false (sym ((bytes_eq-Decides _ _).1 same) ∙ sym c.eq.ensures ∙ c.if-eq.false))

pub returns : goal.returns
returns c =
    let all : length c.args.declared.now ≡ c.loop-number.number = search rules in
    slice_get_past c.args.declared.now (length c.args.declared.now) (omega arith) ∙ sym (c.loop-number.invariant ∙ ap (λ ds. find (λ d. bytes_eq c.args.name.now d.name.text) ds) (ap (λ n. drop n c.args.declared.now) (sym all) ∙ drop-length c.args.declared.now))
