use Rattle.std.proofs.Common.{◌≡◌, ℕ, List, [], length, sym, ap, ◌∙◌}
use Rattle.std.specs.Prelude.{◌==◌}
use Rattle.std.proofs.lemmas.Bool.{both_ways}
use Rattle.std.proofs.lemmas.Result.{err_from_is_err_and}
use Rattle.value_text.proofs.ValueTexts.{not_refused, nothing, nothing_behind, same_value, value_of_text}
use Rattle.value_text.proofs.reader.read_value.Goals as goal

pub returns-in_err-value-clause-only : goal.returns-in_err-value-clause-only
returns-in_err-value-clause-only c =
    let p = err_from_is_err_and c.from_residual.result c.from_residual.ensures.1 in
    rw (p.1, p.2) (λ v h. not_refused c.args.bytes.now v c.in_err-value.field-0.0 c.in_err-value.ensures.read h)

pub returns-then-not-is_empty-clause-only : goal.returns-then-not-is_empty-clause-only
returns-then-not-is_empty-clause-only c = λ v h.
    let none : c.in_ok-value.rest.now ≡ [] = nothing_behind c.args.bytes.now v c.in_ok-value.value c.in_ok-value.rest.now h c.in_ok-value.ensures.read in
    both_ways c.is_empty.result c.if-not-is_empty.true (c.is_empty.ensures ∙ ap (λ (xs : List ℕ). length xs == 0) none)

pub returns-clause-found : goal.returns-clause-found
returns-clause-found c = value_of_text c.args.bytes.now c.in_ok-value.value c.in_ok-value.rest.now c.in_ok-value.ensures.read (nothing c.in_ok-value.rest.now (sym c.is_empty.ensures ∙ c.if-not-is_empty.false))

pub returns-clause-only : goal.returns-clause-only
returns-clause-only c = λ v h. same_value c.args.bytes.now v c.in_ok-value.value c.in_ok-value.rest.now h c.in_ok-value.ensures.read
