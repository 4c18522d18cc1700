use Rattle.std.proofs.Common.{sym, ap, ◌∙◌}
use Rattle.flow_term.specs.declared.value.Value.TheVariants as value
use Rattle.lattice_any.specs.declared.any.AnyL.TheVariants as any
use Rattle.lattice_any.proofs.AtTypes.{is_may, is_must, is_flat, is_map}
use Rattle.lattice_any.proofs.Members.{least_at, pair_least, no_least}
use Rattle.lattice_any.proofs.Orders.{both_answers, first_answer}
use Rattle.lattice_any.proofs.member.+is_least.Goals as goal

pub returns-in-May : goal.returns-in-May
returns-in-May t c = least_at _ _ _ _ (is_may _ _ c.in-May.is) c.is_empty_set.ensures

pub returns-in-Must : goal.returns-in-Must
returns-in-Must t c = least_at _ _ _ _ (is_must _ _ c.in-Must.is) c.is_unreached.ensures

pub returns-in-Flat : goal.returns-in-Flat
returns-in-Flat t c = least_at _ _ _ _ (is_flat _ _ c.in-Flat.is) c.is_bottom.ensures

pub returns-in-Map : goal.returns-in-Map
returns-in-Map t c = least_at _ _ _ _ (is_map _ _ _ c.in-Map.is) c.is_empty_map.ensures

pub returns-then-is_least : goal.returns-then-is_least
returns-then-is_least t c =
    let e = c.in-Pair.is ∙ ap (λ l. any.Pair l c.in-Pair.right) (sym c.get.ensures) ∙ ap (any.Pair c.get.result.now) (sym c.get-then-is_least.ensures) in
    let f = c.in-Pair-value.is ∙ ap (λ v. value.Pair v c.in-Pair-value.b) (sym c.get-in-Pair-value.ensures) ∙ ap (value.Pair c.get-in-Pair-value.result.now) (sym c.get-then-is_least-2.ensures) in
    both_answers _ (c.is_least.ensures.0 c.if-is_least.true) c.is_least-then-is_least.ensures (pair_least _ _ _ _ _ _ e f)

pub returns-else-is_least : goal.returns-else-is_least
returns-else-is_least t c =
    let e = c.in-Pair.is ∙ ap (λ l. any.Pair l c.in-Pair.right) (sym c.get.ensures) in
    let f = c.in-Pair-value.is ∙ ap (λ v. value.Pair v c.in-Pair-value.b) (sym c.get-in-Pair-value.ensures) in
    first_answer _ c.if-is_least.false c.is_least.ensures (pair_least _ _ _ _ _ _ e f)

pub returns-in_default : goal.returns-in_default
returns-in_default t c = no_least _ _ _ _ c.in-Pair.is c.in_default.not-Pair
