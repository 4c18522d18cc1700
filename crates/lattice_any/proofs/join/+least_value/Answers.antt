use Rattle.std.proofs.Common.{sym, ap, ◌∙◌}
use Rattle.flow_term.specs.declared.value.Value.TheVariants as value
use Rattle.lattice_any.specs.declared.any.AnyL.TheVariants as any
use Rattle.value_domains.specs.Domains.{least_of}
use Rattle.lattice_any.proofs.AtTypes.{is_may, is_must, is_flat, is_map, is_pair}
use Rattle.lattice_any.proofs.join.+least_value.Goals as goal

pub returns-in-May : goal.returns-in-May
returns-in-May t c = ap value.Set c.new.ensures ∙ sym (ap least_of (is_may _ _ c.in-May.is))

pub returns-in-Must : goal.returns-in-Must
returns-in-Must t c = sym (ap least_of (is_must _ _ c.in-Must.is))

pub returns-in-Flat : goal.returns-in-Flat
returns-in-Flat t c = sym (ap least_of (is_flat _ _ c.in-Flat.is))

pub returns-in-Map : goal.returns-in-Map
returns-in-Map t c = ap value.Map c.new-in-Map.ensures ∙ sym (ap least_of (is_map _ _ _ c.in-Map.is))

pub returns-in_ok-new-in-Pair-2 : goal.returns-in_ok-new-in-Pair-2
returns-in_ok-new-in-Pair-2 t c =
    let e = c.in-Pair.is ∙ ap (λ l. any.Pair l c.in-Pair.right) (sym c.get.ensures) ∙ ap (any.Pair c.get.result.now) (sym c.get-in-Pair.ensures) in
    (λ i. value.Pair ((c.in_ok-new-in-Pair.ensures ∙ c.in_ok-first-in-Pair.ensures) i) ((c.in_ok-new-in-Pair-2.ensures ∙ c.in_ok-second-in-Pair.ensures) i))
    ∙ sym (ap least_of (is_pair _ _ _ e))
