-- A plan turned round: last nodes are the first nodes of the mirrored plan.
use Rattle.std.proofs.Common.{◌≡◌, ◌↔◌, Bool, List, refl, sym, ap, subst}
use Rattle.rule_plans.specs.declared.stop.Stop.{Stop}
use Rattle.rule_plans.specs.declared.stop.Stop.TheVariants.{Entry, Exit, Start, End, This, ChildEntry, ChildExit, Child}
use Rattle.rule_plans.specs.declared.stop.Step.{Step}
use Rattle.rule_plans.specs.Hops.{IsHop, by_step, by_child, IsInnerStop, IsStepOf, Leads}
use Rattle.graph_shape.specs.Mirrored.{AreMirrored, mirror}
use Rattle.way_theory.specs.Ways.{by_link, over}
use Rattle.way_theory.proofs.WayLemmas.{way_join}

pub mirror_twice : (s : Stop) → mirror (mirror s) ≡ s
mirror_twice Entry = refl
mirror_twice Exit = refl
mirror_twice Start = refl
mirror_twice End = refl
mirror_twice This = refl
mirror_twice (ChildEntry k) = refl
mirror_twice (ChildExit k) = refl
mirror_twice (Child k) = refl

mirror_inner : (s : Stop) → IsInnerStop s → IsInnerStop (mirror s)
mirror_inner Entry h = tt
mirror_inner Exit h = tt
mirror_inner (ChildEntry k) h = tt
mirror_inner (ChildExit k) h = tt
mirror_inner Start h = h
mirror_inner End h = h
mirror_inner This h = h
mirror_inner (Child k) h = h

module _ (steps turned : List Step) (same : AreMirrored steps turned) (bits : List Bool) where
  hop_turned : (s u : Stop) → IsHop steps bits s u → IsHop turned bits (mirror u) (mirror s)
  hop_turned s u (by_step h) = by_step ((same s u).0 h)
  hop_turned s u (by_child h) = by_child (record { k = h.k; enters = ap mirror h.exits; exits = ap mirror h.enters; passed = h.passed })

  pub leads_turned : (s u : Stop) → Leads steps bits s u → Leads turned bits (mirror u) (mirror s)
  leads_turned s _ (by_link u h) = by_link (mirror s) (hop_turned s u h)
  leads_turned s _ (over m u w i h) = way_join IsInnerStop (IsHop turned bits) (mirror u) (mirror m) (mirror s) (by_link (mirror m) (hop_turned m u h)) (mirror_inner m i) (leads_turned s m w)

mirrored_back : (steps turned : List Step) → AreMirrored steps turned → AreMirrored turned steps
mirrored_back steps turned same s u =
    let h : IsStepOf steps (mirror u) (mirror s) ↔ IsStepOf turned (mirror (mirror s)) (mirror (mirror u)) = same (mirror u) (mirror s) in (
      λ x. h.1 (subst (λ (v : Stop). IsStepOf turned (mirror (mirror s)) v) (sym (mirror_twice u)) (subst (λ (v : Stop). IsStepOf turned v u) (sym (mirror_twice s)) x)),
      λ x. subst (λ (v : Stop). IsStepOf turned v u) (mirror_twice s) (subst (λ (v : Stop). IsStepOf turned (mirror (mirror s)) v) (mirror_twice u) (h.0 x)),
    )

-- what leads to a stop is what its mirror leads to in the mirrored plan
pub leads_mirrored : (steps turned : List Step) → AreMirrored steps turned → (bits : List Bool) (s u : Stop) → Leads steps bits s u ↔ Leads turned bits (mirror u) (mirror s)
leads_mirrored steps turned same bits s u = (
  leads_turned steps turned same bits s u,
  λ l. subst (λ (v : Stop). Leads steps bits v u) (mirror_twice s) (subst (λ (v : Stop). Leads steps bits (mirror (mirror s)) v) (mirror_twice u) (leads_turned turned steps (mirrored_back steps turned same) bits (mirror u) (mirror s) l)),
)
