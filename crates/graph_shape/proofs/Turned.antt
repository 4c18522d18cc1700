-- The plans that are made by turning each step are the plans turned round.
use Rattle.std.proofs.Common.{◌≡◌, List, map, Option, Some, None, refl, sym, ap, subst, ◌∙◌}
use Rattle.std.specs.Prelude.{option_map, slice_get, unwrap_or}
use Rattle.std.proofs.lemmas.Option.{slice_get-map}
use Rattle.rule_plans.specs.declared.stop.Stop.{Stop}
use Rattle.rule_plans.specs.declared.stop.Step.{Step}
use Rattle.flow_syntax.proofs.LinkEnds.{contains_at}
use Rattle.flow_syntax.proofs.Listed.{in_at}
use Rattle.graph_shape.specs.declared.plans.Plans.{Plans}
use Rattle.graph_shape.specs.Mirrored.{AreMirrored, AreTurned, mirror, turn}
use Rattle.graph_shape.specs.Steps.{steps_for}
use Rattle.graph_shape.proofs.ChildBits.{get_map, got_map}
use Rattle.graph_shape.proofs.MirroredPlans.{mirror_twice}

back_is : (a b : Stop) → mirror a ≡ mirror b → a ≡ b
back_is a b h = sym (mirror_twice a) ∙ ap mirror h ∙ mirror_twice b

pub turned_steps : (steps : List Step) → AreMirrored steps (map turn steps)
turned_steps steps s u = (
  λ h.
      let at = in_at steps h.step h.among in
      record { step = turn h.step; among = contains_at (map turn steps) at.0 (turn h.step) (get_map turn steps at.0 h.step at.1); leaves = ap mirror h.arrives; arrives = ap mirror h.leaves },
  λ h.
      let at = in_at (map turn steps) h.step h.among in
      let from = got_map turn steps at.0 h.step at.1 in
      record {
        step = from.0;
        among = contains_at steps at.0 from.0 from.1;
        leaves = back_is from.0.from s (ap (λ (x : Step). x.to) from.2 ∙ h.arrives);
        arrives = back_is from.0.to u (ap (λ (x : Step). x.from) from.2 ∙ h.leaves);
      },
)

read : (o : Option (List Step)) (d : List Step) → unwrap_or (option_map (map turn) o) (map turn d) ≡ map turn (unwrap_or o d)
read None d = refl
read (Some x) d = refl

pub plans_turned : (plans turned : Plans) → turned.rules ≡ map (map turn) plans.rules → turned.unmatched ≡ map turn plans.unmatched → AreTurned plans turned
plans_turned plans turned e f None = subst (λ (xs : List Step). AreMirrored plans.unmatched xs) (sym f) (turned_steps plans.unmatched)
plans_turned plans turned e f (Some n) =
    let same : steps_for turned (Some n) ≡ map turn (steps_for plans (Some n)) =
    ap (λ (rs : List (List Step)). unwrap_or (slice_get rs n) turned.unmatched) e ∙ ap (unwrap_or (slice_get (map (map turn) plans.rules) n)) f
    ∙ ap (λ (o : Option (List Step)). unwrap_or o (map turn plans.unmatched)) (slice_get-map (map turn) plans.rules n) ∙ read (slice_get plans.rules n) plans.unmatched in
    subst (λ (xs : List Step). AreMirrored (steps_for plans (Some n)) xs) (sym same) (turned_steps (steps_for plans (Some n)))
