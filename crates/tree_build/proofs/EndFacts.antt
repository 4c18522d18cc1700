-- Constraints and where they stand, one further.
use Rattle.std.proofs.Common.{◌≡◌, ℕ, ◌<◌, List, [], ◌∷◌, ◌++◌, ◌+◌, length, get_or, map, take, append_assoc, Option, Result, Ok, Err, sym, ap, subst, ◌∙◌}
use Rattle.std.specs.Prelude.{OnOk}
use Rattle.std.specs.List.{AllZip}
use Rattle.std.proofs.lemmas.List.{map-append, take_more}
use Rattle.flow_term.specs.declared.graph.Node.{Node}
use Rattle.flow_match.specs.declared.matched.RuleHit.{RuleHit}
use Rattle.tree_constraints.specs.declared.constraint.Constraint.{Constraint}
use Rattle.tree_constraints.specs.declared.constraint.Origin.{Origin}
use Rattle.tree_constraints.specs.Constraints.{source, unknown_at}
use Rattle.tree_listing.specs.declared.property.Property.{Property}
use Rattle.tree_listing.specs.Listing.{constraint_by}
use Rattle.tree_build.specs.declared.ends.Ends.{Ends}
use Rattle.tree_build.specs.Ends.{AreEnds, IsEnds, StandsAt}
use Rattle.tree_build.specs.Numbers.{node_of}

pub both_on : {X E P Q R : Type 0} (r : Result X E) → OnOk r P → OnOk r Q → (P → Q → R) → OnOk r R
both_on (Ok x) h k f = f h k
both_on (Err e) h k f = tt

zip_push : {X Y : Type 0} (R : X → Y → Type 0) (xs : List X) (ys : List Y) (x : X) (y : Y) → AllZip R xs ys → R x y → AllZip R (xs ++ x ∷ []) (ys ++ y ∷ [])
zip_push R [] [] x y h r = (r, tt)
zip_push R [] (z ∷ ys) x y h r = absurd h
zip_push R (z ∷ xs) [] x y h r = absurd h
zip_push R (z ∷ xs) (w ∷ ys) x y h r = (h.0, zip_push R xs ys x y h.1 r)

pub end_added : (properties : List Property) (nodes : List Node) (number place at : ℕ) (node : Node) (name : List ℕ) (from : Origin) (hit : Option RuleHit) (es new_es : List Ends) (cs new_cs : List Constraint) (c : Constraint)
    → StandsAt properties nodes number place node name → c ≡ constraint_by hit (unknown_at node name) from → at < length nodes → node_of nodes at ≡ source node from
    → new_es ≡ es ++ (record { number = number; place = place; origin = at }) ∷ [] → new_cs ≡ cs ++ c ∷ [] → AreEnds properties nodes es cs → AreEnds properties nodes new_es new_cs
end_added properties nodes number place at node name from hit es new_es cs new_cs c stands is within origin ees ecs are =
    let e : Ends = record { number = number; place = place; origin = at } in
    let one : IsEnds properties nodes e (constraint_by hit (unknown_at node name) from) = record { target = stands; origin_within = within; origin_is = origin } in
    let more : AreEnds properties nodes (es ++ e ∷ []) (cs ++ c ∷ []) =
    zip_push (IsEnds properties nodes) es cs e c are (subst (λ (d : Constraint). IsEnds properties nodes e d) (sym is) one) in
    subst (λ (xs : List Ends). AreEnds properties nodes xs new_cs) (sym ees) (subst (λ (ys : List Constraint). AreEnds properties nodes (es ++ e ∷ []) ys) (sym ecs) more)

-- one item of a row more
pub mapped_more : {A : Type 0} (f : ℕ → A) (before : List A) (row : List ℕ) (i : ℕ) (now new : List A) (x : A) → i < length row → now ≡ before ++ map f (take i row) → x ≡ f (get_or row i 0) → new ≡ now ++ x ∷ [] → new ≡ before ++ map f (take (i + 1) row)
mapped_more f before row i now new x within enow ex enew =
    enew ∙ (λ k. enow k ++ ex k ∷ []) ∙ append_assoc before (map f (take i row)) (f (get_or row i 0) ∷ [])
    ∙ ap (λ xs. before ++ xs) (sym (map-append f (take i row) (get_or row i 0 ∷ [])) ∙ ap (map f) (sym (take_more row i 0 within)))
