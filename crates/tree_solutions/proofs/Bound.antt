-- What the variables of a tree's constraints stand for.
use Rattle.std.proofs.Common.{◌≡◌, true, List, [], ◌∷◌, Option, Some, None, refl, subst, map, inl, inr}
use Rattle.std.specs.Prelude.{Contains, IsTrue}
use Rattle.std.specs.Option.{option_map_or}
use Rattle.flow_term.specs.declared.elem.Elem.{Elem}
use Rattle.flow_term.specs.declared.graph.Unknown.{Unknown}
use Rattle.flow_term.specs.declared.term.Term.{Term}
use Rattle.flow_term.specs.declared.value.Bound.{Bound}
use Rattle.flow_syntax.specs.declared.spec.Spec.{Spec}
use Rattle.flow_syntax.specs.Binders as binders
use Rattle.flow_syntax.specs.Types.{Sort}
use Rattle.flow_match.specs.declared.matched.RuleHit.{RuleHit}
use Rattle.flow_match.specs.Bindings.{BindAll}
use Rattle.value_domains.specs.Values.{is_of_sort}
use Rattle.tree_constraints.specs.declared.constraint.Constraint.{Constraint}
use Rattle.tree_constraints.specs.Constraints.{IsConstraint, hit_of}
use Rattle.tree_constraints.specs.Elements.{is_element}
use Rattle.tree_constraints.specs.Solutions.{AreConstraints}
use Rattle.tree_constraints.proofs.Applied.{IsFound, hit_found}
use Rattle.tree_constraints.proofs.Bindings.{AreElements, AreOfPlainSorts, is_plain}
use Rattle.tree_constraints.proofs.Lists.{none_in_nil, cons_cases, flat_map_from, map_from}
use Rattle.tree_solutions.specs.Brought.{bound_by}

-- An element of the tree, of a sort that a pattern's variable has.
pub record IsBound (spec : Spec) (tree : Term) (e : Elem) : Type 0 where
  pub sort : Sort
  pub plain : is_plain sort ≡ true
  pub sorted : is_of_sort sort e ≡ true
  pub element : IsTrue (is_element spec tree sort e)

module _ (spec : Spec) (tree : Term) where
  zip_bound : (vs : List binders.Bound) (bs : List Bound) → BindAll vs bs → AreElements spec tree vs bs → AreOfPlainSorts vs bs → (b : Bound) → Contains bs b → IsBound spec tree b.value
  zip_bound [] [] h k p b c = absurd (none_in_nil b c)
  zip_bound [] (x ∷ bs) h k p b c = absurd h
  zip_bound (v ∷ vs) [] h k p b c = absurd h
  zip_bound (v ∷ vs) (x ∷ bs) h k p b c = elim (cons_cases x bs b c) [
    | inl e ↦ subst (λ (y : Bound). IsBound spec tree y.value) e (record { sort = v.sort; plain = p.0; sorted = h.0.1; element = k.0 })
    | inr t ↦ zip_bound vs bs h.1 k.1 p.1 b t
  ]

  hit_bound : (u : Unknown) (o : Option RuleHit) → ((h : RuleHit) → o ≡ Some h → IsFound spec tree u h) → (b : Bound) → Contains (option_map_or (λ h. h.bindings) o []) b → IsBound spec tree b.value
  hit_bound u None found b c = absurd (none_in_nil b c)
  hit_bound u (Some h) found b c = let f = found h refl in zip_bound _ h.bindings f.binds f.elements f.plain b c

  constraint_bound : (c : Constraint) → IsConstraint spec tree c → (b : Bound) → Contains c.bindings b → IsBound spec tree b.value
  constraint_bound c is b h =
      hit_bound c.key.target (hit_of spec tree c.key.target c.key.origin) (hit_found spec tree c.key.target c.key.origin) b (subst (λ (d : Constraint). Contains d.bindings b) is.whole h)

  pub all_bound : (cs : List Constraint) → AreConstraints spec tree cs → (e : Elem) → Contains (bound_by cs) e → IsBound spec tree e
  all_bound cs hc e h =
      let from = flat_map_from (λ (c : Constraint). map (λ (b : Bound). b.value) c.bindings) cs e h in
      let one = map_from (λ (b : Bound). b.value) from.0.bindings e from.2 in
      subst (IsBound spec tree) one.2 (constraint_bound from.0 ((hc.exactly from.0).0 from.1) one.0 one.1)
