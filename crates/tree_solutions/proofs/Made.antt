-- The constraints of a tree keep to the elements that they bring.
use Rattle.std.proofs.Common.{◌≡◌, true, List, [], ◌∷◌, ◌++◌, map, filter, refl, sym, true≢false}
use Rattle.std.specs.Prelude.{Contains, IsTrue, filter_map}
use Rattle.std.proofs.lemmas.List.Elements.{Contains-append_left, Contains-append_right}
use Rattle.flow_term.specs.declared.elem.Elem.{Elem}
use Rattle.flow_term.specs.declared.elem.Elem.TheVariants as elem
use Rattle.flow_term.specs.declared.graph.Unknown.{Unknown}
use Rattle.flow_term.specs.declared.term.Term.{Term}
use Rattle.flow_term.specs.declared.value.Bound.{Bound}
use Rattle.flow_syntax.specs.declared.spec.Spec.{Spec}
use Rattle.flow_syntax.specs.Binders as binders
use Rattle.flow_syntax.specs.Binders.{bound_in}
use Rattle.flow_syntax.specs.ExprFaults.{trigger_pattern}
use Rattle.flow_syntax.specs.Expressions.{expr_layer, expressions_of}
use Rattle.flow_syntax.specs.Types.{Sort, Typing, name_sort, pos_sort, str_sort, int_sort, enum_sort, pair_sort}
use Rattle.flow_match.specs.Bindings.{BindAll}
use Rattle.value_domains.specs.Values.{is_of_sort}
use Rattle.tree_constraints.specs.declared.constraint.Constraint.{Constraint}
use Rattle.tree_constraints.specs.Constraints.{IsConstraint}
use Rattle.tree_constraints.specs.Elements.{is_one_of, items_of, quoted}
use Rattle.tree_constraints.specs.Laws.{IsAnalysed, KeepsTo}
use Rattle.tree_constraints.specs.Solutions.{AreConstraints, AreUnknowns}
use Rattle.tree_constraints.proofs.Applied.{applied}
use Rattle.tree_constraints.proofs.Bindings.{AreBoundAmong, AreOfPlainSorts, is_plain}
use Rattle.tree_constraints.proofs.Given.{has_made}
use Rattle.tree_constraints.proofs.Kept.{AreEnough, keep_to}
use Rattle.tree_constraints.proofs.Lists.{at_head, in_tail, filter_has, flat_map_has, map_has}
use Rattle.tree_constraints.proofs.Members.{once_has}
use Rattle.tree_solutions.specs.Brought.{bound_by, brought, quotes_of}

module _ (spec : Spec) (cs : List Constraint) where
  bound_is : (c : Constraint) → Contains cs c → (b : Bound) → Contains c.bindings b → Contains (bound_by cs) b.value
  bound_is c among b h = flat_map_has (λ (c : Constraint). map (λ (b : Bound). b.value) c.bindings) cs c b.value among (map_has (λ (b : Bound). b.value) c.bindings b h)

  is_brought : (s : Sort) (e : Elem) → is_plain s ≡ true → is_of_sort s e ≡ true → Contains (bound_by cs) e → IsTrue (is_one_of (brought spec cs) s e)
  is_brought name_sort e p sorted h = once_has (filter (is_of_sort name_sort) (bound_by cs)) e (filter_has (is_of_sort name_sort) (bound_by cs) e h sorted)
  is_brought pos_sort e p sorted h = once_has (filter (is_of_sort pos_sort) (bound_by cs)) e (filter_has (is_of_sort pos_sort) (bound_by cs) e h sorted)
  is_brought str_sort e p sorted h =
      once_has (filter (is_of_sort str_sort) (bound_by cs) ++ quotes_of spec) e
      (Contains-append_left (filter (is_of_sort str_sort) (bound_by cs)) (quotes_of spec) e (filter_has (is_of_sort str_sort) (bound_by cs) e h sorted))
  is_brought int_sort e p sorted h = refl
  is_brought (enum_sort name) e p sorted h = absurd (true≢false (sym p))
  is_brought (pair_sort s t) e p sorted h = absurd (true≢false (sym p))

  all_brought : (vs : List binders.Bound) (bs : List Bound) → BindAll vs bs → AreOfPlainSorts vs bs → ((b : Bound) → Contains bs b → Contains (bound_by cs) b.value) → AreBoundAmong (brought spec cs) vs bs
  all_brought [] [] h p each = tt
  all_brought [] (b ∷ bs) h p each = absurd h
  all_brought (v ∷ vs) [] h p each = absurd h
  all_brought (v ∷ vs) (b ∷ bs) h p each = (is_brought v.sort b.value p.0 h.0.1 (each b (at_head b bs)), all_brought vs bs h.1 p.1 (λ x c. each x (in_tail b bs x c)))

module _ (spec : Spec) (types : List Typing) (analysed : IsAnalysed spec types) (tree : Term) (cs : List Constraint) (us : List Unknown) (hc : AreConstraints spec tree cs) (hu : AreUnknowns spec tree us) where
  brought_enough : AreEnough spec (brought spec cs) (IsConstraint spec tree)
  brought_enough = record {
    pairs = λ s t. refl;
    made = has_made spec analysed.typed.faultless (brought spec cs) (λ x name h. once_has (map elem.Item (items_of spec name)) (elem.Item x) (map_has elem.Item (items_of spec name) x h))
        (λ x h. once_has (filter (is_of_sort str_sort) (bound_by cs) ++ quotes_of spec) (elem.Str x)
        (Contains-append_right (filter (is_of_sort str_sort) (bound_by cs)) (quotes_of spec) (elem.Str x) (map_has elem.Str (filter_map (λ e. quoted (expr_layer e)) (expressions_of spec)) x h)));
    bound = λ c is rule e. let applies = applied spec tree c is rule e in
        all_brought spec cs (bound_in (trigger_pattern rule.trigger)) c.bindings applies.binds applies.plain (bound_is spec cs c ((hc.exactly c).1 is));
  }

  pub keep_to_brought : KeepsTo spec types (brought spec cs) cs us
  keep_to_brought = keep_to spec types analysed tree cs us hc hu (brought spec cs) brought_enough
