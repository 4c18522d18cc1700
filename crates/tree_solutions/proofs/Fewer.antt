-- The constraints of a tree bring no more elements than the tree has.
use Rattle.std.proofs.Common.{◌≡◌, ℕ, suc, ◌*◌, ◌+◌, ◌≤◌, true, List, [], ◌∷◌, ◌++◌, length, map, filter, refl, sym, subst, ◌∙◌, arith, true≢false, inl, inr, length-append}
use Rattle.std.specs.Prelude.{Contains, IsTrue, filter_map}
use Rattle.std.specs.List.{flat_map}
use Rattle.std.specs.Ordering.{eq_by_cmp}
use Rattle.std.proofs.Math.Nat.{mul-le-mul_left, mul-le-mul_right}
use Rattle.std.proofs.lemmas.List.{length-map}
use Rattle.std.proofs.lemmas.List.Elements.{Contains-append_cases, Contains-append_right}
use Rattle.list_theory.proofs.ListLemmas.{distinct-push_all, has-filter, has-push_all, length_distinct}
use Rattle.flow_term.specs.declared.elem.Elem.{Elem, Elem-F, out-Elem}
use Rattle.flow_term.specs.declared.elem.Elem.TheVariants as elem
use Rattle.flow_term.specs.declared.term.Term.{Term}
use Rattle.flow_term.specs.Annotations.{term_layer, text_in}
use Rattle.flow_term.specs.Elements.{elem_cmp}
use Rattle.flow_syntax.specs.declared.spec.Spec.{Spec}
use Rattle.flow_syntax.specs.Expressions.{expr_layer, expressions_of}
use Rattle.flow_syntax.specs.Types.{Sort, name_sort, pos_sort, str_sort, int_sort, enum_sort, pair_sort}
use Rattle.value_domains.specs.Values.{form_has_sort, is_of_sort}
use Rattle.value_heights.proofs.Told.{had}
use Rattle.tree_constraints.specs.declared.constraint.Constraint.{Constraint}
use Rattle.tree_constraints.specs.Elements.{elements_of, is_element, once, quoted, terms_of}
use Rattle.tree_constraints.specs.Solutions.{AreConstraints}
use Rattle.tree_constraints.proofs.Lists.{contains_from, has_from, map_from, map_has}
use Rattle.tree_constraints.proofs.Members.{once_has, same_elements}
use Rattle.tree_constraints.proofs.Solved.{bounds_within}
use Rattle.tree_solutions.specs.Brought.{bound_by, brought, quotes_of}
use Rattle.tree_solutions.specs.Laws.{BroughtAreNoMore, BroughtBoundsAreWithin}
use Rattle.tree_solutions.proofs.Bound.{all_bound}

-- LENGTHS

once_no_more : (xs ys : List Elem) → ((x : Elem) → Contains xs x → Contains ys x) → length (once xs) ≤ length ys
once_no_more xs ys sub =
    let same = eq_by_cmp elem_cmp in
    length_distinct same same_elements (once xs) ys (distinct-push_all same same_elements xs [] refl)
    (λ x h. has_from same same_elements ys x (elim (has-push_all same same_elements xs [] x h) [ inl none ↦ absurd (true≢false (sym none)) | inr k ↦ sub x (contains_from same same_elements xs x k) ]))

suc_times : (a b : ℕ) → suc a * b ≡ b + a * b
suc_times a b = grind arith

pairs_counted : (xs ys : List Elem) → length (flat_map (λ a. map (elem.Pair a) ys) xs) ≡ length xs * length ys
pairs_counted [] ys = grind arith
pairs_counted (x ∷ xs) ys =
    length-append (map (elem.Pair x) ys) (flat_map (λ a. map (elem.Pair a) ys) xs) ∙ (λ i. length-map ys (elem.Pair x) i + pairs_counted xs ys i) ∙ sym (suc_times (length xs) (length ys))

times : (a b c d : ℕ) → a ≤ b → c ≤ d → a * c ≤ b * d
times a b c d h k = let one : a * c ≤ b * c = mul-le-mul_right c h in let two : b * c ≤ b * d = mul-le-mul_left b k in omega (arith, one, two)

-- SORTS: an element is of one sort among those without declarations

names_alone : (s : Sort) (x : Elem-F Elem) → form_has_sort name_sort x ≡ true → form_has_sort s x ≡ true → s ≡ name_sort
names_alone name_sort x h k = refl
names_alone pos_sort (Elem-F.Name t) h k = absurd (true≢false (sym k))
names_alone str_sort (Elem-F.Name t) h k = absurd (true≢false (sym k))
names_alone int_sort (Elem-F.Name t) h k = absurd (true≢false (sym k))
names_alone (enum_sort n) (Elem-F.Name t) h k = absurd (true≢false (sym k))
names_alone (pair_sort a b) (Elem-F.Name t) h k = absurd (true≢false (sym k))
names_alone s _ h k = absurd (true≢false (sym h))

positions_alone : (s : Sort) (x : Elem-F Elem) → form_has_sort pos_sort x ≡ true → form_has_sort s x ≡ true → s ≡ pos_sort
positions_alone pos_sort x h k = refl
positions_alone name_sort (Elem-F.Pos t) h k = absurd (true≢false (sym k))
positions_alone str_sort (Elem-F.Pos t) h k = absurd (true≢false (sym k))
positions_alone int_sort (Elem-F.Pos t) h k = absurd (true≢false (sym k))
positions_alone (enum_sort n) (Elem-F.Pos t) h k = absurd (true≢false (sym k))
positions_alone (pair_sort a b) (Elem-F.Pos t) h k = absurd (true≢false (sym k))
positions_alone s _ h k = absurd (true≢false (sym h))

texts_alone : (s : Sort) (x : Elem-F Elem) → form_has_sort str_sort x ≡ true → form_has_sort s x ≡ true → s ≡ str_sort
texts_alone str_sort x h k = refl
texts_alone name_sort (Elem-F.Str t) h k = absurd (true≢false (sym k))
texts_alone pos_sort (Elem-F.Str t) h k = absurd (true≢false (sym k))
texts_alone int_sort (Elem-F.Str t) h k = absurd (true≢false (sym k))
texts_alone (enum_sort n) (Elem-F.Str t) h k = absurd (true≢false (sym k))
texts_alone (pair_sort a b) (Elem-F.Str t) h k = absurd (true≢false (sym k))
texts_alone s _ h k = absurd (true≢false (sym h))

module _ (spec : Spec) (tree : Term) (cs : List Constraint) (hc : AreConstraints spec tree cs) where
  of_tree : (s : Sort) → ((t : Sort) (x : Elem-F Elem) → form_has_sort s x ≡ true → form_has_sort t x ≡ true → t ≡ s) → (e : Elem) → Contains (filter (is_of_sort s) (bound_by cs)) e → IsTrue (is_element spec tree s e)
  of_tree s alone e h =
      let same = eq_by_cmp elem_cmp in
      let parts = has-filter same same_elements (is_of_sort s) (bound_by cs) e (has_from same same_elements (filter (is_of_sort s) (bound_by cs)) e h) in
      let is = all_bound spec tree cs hc e (contains_from same same_elements (bound_by cs) e parts.0) in
      subst (λ (t : Sort). IsTrue (is_element spec tree t e)) (alone is.sort (out-Elem e) parts.1 is.sorted) is.element

  text_there : (e : Elem) → Contains (filter (is_of_sort str_sort) (bound_by cs) ++ quotes_of spec) e → Contains (elements_of spec tree str_sort) e
  text_there e h =
      let strings = filter_map (λ t. text_in (term_layer t)) (terms_of tree) in
      let quotes = filter_map (λ e. quoted (expr_layer e)) (expressions_of spec) in
      elim (Contains-append_cases (filter (is_of_sort str_sort) (bound_by cs)) (quotes_of spec) e h) [
        | inl c ↦ had (elements_of spec tree str_sort) e (of_tree str_sort texts_alone e c)
        | inr c ↦ let from = map_from elem.Str quotes e c in
            subst (λ (x : Elem). Contains (elements_of spec tree str_sort) x) from.2
            (had (elements_of spec tree str_sort) (elem.Str from.0) (once_has (map elem.Str (strings ++ quotes)) (elem.Str from.0) (map_has elem.Str (strings ++ quotes) from.0 (Contains-append_right strings quotes from.0 from.1))))
      ]

  no_more : (s : Sort) → length (brought spec cs s) ≤ length (elements_of spec tree s)
  no_more name_sort = once_no_more (filter (is_of_sort name_sort) (bound_by cs)) (elements_of spec tree name_sort) (λ e h. had (elements_of spec tree name_sort) e (of_tree name_sort names_alone e h))
  no_more pos_sort = once_no_more (filter (is_of_sort pos_sort) (bound_by cs)) (elements_of spec tree pos_sort) (λ e h. had (elements_of spec tree pos_sort) e (of_tree pos_sort positions_alone e h))
  no_more str_sort = once_no_more (filter (is_of_sort str_sort) (bound_by cs) ++ quotes_of spec) (elements_of spec tree str_sort) text_there
  no_more int_sort = omega arith
  no_more (enum_sort name) = omega arith
  no_more (pair_sort s t) =
      let fewer = times (length (brought spec cs s)) (length (elements_of spec tree s)) (length (brought spec cs t)) (length (elements_of spec tree t)) (no_more s) (no_more t) in
      omega (arith, fewer, pairs_counted (brought spec cs s) (brought spec cs t), pairs_counted (elements_of spec tree s) (elements_of spec tree t))

pub brought_no_more : BroughtAreNoMore
brought_no_more spec tree cs hc = no_more spec tree cs hc

pub brought_bounds : BroughtBoundsAreWithin
brought_bounds spec types tree cs us hc hu n is = bounds_within spec types (brought spec cs) tree cs us hc hu (brought_no_more spec tree cs hc) n is
