-- Elements that the lists of a tree have.
use Rattle.std.proofs.Common.{not, ◌≡◌, ◌⊎◌, ℕ, true, List, [], ◌∷◌, ◌++◌, map, Option, Some, None, refl, sym, ap, subst, ◌∙◌, inl, inr}
use Rattle.std.specs.Prelude.{Contains, filter_map}
use Rattle.std.specs.List.{cons_option}
use Rattle.std.proofs.lemmas.Option.{same_Some}
use Rattle.std.specs.Ordering.{eq_by_cmp}
use Rattle.list_theory.specs.Lists.{IsExact, has, distinct}
use Rattle.list_theory.proofs.ListLemmas.{length_distinct, push_all_there}
use Rattle.lattice_sets.specs.SetLaws.{same_tied, ties_itself}
use Rattle.flow_term.specs.declared.elem.Elem.{Elem}
use Rattle.flow_term.specs.declared.elem.Elem.TheVariants as elem
use Rattle.flow_term.specs.declared.term.Term.{Term}
use Rattle.flow_term.specs.Annotations.{name_of, term_layer, text_in}
use Rattle.flow_term.specs.Elements.{elem_cmp}
use Rattle.flow_term.specs.Trees.{At}
use Rattle.flow_syntax.specs.declared.spec.Spec.{Spec}
use Rattle.flow_syntax.specs.Expressions.{expr_layer, expressions_of}
use Rattle.flow_syntax.specs.Types.{name_sort, pos_sort, str_sort}
use Rattle.value_domains.specs.Values.{has_elem}
use Rattle.value_domains.specs.inner.Elements.{elem_total, elem_exact}
use Rattle.value_heights.proofs.Told.{is_had}
use Rattle.std.proofs.lemmas.List.Elements.{Contains-append_left}
use Rattle.flow_term.specs.Orders.{EachOnce}
use Rattle.std.proofs.lemmas.Bool.{and_from, false_from_ne_true, not_from_false}
use Rattle.tree_constraints.specs.Laws.{IncludedAreNoMore}
use Rattle.tree_constraints.specs.Elements.{elements_of, once, paths_of, quoted, terms_of}
use Rattle.tree_constraints.proofs.Lists.{none_in_nil, at_head, in_tail, cons_cases, map_has, has_from, contains_from}
use Rattle.tree_constraints.proofs.Paths.{has_path}

pub same_elements : IsExact (eq_by_cmp elem_cmp)
same_elements = record { itself = ties_itself elem_cmp elem_total elem_exact; exact = same_tied elem_cmp elem_total elem_exact }

-- each element is kept once
pub once_has : (es : List Elem) (x : Elem) → Contains es x → has_elem (once es) x ≡ true
once_has es x h =
    is_had (once es) x (contains_from (eq_by_cmp elem_cmp) same_elements (once es) x (push_all_there (eq_by_cmp elem_cmp) same_elements es [] x (has_from (eq_by_cmp elem_cmp) same_elements es x h)))

-- items that stand once each are told apart
once_told : (es : List Elem) → EachOnce es → distinct (eq_by_cmp elem_cmp) es ≡ true
once_told [] h = refl
once_told (e ∷ es) h =
    and_from (not (has (eq_by_cmp elem_cmp) es e)) (distinct (eq_by_cmp elem_cmp) es)
    (not_from_false (has (eq_by_cmp elem_cmp) es e) (false_from_ne_true (has (eq_by_cmp elem_cmp) es e) (λ k. h.0 (contains_from (eq_by_cmp elem_cmp) same_elements es e k)))) (once_told es h.1)

pub included_no_more : IncludedAreNoMore
included_no_more few many each included sort =
    length_distinct (eq_by_cmp elem_cmp) same_elements (few sort) (many sort) (once_told (few sort) (each sort))
    (λ x h. has_from (eq_by_cmp elem_cmp) same_elements (many sort) x (included sort x (contains_from (eq_by_cmp elem_cmp) same_elements (few sort) x h)))

-- what is made of an item of a list, where something is
pub filter_map_has : {X Y : Type 0} (f : X → Option Y) (xs : List X) (x : X) (y : Y) → Contains xs x → f x ≡ Some y → Contains (filter_map f xs) y
filter_map_has f [] x y h e = absurd (none_in_nil x h)
filter_map_has {X = X} {Y = Y} f (z ∷ xs) x y h e = by (f z) refl (cons_cases z xs x h) (λ c. filter_map_has f xs x y c e)
  where
    by : (o : Option Y) → f z ≡ o → (z ≡ x) ⊎ Contains xs x → (Contains xs x → Contains (filter_map f xs) y) → Contains (cons_option o (filter_map f xs)) y
    by None e2 (inl same) later = let no : None ≡ Some y = sym e2 ∙ ap f same ∙ e in cc
    by None e2 (inr c) later = later c
    by (Some w) e2 (inl same) later =
        let found : w ≡ y = same_Some w y (sym e2 ∙ ap f same ∙ e) in
        subst (λ (v : Y). Contains (w ∷ filter_map f xs) v) found (at_head w (filter_map f xs))
    by (Some w) e2 (inr c) later = in_tail w (filter_map f xs) y (later c)

module _ (spec : Spec) (tree : Term) (path : List ℕ) (t : Term) (at : At tree path ≡ Some t) where
  -- the position, the name and the text of a term that stands in the tree
  pub position_had : has_elem (elements_of spec tree pos_sort) (elem.Pos path) ≡ true
  position_had = is_had (map elem.Pos (paths_of tree)) (elem.Pos path) (map_has elem.Pos (paths_of tree) path (has_path path tree t at))

  term_had : Contains (terms_of tree) t
  term_had = filter_map_has (At tree) (paths_of tree) path t (has_path path tree t at) at

  pub name_had : (x : List ℕ) → name_of t ≡ Some x → has_elem (elements_of spec tree name_sort) (elem.Name x) ≡ true
  name_had x e =
      let names = filter_map name_of (terms_of tree) in
      once_has (map elem.Name names) (elem.Name x) (map_has elem.Name names x (filter_map_has name_of (terms_of tree) t x term_had e))

  pub text_had : (x : List ℕ) → text_in (term_layer t) ≡ Some x → has_elem (elements_of spec tree str_sort) (elem.Str x) ≡ true
  text_had x e =
      let texts = filter_map (λ t. text_in (term_layer t)) (terms_of tree) in
      let quotes = filter_map (λ e. quoted (expr_layer e)) (expressions_of spec) in
      once_has (map elem.Str (texts ++ quotes)) (elem.Str x) (map_has elem.Str (texts ++ quotes) x (Contains-append_left texts quotes x (filter_map_has (λ t. text_in (term_layer t)) (terms_of tree) t x term_had e)))
