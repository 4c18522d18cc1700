-- The elements of a tree have all that the expressions of its specification make themselves.
use Rattle.std.proofs.Common.{◌≡◌, ℕ, zero, suc, ◌<◌, Bool, true, false, cond, List, [], ◌∷◌, ◌++◌, map, Option, Some, refl, sym, ap, subst, ◌∙◌, arith, find, bytes_eq}
use Rattle.std.specs.Prelude.{Contains, IsTrue, slice_get, filter_map, option_map}
use Rattle.std.specs.Option.{option_map_or}
use Rattle.std.proofs.lemmas.Bool.{and_parts, and_from}
use Rattle.std.proofs.lemmas.List.Elements.{Contains-append_right}
use Rattle.std.proofs.lemmas.Map.Views.{Contains-from_any}
use Rattle.std.proofs.lemmas.Option.{slice_get-map}
use Rattle.std.proofs.lemmas.Slice.Eq.{bytes_eq-Decides}
use Rattle.flow_term.specs.declared.elem.Elem.{Elem}
use Rattle.flow_term.specs.declared.elem.Elem.TheVariants as elem
use Rattle.flow_term.specs.declared.term.Term.{Term}
use Rattle.flow_term.specs.Annotations.{term_layer, text_in}
use Rattle.flow_syntax.specs.declared.spec.Named.{Named}
use Rattle.flow_syntax.specs.declared.spec.Spec.{Spec}
use Rattle.flow_syntax.specs.declared.tables.EnumDecl.{EnumDecl}
use Rattle.flow_syntax.specs.DeclFaults.{duplicate, type}
use Rattle.flow_syntax.specs.Expressions.{expr_layer, expressions_of}
use Rattle.flow_syntax.specs.Faults.{HasNoFault, declaration}
use Rattle.flow_syntax.specs.Inferred.{enum_with, is_among}
use Rattle.flow_syntax.specs.Types.{Sort, enum_sort, str_sort}
use Rattle.value_domains.specs.Values.{has_elem}
use Rattle.expr_meaning.specs.Making.{HasMade}
use Rattle.typed_bodies.proofs.Names.{any_text, found_at}
use Rattle.tree_constraints.specs.Elements.{elements_of, has_parts, is_element, is_one_of, items_of, quoted, terms_of}
use Rattle.tree_constraints.proofs.Lists.{map_has}
use Rattle.tree_constraints.proofs.Members.{filter_map_has, once_has}

-- an item of the first of two lists
in_front : {X : Type 0} (xs ys : List X) (i : ℕ) (x : X) → slice_get xs i ≡ Some x → slice_get (xs ++ ys) i ≡ Some x
in_front [] ys i x e = cc
in_front (z ∷ xs) ys zero x e = e
in_front (z ∷ xs) ys (suc i) x e = in_front xs ys i x e

-- the first that is declared with the name of one, where no earlier one has it
own_first : (es : List EnumDecl) (k : ℕ) (d : EnumDecl) → slice_get es k ≡ Some d → ((j : ℕ) (a : EnumDecl) → j < k → slice_get es j ≡ Some a → a.name.text ≡ d.name.text → ⊥) → find (λ e. bytes_eq d.name.text e.name.text) es ≡ Some d
own_first [] k d at apart = cc
own_first (e ∷ es) zero d at apart = by (bytes_eq d.name.text e.name.text) ((bytes_eq-Decides d.name.text e.name.text).1 (let same : e ≡ d = cc in ap (λ (x : EnumDecl). x.name.text) (sym same)))
  where
    by : (b : Bool) → b ≡ true → cond b (Some e) (find (λ e. bytes_eq d.name.text e.name.text) es) ≡ Some d
    by true h = at
    by false h = cc
own_first (e ∷ es) (suc k) d at apart = by (bytes_eq d.name.text e.name.text) refl (own_first es k d at (λ j a lt is same. apart (suc j) a (omega (arith, lt)) is same))
  where
    by : (b : Bool) → bytes_eq d.name.text e.name.text ≡ b → find (λ e. bytes_eq d.name.text e.name.text) es ≡ Some d → cond b (Some e) (find (λ e. bytes_eq d.name.text e.name.text) es) ≡ Some d
    by true h later = absurd (apart zero e (omega arith) refl (sym ((bytes_eq-Decides d.name.text e.name.text).0 h)))
    by false h later = later

module _ (spec : Spec) (faultless : HasNoFault spec) where
  -- the items of the enum with an item
  pub items_are : (x : List ℕ) (d : EnumDecl) → enum_with spec x ≡ Some d → Contains (items_of spec d.name.text) x
  items_are x d e =
      let r = found_at (λ e. is_among x e.items) spec.enums d e in
      let enums = map (λ (e : EnumDecl). e.name) spec.enums in
      let lattices = map (λ l. l.name) spec.lattices in
      let place : (k : ℕ) (a : EnumDecl) → slice_get spec.enums k ≡ Some a → slice_get (enums ++ lattices) k ≡ Some a.name =
      λ k a h. in_front enums lattices k a.name (slice_get-map (λ (e : EnumDecl). e.name) spec.enums k ∙ ap (option_map (λ (e : EnumDecl). e.name)) h) in
      let first = own_first spec.enums r.0 d r.1 (λ j a before is_a same. faultless _ _ (declaration (duplicate d.name (type d.name (record {
        earlier = j;
        later = r.0;
        a = a.name;
        before = before;
        first = place j a is_a;
        second = place r.0 d r.1;
        like = same;
      })) refl))) in
      subst (λ (o : Option EnumDecl). Contains (option_map_or (λ e. map (λ item. item.text) e.items) o []) x) (sym first)
      (Contains-from_any (λ x y. (bytes_eq-Decides x y).0) x (map (λ (n : Named). n.text) d.items) (any_text x d.items ∙ r.2))

  -- elements have all that expressions make themselves, where they have the items and the texts
  pub has_made : (elements : Sort → List Elem) → ((x name : List ℕ) → Contains (items_of spec name) x → has_elem (elements (enum_sort name)) (elem.Item x) ≡ true)
      → ((x : List ℕ) → Contains (filter_map (λ e. quoted (expr_layer e)) (expressions_of spec)) x → has_elem (elements str_sort) (elem.Str x) ≡ true)
      → HasMade (λ s x. IsTrue (is_one_of elements s x)) spec (expressions_of spec)
  has_made elements items texts = record {
    integers = λ n. refl;
    items = λ x d e. items x d.name.text (items_are x d e);
    texts = λ e text among is. texts text (filter_map_has (λ e. quoted (expr_layer e)) (expressions_of spec) e text among (ap quoted is));
    pairs = λ s t a b. (
      λ h. and_parts (is_one_of elements s a) (is_one_of elements t b) (sym (ap (has_parts (is_one_of elements s) (is_one_of elements t)) (elem.outs-Pair a b)) ∙ h),
      λ h. ap (has_parts (is_one_of elements s) (is_one_of elements t)) (elem.outs-Pair a b) ∙ and_from (is_one_of elements s a) (is_one_of elements t b) h.0 h.1,
    );
  }

  pub tree_has_made : (tree : Term) → HasMade (λ s x. IsTrue (is_element spec tree s x)) spec (expressions_of spec)
  tree_has_made tree =
      let strings = filter_map (λ t. text_in (term_layer t)) (terms_of tree) in
      let quotes = filter_map (λ e. quoted (expr_layer e)) (expressions_of spec) in
      has_made (elements_of spec tree) (λ x name h. once_has (map elem.Item (items_of spec name)) (elem.Item x) (map_has elem.Item (items_of spec name) x h))
      (λ x h. once_has (map elem.Str (strings ++ quotes)) (elem.Str x) (map_has elem.Str (strings ++ quotes) x (Contains-append_right strings quotes x h)))
