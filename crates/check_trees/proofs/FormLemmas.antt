-- What is found by the kind of the expected sort.
use Rattle.std.proofs.Common.{◌≡◌, ℕ, Bool, true, false, cond, ◌&&◌, ◌==◌, List, [], length, Option, Some, None, ◌<◌, refl, sym, ap, subst, ◌∙◌, eq-eqb, arith}
use Rattle.std.specs.Prelude.{slice_get, is_some, bytes_eq, option_and_then, sum_by}
use borrow.Author.Tests.{eqb-true}
use Rattle.flow_term.specs.declared.term.Term.{Term, out-Term}
use Rattle.flow_term.specs.declared.term.Kind.{Kind, Kind-F, out-Kind, roll-Kind, roll-out-Kind}
use Rattle.flow_term.specs.declared.term.Kind.TheVariants as kinds
use Rattle.flow_term.specs.declared.term.Kind.TheVariants.{outs-Apply, outs-Items, outs-Tuple, rolls-Apply, rolls-Items, rolls-Tuple}
use Rattle.flow_term.specs.Annotations.{TermLayer, term_layer, text_in, number_in}
use Rattle.flow_term.specs.Trees.{children, parts, term_size}
use Rattle.flow_term.proofs.Sizes.{term_size_out}
use Rattle.flow_syntax.specs.declared.signature.Constructor.{Constructor}
use Rattle.flow_syntax.specs.declared.signature.TreeSort.{TreeSort, TreeSort-F, out-TreeSort}
use Rattle.flow_syntax.specs.declared.signature.TreeSort.TheVariants as sort_kinds
use Rattle.flow_syntax.specs.declared.signature.TreeSort.TheVariants.{outs-Any, outs-Int, outs-Str}
use Rattle.flow_syntax.specs.declared.spec.Named.{Named}
use Rattle.flow_syntax.proofs.Matches.{found_passes}
use Rattle.tree_fitting.specs.Children.{MisfitsAmong}
use Rattle.tree_fitting.specs.Fits.{SortLayer, MisfitsBelow, argument_sorts, child_sort, constructor_of, fits_form, form_fits, named_sort, part_sort}
use Rattle.check_trees.specs.inner.Searching.{IsFound, list_sort, tuple_sort}
use Rattle.check_trees.proofs.SearchLemmas.{found_here, found_inside, found_nothing}

-- the layer of a term by its kind
layer_of : (t : Term) (kind : Kind) (y : TermLayer) → (out-Term t).kind ≡ kind → out-Kind kind ≡ y → term_layer t ≡ y
layer_of t kind y e f = ap out-Kind e ∙ f

kind_of : (t : Term) (kind : Kind) (y : TermLayer) → term_layer t ≡ y → roll-Kind y ≡ kind → (out-Term t).kind ≡ kind
kind_of t kind y e f = sym (roll-out-Kind (out-Term t).kind) ∙ ap roll-Kind e ∙ f

-- the arguments of an application are smaller than it
pub apply_smaller : (t : Term) (name : List ℕ) (args ts : List Term) → (out-Term t).kind ≡ kinds.Apply name args → ts ≡ args → sum_by term_size ts < term_size t
apply_smaller t name args ts e are =
    let same : ts ≡ children t = are ∙ sym (ap parts (layer_of t (kinds.Apply name args) (Kind-F.Apply name args) e (outs-Apply name args))) in
    omega (arith, term_size_out t, ap (sum_by term_size) same)

children_of : (t : Term) (y : TermLayer) → term_layer t ≡ y → parts y ≡ children t
children_of t y e = sym (ap parts e)

-- by the layers of the sort and of the term
module _ (cs : List Constructor) (sort : TreeSort) (t : Term) (x : SortLayer) (y : TermLayer) (is : out-TreeSort sort ≡ x) (form : term_layer t ≡ y) where
  fits_as : fits_form cs sort t ≡ form_fits cs x y
  fits_as = ap (λ (l : SortLayer). form_fits cs l (term_layer t)) is ∙ ap (form_fits cs x) form

  child_as : (n : ℕ) → child_sort cs sort t n ≡ part_sort cs x y n
  child_as n = ap (λ (l : SortLayer). part_sort cs l (term_layer t) n) is ∙ ap (λ (l : TermLayer). part_sort cs x l n) form

module _ (cs : List Constructor) (t : Term) where
  -- a sort that expects nothing of the children
  leaf_found : (sort : TreeSort) (fits : Bool) (found : Option (List ℕ)) → fits_form cs sort t ≡ fits → ((n : ℕ) → child_sort cs sort t n ≡ None)
      → found ≡ cond fits None (Some []) → IsFound (MisfitsBelow cs sort t) found
  leaf_found sort true found is none e = subst (IsFound (MisfitsBelow cs sort t)) (sym e) (found_nothing cs sort t is none)
  leaf_found sort false found is none e = subst (IsFound (MisfitsBelow cs sort t)) (sym e) (found_here cs sort t is)

  pub any_found : (sort : TreeSort) → sort ≡ sort_kinds.Any → IsFound (MisfitsBelow cs sort t) None
  any_found sort e =
      let is : out-TreeSort sort ≡ TreeSort-F.Any = ap out-TreeSort e ∙ outs-Any in
      found_nothing cs sort t (fits_as cs sort t TreeSort-F.Any (term_layer t) is refl) (child_as cs sort t TreeSort-F.Any (term_layer t) is refl)

  string_form : (y : TermLayer) → form_fits cs TreeSort-F.Str y ≡ is_some (text_in y)
  string_form (Kind-F.Apply name args) = refl
  string_form (Kind-F.Tuple items) = refl
  string_form (Kind-F.Items items) = refl
  string_form (Kind-F.Int n) = refl
  string_form (Kind-F.Str text) = refl

  integer_form : (y : TermLayer) → form_fits cs TreeSort-F.Int y ≡ is_some (number_in y)
  integer_form (Kind-F.Apply name args) = refl
  integer_form (Kind-F.Tuple items) = refl
  integer_form (Kind-F.Items items) = refl
  integer_form (Kind-F.Int n) = refl
  integer_form (Kind-F.Str text) = refl

  pub string_found : (sort : TreeSort) (fits : Bool) (found : Option (List ℕ)) → sort ≡ sort_kinds.Str → fits ≡ is_some (text_in (term_layer t))
      → found ≡ cond fits None (Some []) → IsFound (MisfitsBelow cs sort t) found
  string_found sort fits found e f g =
      let is : out-TreeSort sort ≡ TreeSort-F.Str = ap out-TreeSort e ∙ outs-Str in
      leaf_found sort fits found (fits_as cs sort t TreeSort-F.Str (term_layer t) is refl ∙ string_form (term_layer t) ∙ sym f) (child_as cs sort t TreeSort-F.Str (term_layer t) is refl) g

  pub integer_found : (sort : TreeSort) (fits : Bool) (found : Option (List ℕ)) → sort ≡ sort_kinds.Int → fits ≡ is_some (number_in (term_layer t))
      → found ≡ cond fits None (Some []) → IsFound (MisfitsBelow cs sort t) found
  integer_found sort fits found e f g =
      let is : out-TreeSort sort ≡ TreeSort-F.Int = ap out-TreeSort e ∙ outs-Int in
      leaf_found sort fits found (fits_as cs sort t TreeSort-F.Int (term_layer t) is refl ∙ integer_form (term_layer t) ∙ sym f) (child_as cs sort t TreeSort-F.Int (term_layer t) is refl) g

  module _ (sort : TreeSort) (x : SortLayer) (is : out-TreeSort sort ≡ x) (y : TermLayer) (form : term_layer t ≡ y) where
    -- a form that doesn't fit is what is found
    unfit_found : form_fits cs x y ≡ false → (found : List ℕ) → found ≡ [] → IsFound (MisfitsBelow cs sort t) (Some found)
    unfit_found unfit found e = subst (λ (trail : List ℕ). IsFound (MisfitsBelow cs sort t) (Some trail)) (sym e) (found_here cs sort t (fits_as cs sort t x y is form ∙ unfit))

    -- what is found among the children of a form that fits
    fit_found : form_fits cs x y ≡ true → (expected : ℕ → Option TreeSort) → ((n : ℕ) → expected n ≡ part_sort cs x y n) → (ts : List Term) → ts ≡ parts y → (found : Option (List ℕ))
        → IsFound (MisfitsAmong cs expected ts) found → IsFound (MisfitsBelow cs sort t) found
    fit_found fits expected same ts are found h =
        found_inside cs sort t expected ts (fits_as cs sort t x y is form ∙ fits) (λ n. same n ∙ sym (child_as cs sort t x y is form n)) (are ∙ children_of t y form) found h

  pub list_found : (item : TreeSort) (items ts : List Term) → (out-Term t).kind ≡ kinds.Items items → ts ≡ items → (found : Option (List ℕ))
      → IsFound (MisfitsAmong cs (λ n. Some item) ts) found → IsFound (MisfitsBelow cs (list_sort item) t) found
  list_found item items ts e are found h =
      fit_found (list_sort item) (TreeSort-F.Items item) (sort_kinds.outs-Items item) (Kind-F.Items items) (layer_of t (kinds.Items items) (Kind-F.Items items) e (outs-Items items)) refl (λ n. Some item) (λ n. refl) ts are found h

  pub no_list : (item : TreeSort) → ((items : List Term) → (out-Term t).kind ≡ kinds.Items items → ⊥) → (found : List ℕ) → found ≡ [] → IsFound (MisfitsBelow cs (list_sort item) t) (Some found)
  no_list item other = unfit_found (list_sort item) (TreeSort-F.Items item) (sort_kinds.outs-Items item) (term_layer t) refl (go (term_layer t) refl)
    where
      go : (y : TermLayer) → term_layer t ≡ y → form_fits cs (TreeSort-F.Items item) y ≡ false
      go (Kind-F.Apply name args) e = refl
      go (Kind-F.Tuple items) e = refl
      go (Kind-F.Items items) e = absurd (other items (kind_of t (kinds.Items items) (Kind-F.Items items) e (rolls-Items items)))
      go (Kind-F.Int n) e = refl
      go (Kind-F.Str text) e = refl

  pub tuple_found : (sorts : List TreeSort) (items ts : List Term) → (out-Term t).kind ≡ kinds.Tuple items → ts ≡ items → length sorts ≡ length items → (found : Option (List ℕ))
      → IsFound (MisfitsAmong cs (slice_get sorts) ts) found → IsFound (MisfitsBelow cs (tuple_sort sorts) t) found
  tuple_found sorts items ts e are long found h =
      fit_found (tuple_sort sorts) (TreeSort-F.Tuple sorts) (sort_kinds.outs-Tuple sorts) (Kind-F.Tuple items) (layer_of t (kinds.Tuple items) (Kind-F.Tuple items) e (outs-Tuple items)) (eq-eqb (length sorts) (length items) long) (slice_get sorts) (λ n. refl) ts are found h

  pub other_length : (sorts : List TreeSort) (items : List Term) → (out-Term t).kind ≡ kinds.Tuple items → (length sorts ≡ length items → ⊥)
      → (found : List ℕ) → found ≡ [] → IsFound (MisfitsBelow cs (tuple_sort sorts) t) (Some found)
  other_length sorts items e other = unfit_found (tuple_sort sorts) (TreeSort-F.Tuple sorts) (sort_kinds.outs-Tuple sorts) (Kind-F.Tuple items) (layer_of t (kinds.Tuple items) (Kind-F.Tuple items) e (outs-Tuple items)) (apart (length sorts == length items) refl)
    where
      apart : (b : Bool) → (length sorts == length items) ≡ b → b ≡ false
      apart true f = absurd (other (eqb-true (length sorts) (length items) f))
      apart false f = refl

  pub no_tuple : (sorts : List TreeSort) → ((items : List Term) → (out-Term t).kind ≡ kinds.Tuple items → ⊥) → (found : List ℕ) → found ≡ [] → IsFound (MisfitsBelow cs (tuple_sort sorts) t) (Some found)
  no_tuple sorts other = unfit_found (tuple_sort sorts) (TreeSort-F.Tuple sorts) (sort_kinds.outs-Tuple sorts) (term_layer t) refl (go (term_layer t) refl)
    where
      go : (y : TermLayer) → term_layer t ≡ y → form_fits cs (TreeSort-F.Tuple sorts) y ≡ false
      go (Kind-F.Apply name args) e = refl
      go (Kind-F.Tuple items) e = absurd (other items (kind_of t (kinds.Tuple items) (Kind-F.Tuple items) e (rolls-Tuple items)))
      go (Kind-F.Items items) e = refl
      go (Kind-F.Int n) e = refl
      go (Kind-F.Str text) e = refl

  module _ (sort : Named) where
    pub apply_found : (name : List ℕ) (args ts : List Term) (count : ℕ) (sorts : List TreeSort) → (out-Term t).kind ≡ kinds.Apply name args → ts ≡ args → count ≡ length args
        → argument_sorts cs sort.text name count ≡ Some sorts → (found : Option (List ℕ))
        → IsFound (MisfitsAmong cs (slice_get sorts) ts) found → IsFound (MisfitsBelow cs (named_sort sort) t) found
    apply_found name args ts count sorts e are long is found h =
        let those : argument_sorts cs sort.text name (length args) ≡ Some sorts = ap (argument_sorts cs sort.text name) (sym long) ∙ is in
        fit_found (named_sort sort) (TreeSort-F.Sort sort) (sort_kinds.outs-Sort sort) (Kind-F.Apply name args) (layer_of t (kinds.Apply name args) (Kind-F.Apply name args) e (outs-Apply name args)) (ap is_some those) (slice_get sorts)
        (λ n. sym (ap (option_and_then (λ (ss : List TreeSort). slice_get ss n)) those)) ts are found h

    pub other_constructor : (name : List ℕ) (args : List Term) (count : ℕ) → (out-Term t).kind ≡ kinds.Apply name args → count ≡ length args
        → argument_sorts cs sort.text name count ≡ None → (found : List ℕ) → found ≡ [] → IsFound (MisfitsBelow cs (named_sort sort) t) (Some found)
    other_constructor name args count e long is =
        unfit_found (named_sort sort) (TreeSort-F.Sort sort) (sort_kinds.outs-Sort sort) (Kind-F.Apply name args) (layer_of t (kinds.Apply name args) (Kind-F.Apply name args) e (outs-Apply name args)) (ap is_some (ap (argument_sorts cs sort.text name) (sym long) ∙ is))

    pub no_apply : ((name : List ℕ) (args : List Term) → (out-Term t).kind ≡ kinds.Apply name args → ⊥) → (found : List ℕ) → found ≡ [] → IsFound (MisfitsBelow cs (named_sort sort) t) (Some found)
    no_apply other = unfit_found (named_sort sort) (TreeSort-F.Sort sort) (sort_kinds.outs-Sort sort) (term_layer t) refl (go (term_layer t) refl)
      where
        go : (y : TermLayer) → term_layer t ≡ y → form_fits cs (TreeSort-F.Sort sort) y ≡ false
        go (Kind-F.Apply name args) e = absurd (other name args (kind_of t (kinds.Apply name args) (Kind-F.Apply name args) e (rolls-Apply name args)))
        go (Kind-F.Tuple items) e = refl
        go (Kind-F.Items items) e = refl
        go (Kind-F.Int n) e = refl
        go (Kind-F.Str text) e = refl

second_true : (a b : Bool) → (a && b) ≡ true → b ≡ true
second_true true b h = h
second_true false b h = cc

-- a constructor that is found has this number of arguments
pub as_many_sorts : (cs : List Constructor) (sort name : List ℕ) (count : ℕ) (sorts : List TreeSort) → argument_sorts cs sort name count ≡ Some sorts → length sorts ≡ count
as_many_sorts cs sort name count sorts = go (constructor_of cs name count) refl
  where
    args_of : (c : Constructor) (b : Bool) → cond b (Some c.args) None ≡ Some sorts → c.args ≡ sorts
    args_of c true e = ap (λ (o : Option (List TreeSort)). elim o as (λ x. List TreeSort) [ Some ss ↦ ss | None ↦ [] ]) e
    args_of c false e = cc

    go : (o : Option Constructor) → constructor_of cs name count ≡ o → option_and_then (λ (c : Constructor). cond (bytes_eq c.result.text sort) (Some c.args) None) o ≡ Some sorts → length sorts ≡ count
    go None is e = cc
    go (Some c) is e =
        sym (ap length (args_of c (bytes_eq c.result.text sort) e))
        ∙ eqb-true (length c.args) count (second_true (bytes_eq c.name.text name) (length c.args == count) (found_passes (λ (d : Constructor). bytes_eq d.name.text name && (length d.args == count)) cs c is))
