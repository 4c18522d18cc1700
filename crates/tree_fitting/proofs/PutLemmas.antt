-- The misfits of a tree that fits, once a part is replaced.
use Rattle.std.proofs.Common.{◌≡◌, ◌≢◌, ℕ, zero, suc, Bool, true, false, cond, true≢false, List, [], ◌∷◌, ◌++◌, length, length-set, Option, Some, None, refl, sym, ap, subst, ◌∙◌}
use Rattle.std.specs.Prelude.{◌==◌, is_some, slice_get, slice_set, option_and_then, option_map, unwrap_or}
use Rattle.std.specs.declared.cmp.Ordering.TheVariants.{Less}
use Rattle.std.proofs.lemmas.Option.{same_Some}
use borrow.Author.Tests.{eqb-true, eqb-false}
use Rattle.flow_term.specs.declared.term.Term.{Term, Term-F, out-Term, out-roll-Term}
use Rattle.flow_term.specs.declared.term.Kind.{Kind, Kind-F, out-Kind, roll-Kind, out-roll-Kind}
use Rattle.flow_term.specs.Annotations.{TermLayer, term_layer}
use Rattle.flow_term.specs.Trees.{Put, children, parts, with_children, with_parts}
use Rattle.flow_syntax.specs.declared.signature.Constructor.{Constructor}
use Rattle.flow_syntax.specs.declared.signature.TreeSort.{TreeSort, TreeSort-F, out-TreeSort}
use Rattle.flow_term.specs.Paths.{path_cmp}
use Rattle.tree_fitting.specs.Children.{MisfitsInChild}
use Rattle.tree_fitting.specs.Fits.{SortLayer, FitsBelow, Misfits, MisfitsBelow, argument_sorts, child_sort, expected_below, fits_form, form_fits, named_sort, part_sort}
use Rattle.tree_fitting.specs.Laws.{ReplacementMisfitsInNewPart}
use Rattle.tree_fitting.specs.Least.{IsLeastOf}
use Rattle.tree_fitting.specs.Replaced.{MisfitsInNew}
use Rattle.tree_fitting.proofs.FitLemmas.{expected_child, fits_child, fits_itself}
use Rattle.tree_fitting.proofs.OrderLemmas.{same_front}
use Rattle.tree_fitting.proofs.StepLemmas.{child_misfits, misfit_child, misfit_root}

get_set_same : {X : Type 0} (xs : List X) (n : ℕ) (x y : X) → slice_get xs n ≡ Some x → slice_get (slice_set xs n y) n ≡ Some y
get_set_same [] n x y h = cc
get_set_same (z ∷ xs) zero x y h = refl
get_set_same (z ∷ xs) (suc n) x y h = get_set_same xs n x y h

get_set_other : {X : Type 0} (xs : List X) (n m : ℕ) (y : X) → m ≢ n → slice_get (slice_set xs n y) m ≡ slice_get xs m
get_set_other [] n m y h = refl
get_set_other (z ∷ xs) zero zero y h = absurd (h refl)
get_set_other (z ∷ xs) zero (suc m) y h = refl
get_set_other (z ∷ xs) (suc n) zero y h = refl
get_set_other (z ∷ xs) (suc n) (suc m) y h = get_set_other xs n m y (λ e. h (ap suc e))

layer_with : (t : Term) (us : List Term) → term_layer (with_children t us) ≡ with_parts (term_layer t) us
layer_with t us =
    ap (λ (l : Term-F Kind Term). out-Kind l.kind) (out-roll-Term (record (out-Term t) { kind = roll-Kind (with_parts (term_layer t) us) })) ∙ out-roll-Kind (with_parts (term_layer t) us)

parts_set : (y : TermLayer) (n : ℕ) (u : Term) → parts (with_parts y (slice_set (parts y) n u)) ≡ slice_set (parts y) n u
parts_set (Kind-F.Apply name args) n u = refl
parts_set (Kind-F.Tuple items) n u = refl
parts_set (Kind-F.Items items) n u = refl
parts_set (Kind-F.Int k) n u = refl
parts_set (Kind-F.Str text) n u = refl

module _ (cs : List Constructor) where
  form_kept : (x : SortLayer) (y : TermLayer) (us : List Term) → length us ≡ length (parts y) → form_fits cs x (with_parts y us) ≡ form_fits cs x y
  form_kept (TreeSort-F.Sort sort) (Kind-F.Apply name args) us e = ap (λ (n : ℕ). is_some (argument_sorts cs sort.text name n)) e
  form_kept (TreeSort-F.Tuple sorts) (Kind-F.Tuple items) us e = ap (λ (n : ℕ). length sorts == n) e
  form_kept x (Kind-F.Int n) us e = refl
  form_kept x (Kind-F.Str text) us e = refl
  form_kept TreeSort-F.Str (Kind-F.Apply name args) us e = refl
  form_kept TreeSort-F.Int (Kind-F.Apply name args) us e = refl
  form_kept TreeSort-F.Any (Kind-F.Apply name args) us e = refl
  form_kept (TreeSort-F.Items sort) (Kind-F.Apply name args) us e = refl
  form_kept (TreeSort-F.Tuple sorts) (Kind-F.Apply name args) us e = refl
  form_kept (TreeSort-F.Sort sort) (Kind-F.Tuple items) us e = refl
  form_kept TreeSort-F.Str (Kind-F.Tuple items) us e = refl
  form_kept TreeSort-F.Int (Kind-F.Tuple items) us e = refl
  form_kept TreeSort-F.Any (Kind-F.Tuple items) us e = refl
  form_kept (TreeSort-F.Items sort) (Kind-F.Tuple items) us e = refl
  form_kept (TreeSort-F.Sort sort) (Kind-F.Items items) us e = refl
  form_kept TreeSort-F.Str (Kind-F.Items items) us e = refl
  form_kept TreeSort-F.Int (Kind-F.Items items) us e = refl
  form_kept TreeSort-F.Any (Kind-F.Items items) us e = refl
  form_kept (TreeSort-F.Items sort) (Kind-F.Items items) us e = refl
  form_kept (TreeSort-F.Tuple sorts) (Kind-F.Items items) us e = refl

  part_kept : (x : SortLayer) (y : TermLayer) (us : List Term) → length us ≡ length (parts y) → (n : ℕ) → part_sort cs x (with_parts y us) n ≡ part_sort cs x y n
  part_kept (TreeSort-F.Sort sort) (Kind-F.Apply name args) us e n = ap (λ (k : ℕ). option_and_then (λ (sorts : List TreeSort). slice_get sorts n) (argument_sorts cs sort.text name k)) e
  part_kept (TreeSort-F.Sort sort) (Kind-F.Tuple items) us e n = refl
  part_kept (TreeSort-F.Sort sort) (Kind-F.Items items) us e n = refl
  part_kept (TreeSort-F.Sort sort) (Kind-F.Int k) us e n = refl
  part_kept (TreeSort-F.Sort sort) (Kind-F.Str text) us e n = refl
  part_kept TreeSort-F.Str y us e n = refl
  part_kept TreeSort-F.Int y us e n = refl
  part_kept TreeSort-F.Any y us e n = refl
  part_kept (TreeSort-F.Items sort) y us e n = refl
  part_kept (TreeSort-F.Tuple sorts) y us e n = refl

  module _ (t : Term) (n : ℕ) (u : Term) where
    abbrev changed : Term
    changed = with_children t (slice_set (children t) n u)

    fits_kept : (sort : TreeSort) → fits_form cs sort changed ≡ fits_form cs sort t
    fits_kept sort =
        ap (form_fits cs (out-TreeSort sort)) (layer_with t (slice_set (children t) n u))
        ∙ form_kept (out-TreeSort sort) (term_layer t) (slice_set (children t) n u) (length-set (children t) n u)

    sort_kept : (sort : TreeSort) (m : ℕ) → child_sort cs sort changed m ≡ child_sort cs sort t m
    sort_kept sort m =
        ap (λ (y : TermLayer). part_sort cs (out-TreeSort sort) y m) (layer_with t (slice_set (children t) n u))
        ∙ part_kept (out-TreeSort sort) (term_layer t) (slice_set (children t) n u) (length-set (children t) n u) m

    children_changed : children changed ≡ slice_set (children t) n u
    children_changed = ap parts (layer_with t (slice_set (children t) n u)) ∙ parts_set (term_layer t) n u

    child_changed : (child : Term) → slice_get (children t) n ≡ Some child → slice_get (children changed) n ≡ Some u
    child_changed child is = ap (λ (us : List Term). slice_get us n) children_changed ∙ get_set_same (children t) n child u is

    other_kept : (m : ℕ) → m ≢ n → slice_get (children changed) m ≡ slice_get (children t) m
    other_kept m other = ap (λ (us : List Term). slice_get us m) children_changed ∙ get_set_other (children t) n m u other

  -- where the path leads to a child
  module _ (sort : TreeSort) (t new : Term) (fit : FitsBelow cs sort t) (n : ℕ) (path : List ℕ) (child : Term) (is : slice_get (children t) n ≡ Some child)
      (inner : (s : TreeSort) → FitsBelow cs s child → (q : List ℕ) → MisfitsBelow cs s (Put child path new) q → MisfitsInNew cs s child new path q) where
    abbrev new_tree : Term
    new_tree = changed t n (Put child path new)

    in_this : (rest : List ℕ) → MisfitsInChild cs (child_sort cs sort new_tree) (children new_tree) n rest → MisfitsInNew cs sort t new (n ∷ path) (n ∷ rest)
    in_this rest c =
        let want : child_sort cs sort t n ≡ Some c.sort = sym (sort_kept t n (Put child path new) sort n) ∙ c.wanted in
        let one : c.child ≡ Put child path new = same_Some c.child (Put child path new) (sym c.is ∙ child_changed t n (Put child path new) child is) in
        let i : MisfitsInNew cs c.sort child new path rest = inner c.sort (fits_child cs sort t fit n child c.sort is want) rest (subst (λ (u : Term). MisfitsBelow cs c.sort u rest) one c.inside) in
        record { rest = i.rest; is = ap (λ (q : List ℕ). n ∷ q) i.is; wanted = i.wanted; expected = expected_child cs sort t fit n path (Some c.sort) (Some child) want is ∙ i.expected; misfits = i.misfits }

    not_other : (m : ℕ) (rest : List ℕ) → m ≢ n → ¬ MisfitsInChild cs (child_sort cs sort new_tree) (children new_tree) m rest
    not_other m rest other c = fit (m ∷ rest) (child_misfits cs sort t m rest (fits_itself cs sort t fit) (record {
      child = c.child;
      is = sym (other_kept t n (Put child path new) m other) ∙ c.is;
      sort = c.sort;
      wanted = sym (sort_kept t n (Put child path new) sort m) ∙ c.wanted;
      inside = c.inside;
    }))

    in_child : (m : ℕ) (rest : List ℕ) → MisfitsInChild cs (child_sort cs sort new_tree) (children new_tree) m rest → (same : Bool) → (m == n) ≡ same → MisfitsInNew cs sort t new (n ∷ path) (m ∷ rest)
    in_child m rest c true e =
        subst (λ (k : ℕ). MisfitsInNew cs sort t new (n ∷ path) (k ∷ rest)) (sym (eqb-true m n e))
        (in_this rest (subst (λ (k : ℕ). MisfitsInChild cs (child_sort cs sort new_tree) (children new_tree) k rest) (eqb-true m n e) c))
    in_child m rest c false e = absurd (not_other m rest (eqb-false m n e) c)

    in_new : (q : List ℕ) → MisfitsBelow cs sort new_tree q → MisfitsInNew cs sort t new (n ∷ path) q
    in_new [] m = absurd (true≢false (sym (fits_kept t n (Put child path new) sort ∙ fits_itself cs sort t fit) ∙ misfit_root cs sort new_tree m))
    in_new (k ∷ rest) m = in_child k rest (misfit_child cs sort new_tree k rest m).1 (k == n) refl

  pub put_misfits : (path : List ℕ) (sort : TreeSort) (t new : Term) → FitsBelow cs sort t → (q : List ℕ) → MisfitsBelow cs sort (Put t path new) q → MisfitsInNew cs sort t new path q
  put_misfits [] sort t new fit q m = record { rest = q; is = refl; wanted = sort; expected = refl; misfits = m }
  put_misfits (n ∷ path) sort t new fit q m = go (slice_get (children t) n) refl m (λ child s f r k. put_misfits path s child new f r k)
    where
      go : (o : Option Term) → slice_get (children t) n ≡ o → MisfitsBelow cs sort (unwrap_or (option_map (λ child. with_children t (slice_set (children t) n (Put child path new))) o) t) q
          → ((child : Term) (s : TreeSort) → FitsBelow cs s child → (r : List ℕ) → MisfitsBelow cs s (Put child path new) r → MisfitsInNew cs s child new path r) → MisfitsInNew cs sort t new (n ∷ path) q
      go None is m inner = absurd (fit q m)
      go (Some child) is m inner = in_new sort t new fit n path child is (inner child) q m

  pub new_misfits : (path : List ℕ) (sort : TreeSort) (t new : Term) (wanted : TreeSort) → expected_below cs sort t path ≡ Some wanted → (rest : List ℕ) → MisfitsBelow cs wanted new rest
      → MisfitsBelow cs sort (Put t path new) (path ++ rest)
  new_misfits [] sort t new wanted e rest m = subst (λ (s : TreeSort). MisfitsBelow cs s new rest) (sym (same_Some sort wanted e)) m
  new_misfits (n ∷ path) sort t new wanted e rest m =
      go (fits_form cs sort t) refl (slice_get (children t) n) refl (child_sort cs sort t n) refl e (λ child s f. new_misfits path s child new wanted f rest m)
    where
      go : (b : Bool) → fits_form cs sort t ≡ b → (o : Option Term) → slice_get (children t) n ≡ o → (s : Option TreeSort) → child_sort cs sort t n ≡ s
          → cond b (option_and_then (λ child. option_and_then (λ below. expected_below cs below child path) s) o) None ≡ Some wanted
          → ((child : Term) (below : TreeSort) → expected_below cs below child path ≡ Some wanted → MisfitsBelow cs below (Put child path new) (path ++ rest))
          → MisfitsBelow cs sort (Put t (n ∷ path) new) (n ∷ path ++ rest)
      go false fits o is s want e inner = cc
      go true fits None is s want e inner = cc
      go true fits (Some child) is None want e inner = cc
      go true fits (Some child) is (Some below) want e inner =
          subst (λ (o : Option Term). MisfitsBelow cs sort (unwrap_or (option_map (λ (c : Term). with_children t (slice_set (children t) n (Put c path new))) o) t) (n ∷ path ++ rest)) (sym is)
          (child_misfits cs sort (changed t n (Put child path new)) n (path ++ rest) (fits_kept t n (Put child path new) sort ∙ fits) (record {
            child = Put child path new;
            is = child_changed t n (Put child path new) child is;
            sort = below;
            wanted = sort_kept t n (Put child path new) sort n ∙ want;
            inside = inner child below e;
          }))

  -- the least misfit of the new part, behind the path
  module _ (path : List ℕ) (sort : TreeSort) (t new : Term) (fit : FitsBelow cs sort t) where
    pub put_least : (wanted : TreeSort) → expected_below cs sort t path ≡ Some wanted → (rest : List ℕ) → IsLeastOf (MisfitsBelow cs wanted new) rest → IsLeastOf (MisfitsBelow cs sort (Put t path new)) (path ++ rest)
    put_least wanted e rest least = record {
      among = new_misfits path sort t new wanted e rest least.among;
      none_before = λ other m. before other (put_misfits path sort t new fit other m);
    }
      where
        before : (other : List ℕ) → MisfitsInNew cs sort t new path other → path_cmp other (path ++ rest) ≢ Less
        before other i = λ f. least.none_before i.rest
            (subst (λ (s : TreeSort). MisfitsBelow cs s new i.rest) (same_Some i.wanted wanted (sym i.expected ∙ e)) i.misfits)
            (sym (ap (λ (q : List ℕ). path_cmp q (path ++ rest)) i.is ∙ same_front path i.rest rest) ∙ f)

pub replaced : ReplacementMisfitsInNewPart
replaced signature tree new path fits q = (
  put_misfits signature.constructors path (named_sort signature.start) tree new fits q,
  λ i. subst (Misfits signature (Put tree path new)) (sym i.is) (new_misfits signature.constructors path (named_sort signature.start) tree new i.wanted i.expected i.rest i.misfits),
)
