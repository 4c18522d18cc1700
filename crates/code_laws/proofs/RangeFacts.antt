-- What is known of what a value or an element of a range is made of.
use Rattle.std.proofs.Common.{◌≡◌, Bool, true, false, cond, refl, sym, subst}
use Rattle.std.specs.Prelude.{IsTrue}
use Rattle.std.specs.List.Sorted.{IsStrictlySortedBy}
use Rattle.std.proofs.lemmas.Bool.{true≢false}
use Rattle.flow_term.specs.declared.elem.Elem.{Elem, Elem-F, out-Elem}
use Rattle.flow_term.specs.declared.value.Value.{Value, Value-F, out-Value}
use Rattle.flow_term.specs.Elements.{elem_cmp}
use Rattle.flow_syntax.specs.Types.{Sort, pair_sort}
use Rattle.value_domains.specs.Domains.{Domain, pair_of, IsValueOf}
use Rattle.value_domains.specs.Values.{ValueLayer, IsMay, IsMust, IsPairOf, elems_in, IsOfSort, form_has_sort}
use Rattle.expr_meaning.specs.Meaning as meant
use Rattle.expr_meaning.specs.Meaning.{Meaning}
use Rattle.expr_meaning.specs.Ranges.{Range, values, elements, truths}
use Rattle.expr_meaning.specs.Typing.{IsIn, IsFirst, IsSecond, IsPair, of_values, of_elements, IsSets, of_may, of_must}
use Rattle.eval_code.specs.Needs.{is_pair, is_elem_pair, elems_of}
use Rattle.code_laws.specs.inner.Compiled.{HasKind, a_value, an_element}

-- RANGES OF DIFFERENT KINDS

pub values≢elements : (d : Domain) (s : Sort) → values d ≡ elements s → ⊥
values≢elements d s e = cc

pub values≢truths : (d : Domain) → values d ≡ truths → ⊥
values≢truths d e = cc

pub elements≢truths : (s : Sort) → elements s ≡ truths → ⊥
elements≢truths s e = cc

-- the range of a value, of an element
pub value_range : (d : Domain) (v : Value) (r : Range) (m : Meaning) → r ≡ values d → meant.a_value v ≡ m → IsIn r m → IsValueOf d v
value_range d v r m is same h = subst (IsIn (values d)) (sym same) (subst (λ q. IsIn q m) is h)

pub elem_range : (s : Sort) (x : Elem) (r : Range) (m : Meaning) → r ≡ elements s → meant.an_element x ≡ m → IsIn r m → IsOfSort s x
elem_range s x r m is same h = subst (IsIn (elements s)) (sym same) (subst (λ q. IsIn q m) is h)

-- PAIRS

pub first_value : (own r : Range) → IsFirst own r → HasKind a_value own → (d : Domain) × (l : Domain) × (r ≡ values (pair_of d l))
first_value _ _ (of_values l r) h = (l, r, refl)
first_value _ _ (of_elements s t) h = absurd (values≢elements h.0 s (sym h.1))

pub first_element : (own r : Range) → IsFirst own r → HasKind an_element own → (s : Sort) × (t : Sort) × (r ≡ elements (pair_sort s t))
first_element _ _ (of_elements s t) h = (s, t, refl)
first_element _ _ (of_values l r) h = absurd (values≢elements l h.0 h.1)

pub second_value : (own r : Range) → IsSecond own r → HasKind a_value own → (d : Domain) × (l : Domain) × (r ≡ values (pair_of d l))
second_value _ _ (of_values l r) h = (l, r, refl)
second_value _ _ (of_elements s t) h = absurd (values≢elements h.0 t (sym h.1))

pub second_element : (own r : Range) → IsSecond own r → HasKind an_element own → (s : Sort) × (t : Sort) × (r ≡ elements (pair_sort s t))
second_element _ _ (of_elements s t) h = (s, t, refl)
second_element _ _ (of_values l r) h = absurd (values≢elements r h.0 h.1)

pub pair_values : (own r q : Range) → IsPair own r q → HasKind a_value own → HasKind a_value r × HasKind a_value q
pair_values _ _ _ (of_values l r) h = ((l, refl), (r, refl))
pair_values _ _ _ (of_elements s t) h = absurd (values≢elements h.0 (pair_sort s t) (sym h.1))

pub pair_elements : (own r q : Range) → IsPair own r q → HasKind an_element own → HasKind an_element r × HasKind an_element q
pair_elements _ _ _ (of_elements s t) h = ((s, refl), (t, refl))
pair_elements _ _ _ (of_values l r) h = absurd (values≢elements (pair_of l r) h.0 h.1)

pair_layer : (P Q : Value → Type 0) (l : ValueLayer) → IsPairOf P Q l → IsTrue (is_pair l)
pair_layer P Q (Value-F.Pair a b) h = refl
pair_layer P Q _ h = absurd h

pub is_value_pair : (d l : Domain) (v : Value) → IsValueOf (pair_of d l) v → IsTrue (is_pair (out-Value v))
is_value_pair d l v h = pair_layer (IsValueOf d) (IsValueOf l) (out-Value v) h

elem_pair_layer : (s t : Sort) (x : Elem-F Elem) → form_has_sort (pair_sort s t) x ≡ true → IsTrue (is_elem_pair x)
elem_pair_layer s t (Elem-F.Pair a b) h = refl
elem_pair_layer s t _ h = absurd (true≢false (sym h))

pub is_element_pair : (s t : Sort) (x : Elem) → IsOfSort (pair_sort s t) x → IsTrue (is_elem_pair (out-Elem x))
is_element_pair s t x h = elem_pair_layer s t (out-Elem x) h

-- SETS

may_rises : (s : Sort) (l : ValueLayer) → IsMay s l → IsStrictlySortedBy elem_cmp (elems_in l)
may_rises s (Value-F.Set xs) h = h.rising
may_rises s _ h = absurd h

must_rises : (s : Sort) (l : ValueLayer) → IsMust s l → IsStrictlySortedBy elem_cmp (elems_in l)
unfolding IsStrictlySortedBy
must_rises s (Value-F.Set xs) h = h.rising
must_rises s Value-F.Unreached h = tt
must_rises s _ h = absurd h

pub sets_rise : (d : Domain) → IsSets d → (v : Value) → IsValueOf d v → IsStrictlySortedBy elem_cmp (elems_of v)
sets_rise _ (of_may s) v h = may_rises s (out-Value v) h
sets_rise _ (of_must s) v h = must_rises s (out-Value v) h

-- BRANCHES

pub value_branch : (t : Bool) (v w : Value) → meant.a_value (cond t v w) ≡ cond t (meant.a_value v) (meant.a_value w)
value_branch true v w = refl
value_branch false v w = refl

pub elem_branch : (t : Bool) (x y : Elem) → meant.an_element (cond t x y) ≡ cond t (meant.an_element x) (meant.an_element y)
elem_branch true x y = refl
elem_branch false x y = refl

pub truth_branch : (t b c : Bool) → meant.a_truth (cond t b c) ≡ cond t (meant.a_truth b) (meant.a_truth c)
truth_branch true b c = refl
truth_branch false b c = refl
