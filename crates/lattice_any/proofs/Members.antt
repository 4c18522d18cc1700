-- Whether a value is one of a lattice, by the lattice's case.
use Rattle.std.proofs.Common.{◌≡◌, ◌↔◌, ℕ, ◌+◌, ◌<◌, ◌≤◌, get_or, take, Bool, true, false, List, [], ◌∷◌, length, refl, sym, ap, ◌∙◌, subst}
use Rattle.std.specs.Prelude.{All}
use Rattle.std.specs.Map.{keys_of, values_of}
use Rattle.std.proofs.lemmas.Bool.{both_ways}
use Rattle.std.proofs.lemmas.List.{take_all}
use Rattle.std.proofs.lemmas.List.Elements.{All-nil, All-cons, All-head, All-tail, All-more}
use Rattle.std.specs.List.Sorted.{IsStrictlySortedBy}
use Rattle.flow_term.specs.declared.elem.Elem.{Elem}
use Rattle.flow_term.specs.declared.value.Value.{Value, Value-F, out-Value}
use Rattle.flow_term.specs.declared.value.Value.TheVariants as value
use Rattle.flow_term.specs.declared.value.Entry.{Entry}
use Rattle.flow_term.specs.Elements.{elem_cmp}
use Rattle.flow_syntax.specs.declared.types.ElemSort.{ElemSort}
use Rattle.lattice_sets.proofs.MapMerges.{answer_no}
use Rattle.lattice_any.specs.declared.any.AnyL.{AnyL}
use Rattle.lattice_any.specs.declared.any.AnyL.TheVariants as any
use Rattle.flow_syntax.specs.Types.{Sort, sort_of}
use Rattle.value_domains.specs.Domains.{Domain, may, must, flat, map_to, pair_of, listed, IsListed, IsValueOf, least_of}
use Rattle.value_domains.specs.Values.{ValueLayer, IsMay, IsMust, IsFlat, IsMapOf, IsMapTo, IsOfSort, IsPairOf, pairs_of}
use Rattle.lattice_any.specs.declared.named.NamedTable.{NamedTable}
use Rattle.lattice_any.specs.Tables.{table_of_names}
use Rattle.lattice_any.specs.Types.{domain_of_any}
use Rattle.value_text.specs.Texts.{keys}
use Rattle.lattice_any.proofs.AtTypes.{is_may, is_must, is_flat, is_map, is_pair, is_table}
use Rattle.lattice_any.proofs.FlatJoins.{layer_of}

-- -- one of a lattice

at_lattice : (l : AnyL) (k : Domain) (v : Value) (r : Bool) → domain_of_any l ≡ k → (r ≡ true) ↔ IsValueOf k v → (r ≡ true) ↔ IsValueOf (domain_of_any l) v
at_lattice l k v r e is = subst (λ k. (r ≡ true) ↔ IsValueOf k v) (sym e) is

pub may_member : (l : AnyL) (sort : ElemSort) (v : Value) (r : Bool) → l ≡ any.May sort → (r ≡ true) ↔ IsMay (sort_of sort) (out-Value v) → (r ≡ true) ↔ IsValueOf (domain_of_any l) v
may_member l sort v r e is = at_lattice l (may (sort_of sort)) v r (is_may l sort e) is

pub must_member : (l : AnyL) (sort : ElemSort) (v : Value) (r : Bool) → l ≡ any.Must sort → (r ≡ true) ↔ IsMust (sort_of sort) (out-Value v) → (r ≡ true) ↔ IsValueOf (domain_of_any l) v
must_member l sort v r e is = at_lattice l (must (sort_of sort)) v r (is_must l sort e) is

pub flat_member : (l : AnyL) (sort : ElemSort) (v : Value) (r : Bool) → l ≡ any.Flat sort → (r ≡ true) ↔ IsFlat (sort_of sort) (out-Value v) → (r ≡ true) ↔ IsValueOf (domain_of_any l) v
flat_member l sort v r e is = at_lattice l (flat (sort_of sort)) v r (is_flat l sort e) is

pub map_member : (l : AnyL) (sort : ElemSort) (values : AnyL) (v : Value) (es us : List Entry) (r : Bool) → l ≡ any.Map sort values → v ≡ value.Map es → us ≡ es
    → (r ≡ true) ↔ IsMapOf (sort_of sort) (IsValueOf (domain_of_any values)) (least_of (domain_of_any values)) (pairs_of us) → (r ≡ true) ↔ IsValueOf (domain_of_any l) v
map_member l sort values v es us r e f g is =
    at_lattice l (map_to (sort_of sort) (domain_of_any values)) v r (is_map l sort values e)
    (subst (λ x. (r ≡ true) ↔ IsMapTo (sort_of sort) (IsValueOf (domain_of_any values)) (least_of (domain_of_any values)) x) (sym (ap out-Value f ∙ value.outs-Map es))
    (subst (λ es. (r ≡ true) ↔ IsMapOf (sort_of sort) (IsValueOf (domain_of_any values)) (least_of (domain_of_any values)) (pairs_of es)) g is))

not_map : (sort : Sort) (P : Value → Type 0) (least : Value) (x : ValueLayer) → ((es : List Entry) → x ≡ Value-F.Map es → ⊥) → IsMapTo sort P least x → ⊥
not_map sort P least (Value-F.Map es) none h = none es refl
not_map sort P least _ none h = h

pub no_map : (l : AnyL) (sort : ElemSort) (values : AnyL) (v : Value) → l ≡ any.Map sort values → ((es : List Entry) → v ≡ value.Map es → ⊥) → (false ≡ true) ↔ IsValueOf (domain_of_any l) v
no_map l sort values v e none =
    at_lattice l (map_to (sort_of sort) (domain_of_any values)) v false (is_map l sort values e)
    (answer_no (λ h. h, λ h. h) (not_map (sort_of sort) (IsValueOf (domain_of_any values)) (least_of (domain_of_any values)) (out-Value v) (λ es f. none es (layer_of v (Value-F.Map es) f ∙ value.rolls-Map es))))

pub pair_member : (l left right : AnyL) (v a b : Value) → l ≡ any.Pair left right → v ≡ value.Pair a b → (IsValueOf (domain_of_any left) a × IsValueOf (domain_of_any right) b) ↔ IsValueOf (domain_of_any l) v
pair_member l left right v a b e f =
    subst (λ k. (IsValueOf (domain_of_any left) a × IsValueOf (domain_of_any right) b) ↔ IsValueOf k v) (sym (is_pair l left right e))
    (subst (λ x. (IsValueOf (domain_of_any left) a × IsValueOf (domain_of_any right) b) ↔ IsPairOf (IsValueOf (domain_of_any left)) (IsValueOf (domain_of_any right)) x) (sym (ap out-Value f ∙ value.outs-Pair a b)) (λ h. h, λ h. h))

not_pair : (P Q : Value → Type 0) (x : ValueLayer) → ((a b : Value) → x ≡ Value-F.Pair a b → ⊥) → IsPairOf P Q x → ⊥
not_pair P Q (Value-F.Pair a b) none h = none a b refl
not_pair P Q _ none h = h

pub no_pair : (l left right : AnyL) (v : Value) → l ≡ any.Pair left right → ((a b : Value) → v ≡ value.Pair a b → ⊥) → (false ≡ true) ↔ IsValueOf (domain_of_any l) v
no_pair l left right v e none =
    at_lattice l (pair_of (domain_of_any left) (domain_of_any right)) v false (is_pair l left right e)
    (answer_no (λ h. h, λ h. h) (not_pair (IsValueOf (domain_of_any left)) (IsValueOf (domain_of_any right)) (out-Value v) (λ a b f. none a b (layer_of v (Value-F.Pair a b) f ∙ value.rolls-Pair a b))))

pub table_member : (l : AnyL) (n : NamedTable) (v : Value) (r : Bool) → l ≡ any.Table n → (r ≡ true) ↔ IsListed (table_of_names n) (out-Value v) → (r ≡ true) ↔ IsValueOf (domain_of_any l) v
table_member l n v r e is = at_lattice l (listed (table_of_names n)) v r (is_table l n e) is

-- -- the least of a lattice

pub least_at : (l : AnyL) (k : Domain) (v : Value) (r : Bool) → domain_of_any l ≡ k → (r ≡ true) ↔ (v ≡ least_of k) → (r ≡ true) ↔ (v ≡ least_of (domain_of_any l))
least_at l k v r e is = subst (λ k. (r ≡ true) ↔ (v ≡ least_of k)) (sym e) is

same_parts : (a b c d : Value) → value.Pair a b ≡ value.Pair c d → (a ≡ c) × (b ≡ d)
same_parts a b c d e =
    let layers : Value-F.Pair a b ≡ Value-F.Pair c d = sym (value.outs-Pair a b) ∙ ap out-Value e ∙ value.outs-Pair c d in
    (cc, cc)

pub pair_least : (l left right : AnyL) (v a b : Value) → l ≡ any.Pair left right → v ≡ value.Pair a b → ((a ≡ least_of (domain_of_any left)) × (b ≡ least_of (domain_of_any right))) ↔ (v ≡ least_of (domain_of_any l))
pair_least l left right v a b e f =
    let bottom : least_of (domain_of_any l) ≡ value.Pair (least_of (domain_of_any left)) (least_of (domain_of_any right)) = ap least_of (is_pair l left right e) in
    (λ h. f ∙ (λ i. value.Pair (h.0 i) (h.1 i)) ∙ sym bottom, λ j. same_parts a b (least_of (domain_of_any left)) (least_of (domain_of_any right)) (sym f ∙ j ∙ bottom))

pub no_least : (l left right : AnyL) (v : Value) → l ≡ any.Pair left right → ((a b : Value) → v ≡ value.Pair a b → ⊥) → (false ≡ true) ↔ (v ≡ least_of (domain_of_any l))
no_least l left right v e none =
    answer_no (λ h. h, λ h. h) (λ j. none (least_of (domain_of_any left)) (least_of (domain_of_any right)) (j ∙ ap least_of (is_pair l left right e)))

-- -- keys and values of entries

same_keys : (es : List Entry) → keys es ≡ keys_of (pairs_of es)
same_keys [] = refl
same_keys (e ∷ es) = ap (λ (ks : List Elem). e.key ∷ ks) (same_keys es)

pub keys_above : (es : List Entry) → IsStrictlySortedBy elem_cmp (keys es) → IsStrictlySortedBy elem_cmp (keys_of (pairs_of es))
keys_above es h = subst (IsStrictlySortedBy elem_cmp) (same_keys es) h

pub keys_below : (es : List Entry) → IsStrictlySortedBy elem_cmp (keys_of (pairs_of es)) → IsStrictlySortedBy elem_cmp (keys es)
keys_below es h = subst (IsStrictlySortedBy elem_cmp) (sym (same_keys es)) h

-- what is false where P isn't
pub no_answer : (P : Type 0) (r : Bool) → r ≡ false → (P → ⊥) → (r ≡ true) ↔ P
no_answer P r is none = (λ h. absurd (both_ways r is h), λ p. absurd (none p))

keys_from : (P : Elem → Type 0) (es : List Entry) → All (λ e. P e.key) es → All P (keys_of (pairs_of es))
keys_from P [] h = All-nil P
keys_from P (e ∷ es) h = All-cons P e.key (keys_of (pairs_of es)) (All-head (λ e. P e.key) e es h) (keys_from P es (All-tail (λ e. P e.key) e es h))

to_keys : (P : Elem → Type 0) (es : List Entry) → All P (keys_of (pairs_of es)) → All (λ e. P e.key) es
to_keys P [] h = All-nil (λ e. P e.key)
to_keys P (e ∷ es) h = All-cons (λ e. P e.key) e es (All-head P e.key (keys_of (pairs_of es)) h) (to_keys P es (All-tail P e.key (keys_of (pairs_of es)) h))

pub keys_answer : (P : Elem → Type 0) (es : List Entry) (r : Bool) → (r ≡ true) ↔ All (λ e. P e.key) es → (r ≡ true) ↔ All P (keys_of (pairs_of es))
keys_answer P es r is = (λ h. keys_from P es (is.0 h), λ a. is.1 (to_keys P es a))

pub values_from : (P : Value → Type 0) (es : List Entry) → All (λ e. P e.value) es → All P (values_of (pairs_of es))
values_from P [] h = All-nil P
values_from P (e ∷ es) h = All-cons P e.value (values_of (pairs_of es)) (All-head (λ e. P e.value) e es h) (values_from P es (All-tail (λ e. P e.value) e es h))

pub to_values : (P : Value → Type 0) (es : List Entry) → All P (values_of (pairs_of es)) → All (λ e. P e.value) es
to_values P [] h = All-nil (λ e. P e.value)
to_values P (e ∷ es) h = All-cons (λ e. P e.value) e es (All-head P e.value (values_of (pairs_of es)) h) (to_values P es (All-tail P e.value (values_of (pairs_of es)) h))

pub map_answer : (sort : Sort) (P : Value → Type 0) (least : Value) (es : List Entry) (r : Bool) → IsStrictlySortedBy elem_cmp (keys_of (pairs_of es)) → All (IsOfSort sort) (keys_of (pairs_of es))
    → (r ≡ true) ↔ All (λ e. P e.value × (e.value ≡ least → ⊥)) es → (r ≡ true) ↔ IsMapOf sort P least (pairs_of es)
map_answer sort P least es r rising sorts is = (
  λ h. record { rising = rising; sorts = sorts; kept = values_from (λ v. P v × (v ≡ least → ⊥)) es (is.0 h) },
  λ m. is.1 (to_values (λ v. P v × (v ≡ least → ⊥)) es m.kept),
)

pub one_more : {X : Type 0} (P : X → Type 0) (xs : List X) (i : ℕ) (x : X) → i < length xs → x ≡ get_or xs i x → All P (take i xs) → P x → All P (take (i + 1) xs)
one_more P xs i x range is all p = All-more P xs i x range all (subst P is p)

pub all_taken : {X : Type 0} (P : X → Type 0) (xs : List X) (i : ℕ) → length xs ≤ i → All P (take i xs) → All P xs
all_taken P xs i range all = subst (All P) (take_all i xs range) all
