-- The lattices of a specification without faults are well declared.
use Rattle.std.proofs.Common.{◌≡◌, ℕ, zero, suc, ◌+◌, ◌*◌, ◌<◌, ◌≤◌, Bool, true, false, ◌||◌, List, [], ◌∷◌, ◌++◌, length, map, get_or, arith, Some, refl, sym, ap, ◌∙◌, subst, bytes_eq, inl, inr}
use Rattle.std.specs.Prelude.{All, Contains, slice_get}
use Rattle.std.specs.List.{flat_map, list_any}
use Rattle.std.proofs.lemmas.List.{length-map, get_or-map}
use Rattle.std.proofs.lemmas.List.Elements.{All-map, All-weaker, All-contains_itself}
use Rattle.std.proofs.lemmas.Option.{slice_get-get_or}
use Rattle.flow_term.specs.Orders.{EachOnce}
use Rattle.flow_syntax.specs.declared.fault.SpecFaultKind.TheVariants as kinds
use Rattle.flow_syntax.specs.declared.spec.Named.{Named}
use Rattle.flow_syntax.specs.declared.spec.Spec.{Spec}
use Rattle.flow_syntax.specs.declared.tables.TableDecl.{TableDecl}
use Rattle.flow_syntax.specs.DeclFaults.{IsRepeated, HaveOneName, constant, unknown, duplicate, lattice_arity, bottom, join_entry, element_limit}
use Rattle.flow_syntax.specs.Faults.{HasNoFault, declaration}
use Rattle.flow_syntax.specs.Inferred.{is_among}
use Rattle.flow_syntax.proofs.Listed.{in_at}
use Rattle.value_domains.specs.Domains.{table_of, texts_of, place_in}
use Rattle.table_laws.specs.JoinTables.{IsElement, numbered}
use Rattle.table_laws.specs.Laws.{AcceptedIsWellDeclared, IsWellDeclared}
use Rattle.table_laws.specs.inner.Numbers.{place_below, same_numbers}

-- NAMES THAT STAND ONCE

get_before : {X : Type 0} (xs ys : List X) (k : ℕ) (x : X) → slice_get xs k ≡ Some x → slice_get (xs ++ ys) k ≡ Some x
get_before [] ys k x e = cc
get_before (z ∷ xs) ys zero x e = e
get_before (z ∷ xs) ys (suc k) x e = get_before xs ys k x e

get_behind : {X : Type 0} (xs ys : List X) (i k : ℕ) → i ≡ length xs + k → slice_get (xs ++ ys) i ≡ slice_get ys k
get_behind [] ys i k e = let same : i ≡ k = omega arith in ap (slice_get ys) same
get_behind (x ∷ xs) ys zero k e = absurd (omega arith)
get_behind (x ∷ xs) ys (suc i) k e = get_behind xs ys i k (omega arith)

abbrev Repeated : List Named → Named → Type 0
Repeated ns b = IsRepeated HaveOneName ns b

repeated_before : (xs ys : List Named) (b : Named) → Repeated xs b → Repeated (xs ++ ys) b
repeated_before xs ys b r = record {
  earlier = r.earlier;
  later = r.later;
  a = r.a;
  before = r.before;
  first = get_before xs ys r.earlier r.a r.first;
  second = get_before xs ys r.later b r.second;
  like = r.like;
}

repeated_behind : (xs ys : List Named) (b : Named) → Repeated ys b → Repeated (xs ++ ys) b
repeated_behind xs ys b r = record {
  earlier = length xs + r.earlier;
  later = length xs + r.later;
  a = r.a;
  before = omega (arith, r.before);
  first = get_behind xs ys (length xs + r.earlier) r.earlier refl ∙ r.first;
  second = get_behind xs ys (length xs + r.later) r.later refl ∙ r.second;
  like = r.like;
}

repeated_among : (f : TableDecl → List Named) (ls : List TableDecl) (k : ℕ) (l : TableDecl) (b : Named) → slice_get ls k ≡ Some l → Repeated (f l) b → Repeated (flat_map f ls) b
repeated_among f [] k l b e r = cc
repeated_among f (m ∷ ls) zero l b e r = let same : l ≡ m = cc in repeated_before (f m) (flat_map f ls) b (subst (λ m. Repeated (f m) b) same r)
repeated_among f (m ∷ ls) (suc k) l b e r = repeated_behind (f m) (flat_map f ls) b (repeated_among f ls k l b e r)

once_named : (ns : List Named) → ((b : Named) → Repeated ns b → ⊥) → EachOnce (texts_of ns)
once_named [] none = tt
once_named (n ∷ ns) none = (
  λ (k, l, e).
      let within : k < length ns = omega (arith, l, length-map ns (λ (n : Named). n.text)) in
      let m = get_or ns k n in
      none m (record {
        earlier = 0;
        later = suc k;
        a = n;
        before = omega arith;
        first = refl;
        second = slice_get-get_or ns k n within;
        like = sym e ∙ get_or-map (λ (n : Named). n.text) ns k n n.text within;
      }),
  once_named ns (λ b r. none b (repeated_behind (n ∷ []) ns b r)),
)

-- ENTRIES THAT ARE ELEMENTS

pub passed : (b : Bool) → (b ≡ false → ⊥) → b ≡ true
passed true h = refl
passed false h = absurd (h refl)

pub any_text : (x : List ℕ) (ns : List Named) → list_any (bytes_eq x) (texts_of ns) ≡ is_among x ns
any_text x [] = refl
any_text x (n ∷ ns) = ap (λ b. bytes_eq x n.text || b) (any_text x ns)

module _ (spec : Spec) (faultless : HasNoFault spec) (l : TableDecl) (here : Contains spec.lattices l) where
  few : length l.elements ≤ element_limit
  few = let no : element_limit < length l.elements → ⊥ = λ h. faultless l.name.place kinds.Arity (declaration (lattice_arity l here (inl h) refl)) in omega (arith, no)

  size : length l.join ≡ length l.elements * length l.elements
  size = same_numbers (length l.join) (length l.elements * length l.elements) (λ h. faultless l.name.place kinds.Arity (declaration (lattice_arity l here (inr h) refl)))

  listed : (n : Named) → (is_among n.text l.elements ≡ false → ⊥) → place_in (texts_of l.elements) n.text < length (texts_of l.elements)
  listed n known = place_below (texts_of l.elements) n.text (any_text n.text l.elements ∙ passed (is_among n.text l.elements) known)

  entries : All (IsElement (numbered (table_of (Some l)))) (map (place_in (texts_of l.elements)) (texts_of l.join))
  entries =
      All-map (λ i. i < length (texts_of l.elements)) (place_in (texts_of l.elements)) (texts_of l.join)
      (All-map (λ x. place_in (texts_of l.elements) x < length (texts_of l.elements)) (λ (n : Named). n.text) l.join
      (All-weaker (Contains l.join) (λ n. place_in (texts_of l.elements) n.text < length (texts_of l.elements))
      (λ n h. listed n (λ no. faultless n.place kinds.Unknown (declaration (unknown n (join_entry l n here h no) refl)))) l.join (All-contains_itself l.join)))

  pub declared_well : IsWellDeclared l
  declared_well = record {
    few = few;
    complete = record {
      bottom = listed l.bottom (λ no. faultless l.bottom.place kinds.Unknown (declaration (unknown l.bottom (bottom l here no) refl)));
      size = length-map (texts_of l.join) (place_in (texts_of l.elements)) ∙ length-map l.join (λ (n : Named). n.text) ∙ size ∙ ap (λ n. n * n) (sym (length-map l.elements (λ (n : Named). n.text)));
      entries = entries;
    };
    distinct = once_named l.elements (λ b r. let k = in_at spec.lattices l here in
        faultless b.place kinds.Duplicate (declaration (duplicate b (constant b (repeated_behind (flat_map (λ e. e.items) spec.enums) (flat_map (λ l. l.elements) spec.lattices) b (repeated_among (λ l. l.elements) spec.lattices k.0 l b k.1 r))) refl)));
  }

pub well_declared : AcceptedIsWellDeclared
well_declared spec faultless l here = declared_well spec faultless l here
