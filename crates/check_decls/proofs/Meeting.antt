-- What is met again in a list of names.
use Rattle.std.proofs.Common.{◌≡◌, ℕ, zero, suc, ◌+◌, ◌-◌, ◌<◌, ◌≤◌, Bool, true, false, ◌||◌, ◌&&◌, List, [], ◌∷◌, ◌++◌, length, take, get_or, map, Some, not, refl, sym, ap, subst, ◌∙◌, inl, inr, arith}
use Rattle.std.specs.Prelude.{◌⊎◌, ◌==◌, if◌then◌else◌, slice_get, bytes_eq}
use Rattle.std.specs.List.{list_any, flat_map}
use Rattle.std.specs.Option.{option_map}
use Rattle.std.specs.Borrow.{Bor}
use Rattle.std.specs.Cmp.Lexicographic.{bytes_decides}
use Rattle.std.specs.HashSet.{HashSet}
use Rattle.std.proofs.Math.Bool.{or-false, or_assoc}
use Rattle.std.proofs.Math.Seq.{take-append-add}
use Rattle.std.proofs.lemmas.Bool.{and_parts, cases_lt, eqb-true, or_left}
use Rattle.std.proofs.lemmas.List.{append-nil, map-append, take-append-le, take_all, take_more}
use Rattle.std.proofs.lemmas.List.Concat.{flat_map-append}
use Rattle.std.proofs.lemmas.List.Folds.{list_any-append}
use Rattle.std.proofs.lemmas.Option.{slice_get-map, slice_get_within, same_Some}
use Rattle.flow_syntax.specs.declared.fault.SpecFaultKind.{SpecFaultKind}
use Rattle.flow_syntax.specs.declared.fault.SpecFaultKind.TheVariants as kinds
use Rattle.flow_syntax.specs.declared.spec.Named.{Named}
use Rattle.flow_syntax.specs.DeclFaults.{IsRepeated}
use Rattle.flow_syntax.proofs.Listed.{any_at, at_any}
use Rattle.check_base.specs.Earliest.{Gathers, IsFaultWhere}
use Rattle.check_base.proofs.Firsts.{among_first, first_among}
use Rattle.check_base.proofs.GathersLaws.{Found, Gathers-none, Gathers-same, Gathers-then}
use Rattle.check_decls.specs.inner.Repeating.{AreMetAgain, AreRepeated, Meets, has_met, is_met_again, is_shape}

abbrev pub Shape : Type 0
Shape = Named × ℕ

-- PLACES IN LISTS

get_left : {X : Type 0} (xs ys : List X) (k : ℕ) → k < length xs → slice_get (xs ++ ys) k ≡ slice_get xs k
get_left [] ys k h = absurd (omega arith)
get_left (x ∷ xs) ys zero h = refl
get_left (x ∷ xs) ys (suc k) h = get_left xs ys k (omega arith)

get_right : {X : Type 0} (xs ys : List X) (k : ℕ) → slice_get (xs ++ ys) (length xs + k) ≡ slice_get ys k
get_right [] ys k = ap (slice_get ys) (omega arith)
get_right (x ∷ xs) ys k = let next : length (x ∷ xs) + k ≡ suc (length xs + k) = omega arith in ap (slice_get (x ∷ (xs ++ ys))) next ∙ get_right xs ys k

mapped : {X Y : Type 0} (f : X → Y) (xs : List X) (k : ℕ) (y : Y) → slice_get (map f xs) k ≡ Some y → (x : X) × (slice_get xs k ≡ Some x) × (f x ≡ y)
mapped f [] k y e = cc
mapped f (x ∷ xs) zero y e = (x, refl, same_Some (f x) y e)
mapped f (x ∷ xs) (suc k) y e = mapped f xs k y e

map_of : {X Y : Type 0} (f : X → Y) (xs : List X) (k : ℕ) (x : X) → slice_get xs k ≡ Some x → slice_get (map f xs) k ≡ Some (f x)
map_of f xs k x e = slice_get-map f xs k ∙ ap (option_map f) e

-- NAMES OF TWO LISTS

module _ (met grown : List ℕ → ℕ → Bool) (xs ys : List Shape) (grows : (x : List ℕ) (n : ℕ) → grown x n ≡ (met x n || list_any (is_shape x n) xs)) where
  again_left : (k : ℕ) (s : Shape) → k ≤ length xs → is_met_again met (xs ++ ys) k s ≡ is_met_again met xs k s
  again_left k s within = ap (λ (zs : List Shape). met s.0.text s.1 || list_any (is_shape s.0.text s.1) zs) (take-append-le k xs ys within)

  again_right : (k : ℕ) (s : Shape) → is_met_again met (xs ++ ys) (length xs + k) s ≡ is_met_again grown ys k s
  again_right k s =
      ap (λ (zs : List Shape). met s.0.text s.1 || list_any (is_shape s.0.text s.1) zs) (take-append-add xs ys k)
      ∙ ap (λ b. met s.0.text s.1 || b) (list_any-append (is_shape s.0.text s.1) xs (take k ys))
      ∙ sym (or_assoc (met s.0.text s.1) (list_any (is_shape s.0.text s.1) xs) (list_any (is_shape s.0.text s.1) (take k ys)))
      ∙ ap (λ b. b || list_any (is_shape s.0.text s.1) (take k ys)) (sym (grows s.0.text s.1))

  module _ (place : ℕ) (kind : SpecFaultKind) where
    both_forth : AreMetAgain met xs place kind ⊎ AreMetAgain grown ys place kind → AreMetAgain met (xs ++ ys) place kind
    both_forth (inl h) =
        let within : h.at < length xs = slice_get_within xs h.at h.item h.is in
        record { at = h.at; item = h.item; is = get_left xs ys h.at within ∙ h.is; has = (again_left h.at h.item (omega (arith, within)) ∙ h.has.0, h.has.1, h.has.2) }
    both_forth (inr h) = record { at = length xs + h.at; item = h.item; is = get_right xs ys h.at ∙ h.is; has = (again_right h.at h.item ∙ h.has.0, h.has.1, h.has.2) }

    both_back : AreMetAgain met (xs ++ ys) place kind → AreMetAgain met xs place kind ⊎ AreMetAgain grown ys place kind
    both_back h = elim (cases_lt h.at (length xs)) [
      | inl within ↦ inl (record { at = h.at; item = h.item; is = sym (get_left xs ys h.at within) ∙ h.is; has = (sym (again_left h.at h.item (omega (arith, within))) ∙ h.has.0, h.has.1, h.has.2) })
      | inr past ↦ (
          let k : ℕ = h.at - length xs in
          let same : length xs + k ≡ h.at = omega (arith, past) in
          inr (record {
            at = k;
            item = h.item;
            is = sym (get_right xs ys k) ∙ ap (slice_get (xs ++ ys)) same ∙ h.is;
            has = (sym (again_right k h.item) ∙ ap (λ m. is_met_again met (xs ++ ys) m h.item) same ∙ h.has.0, h.has.1, h.has.2);
          }))
    ]

module _ {S : Type 0} where
  -- no names
  pub Meets-none : (met : HashSet (Bor (List ℕ) × ℕ) S) (old : Found) → Meets [] met met old old
  Meets-none met old = record {
    met = λ x n. sym (or-false (has_met met x n));
    noted = Gathers-none old (λ place kind h. let within : h.at < 0 = slice_get_within [] h.at h.item h.is in absurd (omega arith));
  }

  -- the names of one list and then those of another
  pub Meets-append : {before between after : HashSet (Bor (List ℕ) × ℕ) S} {old mid new : Found} (xs ys : List Shape) → Meets xs before between old mid → Meets ys between after mid new
      → Meets (xs ++ ys) before after old new
  Meets-append {before} {between} {after} xs ys m n = record {
    met = λ x k. n.met x k ∙ ap (λ b. b || list_any (is_shape x k) ys) (m.met x k)
        ∙ or_assoc (has_met before x k) (list_any (is_shape x k) xs) (list_any (is_shape x k) ys) ∙ ap (λ b. has_met before x k || b) (sym (list_any-append (is_shape x k) xs ys));
    noted = Gathers-same (Gathers-then m.noted n.noted) (λ place kind. (both_forth (has_met before) (has_met between) xs ys m.met place kind, both_back (has_met before) (has_met between) xs ys m.met place kind));
  }

-- FROM WHAT IS MET AGAIN TO WHAT IS DECLARED AGAIN

module _ {T : Type 0} (shape : T → Shape) (IsLike : T → T → Type 0) (xs : List T)
    (told : (a b : T) → IsLike a b → is_shape (shape b).0.text (shape b).1 (shape a) ≡ true) (tells : (a b : T) → is_shape (shape b).0.text (shape b).1 (shape a) ≡ true → IsLike a b)
    (place : ℕ) (kind : SpecFaultKind) where
  pub repeated_forth : AreRepeated (map shape xs) place kind → (b : T) × IsRepeated IsLike xs b × (place ≡ (shape b).0.place) × (kind ≡ kinds.Duplicate)
  repeated_forth h =
      let b = mapped shape xs h.at h.item h.is in
      let earlier = any_at (is_shape h.item.0.text h.item.1) (take h.at (map shape xs)) h.has.0 in
      let among = among_first (map shape xs) h.at earlier.0 earlier.1 earlier.2 in
      let a = mapped shape xs earlier.0 earlier.1 among.1 in
      let like : is_shape (shape b.0).0.text (shape b.0).1 (shape a.0) ≡ true =
      ap (λ (s : Shape). is_shape s.0.text s.1 (shape a.0)) b.2 ∙ ap (is_shape h.item.0.text h.item.1) a.2 ∙ earlier.3 in
      (b.0, record { earlier = earlier.0; later = h.at; a = a.0; before = among.0; first = a.1; second = b.1; like = tells a.0 b.0 like }, h.has.1 ∙ ap (λ (s : Shape). s.0.place) (sym b.2), h.has.2)

  pub repeated_back : (b : T) → IsRepeated IsLike xs b → place ≡ (shape b).0.place → kind ≡ kinds.Duplicate → AreRepeated (map shape xs) place kind
  repeated_back b r at of = record {
    at = r.later;
    item = shape b;
    is = map_of shape xs r.later b r.second;
    has = (
      at_any (is_shape (shape b).0.text (shape b).1) (take r.later (map shape xs)) r.earlier (shape r.a) (first_among (map shape xs) r.later r.earlier (shape r.a) r.before (map_of shape xs r.earlier r.a r.first)) (told r.a b r.like),
      at,
      of,
    );
  }

-- ONE NAME

abbrev pub Key : Type 0
Key = Bor (List ℕ) × ℕ

module _ {S : Type 0} (before after : HashSet Key S) (name : Named) (count : ℕ) (key : Key) (test : Key → Bool) (is_new : Bool)
    (tests : (k : Key) → test k ≡ (bytes_eq name.text k.0.now && (count == k.1))) (texts : key.0.now ≡ name.text) (counts : key.1 ≡ count)
    (added : is_new ≡ not (list_any test before.keys)) (kept : after.keys ≡ (if list_any test before.keys then before.keys else before.keys ++ key ∷ [])) where
  was : list_any test before.keys ≡ has_met before name.text count
  was = ap (λ (t : Key → Bool). list_any t before.keys) (λ i. λ k. tests k i)

  is_it : (x : List ℕ) (n : ℕ) → (bytes_eq x key.0.now && (n == key.1)) ≡ is_shape x n (name, count)
  is_it x n = λ i. bytes_eq x (texts i) && (n == counts i)

  met_already : list_any test before.keys ≡ true → (x : List ℕ) (n : ℕ) (b : Bool) → is_shape x n (name, count) ≡ b → has_met before x n ≡ (has_met before x n || (b || false))
  met_already h x n false e = sym (or-false (has_met before x n))
  met_already h x n true e =
      let parts = and_parts (bytes_eq x name.text) (n == count) e in
      let there : has_met before x n ≡ true =
      ap (λ (y : List ℕ). has_met before y n) ((bytes_decides x name.text).0 parts.0) ∙ ap (has_met before name.text) (eqb-true n count parts.1) ∙ sym was ∙ h in
      there ∙ sym (or_left (has_met before x n) true there)

  met_after : (b : Bool) → list_any test before.keys ≡ b → (x : List ℕ) (n : ℕ) → has_met after x n ≡ (has_met before x n || list_any (is_shape x n) ((name, count) ∷ []))
  met_after true e x n =
      ap (list_any (λ (k : Key). bytes_eq x k.0.now && (n == k.1))) (kept ∙ ap (λ b. if b then before.keys else before.keys ++ key ∷ []) e) ∙ met_already e x n (is_shape x n (name, count)) refl
  met_after false e x n =
      ap (list_any (λ (k : Key). bytes_eq x k.0.now && (n == k.1))) (kept ∙ ap (λ b. if b then before.keys else before.keys ++ key ∷ []) e)
      ∙ list_any-append (λ (k : Key). bytes_eq x k.0.now && (n == k.1)) before.keys (key ∷ []) ∙ ap (λ b. has_met before x n || (b || false)) (is_it x n)

  again : (not is_new ≡ true) → is_met_again (has_met before) ((name, count) ∷ []) 0 (name, count) ≡ true
  again h = or_left (has_met before name.text count) false (sym was ∙ by (list_any test before.keys) (sym (ap not added) ∙ h))
    where
      by : (b : Bool) → not (not b) ≡ true → b ≡ true
      by true e = refl
      by false e = e

  not_new : has_met before name.text count ≡ true → not is_new ≡ true
  not_new h = ap not (added ∙ ap not (was ∙ h))

  one_back : (place : ℕ) (kind : SpecFaultKind) (at : ℕ) (item : Shape) → slice_get ((name, count) ∷ []) at ≡ Some item
      → (is_met_again (has_met before) ((name, count) ∷ []) at item ≡ true) × (place ≡ item.0.place) × (kind ≡ kinds.Duplicate) → (not is_new ≡ true) × (place ≡ name.place) × (kind ≡ kinds.Duplicate)
  one_back place kind zero item is h =
      let same : item ≡ (name, count) = sym (same_Some (name, count) item is) in
      let there : is_met_again (has_met before) ((name, count) ∷ []) 0 (name, count) ≡ true = ap (is_met_again (has_met before) ((name, count) ∷ []) 0) (sym same) ∙ h.0 in
      (not_new (sym (or-false (has_met before name.text count)) ∙ there), h.1 ∙ ap (λ (s : Shape). s.0.place) same, h.2)
  one_back place kind (suc at) item is h = cc

  -- a name that is put into the set, and noted where it isn't new
  pub Meets-one : {old new : Found} → Gathers old new (IsFaultWhere (not is_new ≡ true) name.place kinds.Duplicate) → Meets ((name, count) ∷ []) before after old new
  Meets-one g = record {
    met = met_after (list_any test before.keys) refl;
    noted = Gathers-same g (λ place kind. (
      λ h. record { at = 0; item = (name, count); is = refl; has = (again h.0, h.1, h.2) },
      λ h. one_back place kind h.at h.item h.is h.has,
    ));
  }

-- ALL OF A LIST

module _ {S : Type 0} {before between after : HashSet Key S} {old mid new : Found} where
  -- one item more of a list
  pub Meets-one_more : {T : Type 0} (shape : T → Shape) (xs : List T) (i : ℕ) (x : T) → i < length xs → x ≡ get_or xs i x
      → Meets (map shape (take i xs)) before between old mid → Meets (shape x ∷ []) between after mid new → Meets (map shape (take (i + 1) xs)) before after old new
  Meets-one_more {T} shape xs i x within is m n =
      let ends : map shape (take i xs) ++ shape x ∷ [] ≡ map shape (take (i + 1) xs) =
      sym (map-append shape (take i xs) (x ∷ [])) ∙ ap (map shape) (ap (λ (y : T). take i xs ++ y ∷ []) is ∙ sym (take_more xs i x within)) in
      subst (λ (ss : List Shape). Meets ss before after old new) ends (Meets-append (map shape (take i xs)) (shape x ∷ []) m n)

  -- the names that one item more of a list stands for
  pub Meets-more : {T : Type 0} (shapes : T → List Shape) (xs : List T) (i : ℕ) (x : T) → i < length xs → x ≡ get_or xs i x
      → Meets (flat_map shapes (take i xs)) before between old mid → Meets (shapes x) between after mid new → Meets (flat_map shapes (take (i + 1) xs)) before after old new
  Meets-more {T} shapes xs i x within is m n =
      let ends : flat_map shapes (take i xs) ++ shapes x ≡ flat_map shapes (take (i + 1) xs) =
      ap (λ (ys : List Shape). flat_map shapes (take i xs) ++ ys) (sym (append-nil (shapes x))) ∙ sym (flat_map-append shapes (take i xs) (x ∷ []))
      ∙ ap (flat_map shapes) (ap (λ (y : T). take i xs ++ y ∷ []) is ∙ sym (take_more xs i x within)) in
      subst (λ (ss : List Shape). Meets ss before after old new) ends (Meets-append (flat_map shapes (take i xs)) (shapes x) m n)

module _ {S : Type 0} {before after : HashSet Key S} {old new : Found} where
  -- all of a list
  pub Meets-whole : {T : Type 0} (f : List T → List Shape) (xs : List T) (i : ℕ) → length xs ≤ i → Meets (f (take i xs)) before after old new → Meets (f xs) before after old new
  Meets-whole {T} f xs i all m = subst (λ (ys : List T). Meets (f ys) before after old new) (take_all i xs all) m

  -- the names of another list that is the same
  pub Meets-those : (xs ys : List Shape) → xs ≡ ys → Meets xs before after old new → Meets ys before after old new
  Meets-those xs ys same m = subst (λ (zs : List Shape). Meets zs before after old new) same m

  -- what is met again from the start on
  pub Meets-repeated : (shapes : List Shape) → before.keys ≡ [] → Meets shapes before after old new → Gathers old new (AreRepeated shapes)
  Meets-repeated shapes empty m =
      let none : has_met before ≡ (λ x n. false) = λ i. λ x n. list_any (λ (key : Key). bytes_eq x key.0.now && (n == key.1)) (empty i) in
      subst (λ (met : List ℕ → ℕ → Bool). Gathers old new (AreMetAgain met shapes)) none m.noted
