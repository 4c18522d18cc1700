-- Tables of names and their numbers.
use Rattle.std.proofs.Common.{◌≡◌, ℕ, zero, suc, ◌+◌, ◌*◌, ◌<◌, Bool, true, false, ◌||◌, List, [], ◌∷◌, length, map, get_or, arith, refl, sym, ap, subst, ◌∙◌, bytes_eq}
use Rattle.std.specs.Prelude.{◌==◌, IsTrue, All, Contains}
use Rattle.std.specs.List.{list_any}
use Rattle.std.proofs.Math.Numerals.{add-one}
use Rattle.std.proofs.lemmas.Bool.{true≢false}
use Rattle.std.proofs.lemmas.Bool.Decides.{Decides-eqb}
use Rattle.std.proofs.lemmas.List.{length-map, get_or-map}
use Rattle.std.proofs.lemmas.List.Elements.{All-get_or, All-head, All-tail, Contains-get_or}
use Rattle.std.proofs.lemmas.Nat.{mul-add-lt}
use Rattle.std.proofs.lemmas.Slice.Eq.{bytes_eq-Decides}
use Rattle.flow_term.specs.Orders.{EachOnce}
use Rattle.lattice_base.specs.Laws.{JoinLaws}
use Rattle.value_domains.specs.Domains.{Table, place_in, has_element, table_join}
use Rattle.value_domains.specs.Lawful.{IsLawfulTable}
use Rattle.table_laws.specs.JoinTables.{JoinTable, IsElement, IsComplete, IsLawful, join_of, named, numbered}

-- what is not refuted of two numbers holds
pub same_numbers : (a b : ℕ) → ((a ≡ b → ⊥) → ⊥) → a ≡ b
same_numbers a b h = by (a == b) refl
  where
    by : (t : Bool) → (a == b) ≡ t → a ≡ b
    by true e = (Decides-eqb a b).0 e
    by false e = absurd (h (λ k. true≢false (sym ((Decides-eqb a b).1 k) ∙ e)))

-- PLACES OF NAMES

abbrev is_in : List (List ℕ) → List ℕ → Bool
is_in xs x = list_any (bytes_eq x) xs

pub place_below : (xs : List (List ℕ)) (x : List ℕ) → is_in xs x ≡ true → place_in xs x < length xs
place_below [] x h = absurd (true≢false (sym h))
place_below (y ∷ ys) x h = by (bytes_eq x y) h (place_below ys x)
  where
    by : (b : Bool) → (b || is_in ys x) ≡ true → (is_in ys x ≡ true → place_in ys x < length ys) → elim b as (λ b. ℕ) [ true ↦ 0 | false ↦ place_in ys x + 1 ] < suc (length ys)
    by true k later = omega arith
    by false k later = omega (arith, later k)

pub place_listed : (xs : List (List ℕ)) (x : List ℕ) → place_in xs x < length xs → is_in xs x ≡ true
place_listed [] x h = absurd (omega (arith, h))
place_listed (y ∷ ys) x h = by (bytes_eq x y) h (place_listed ys x)
  where
    by : (b : Bool) → elim b as (λ b. ℕ) [ true ↦ 0 | false ↦ place_in ys x + 1 ] < suc (length ys) → (place_in ys x < length ys → is_in ys x ≡ true) → (b || is_in ys x) ≡ true
    by true k later = refl
    by false k later = later (omega (arith, k))

-- the name at the place of a listed one is that name
pub place_back : (xs : List (List ℕ)) (x d : List ℕ) → is_in xs x ≡ true → get_or xs (place_in xs x) d ≡ x
place_back [] x d h = absurd (true≢false (sym h))
place_back (y ∷ ys) x d h = by (bytes_eq x y) refl h (place_back ys x d)
  where
    by : (b : Bool) → bytes_eq x y ≡ b → (b || is_in ys x) ≡ true → (is_in ys x ≡ true → get_or ys (place_in ys x) d ≡ x) → get_or (y ∷ ys) (elim b as (λ b. ℕ) [ true ↦ 0 | false ↦ place_in ys x + 1 ]) d ≡ x
    by true e k later = sym ((bytes_eq-Decides x y).0 e)
    by false e k later = subst (λ n. get_or (y ∷ ys) n d ≡ x) (sym (add-one (place_in ys x))) (later k)

-- a name that is there is listed
pub listed_in : (xs : List (List ℕ)) (x : List ℕ) → Contains xs x → is_in xs x ≡ true
listed_in [] x h = absurd (omega (arith, h.1))
listed_in (y ∷ ys) x (zero, l, e) = subst (λ z. (bytes_eq x z || is_in ys x) ≡ true) (sym e) (subst (λ b. (b || is_in ys x) ≡ true) (sym ((bytes_eq-Decides x x).1 refl)) refl)
listed_in (y ∷ ys) x (suc k, l, e) = later (bytes_eq x y) (listed_in ys x (k, omega (arith, l), e))
  where
    later : (b : Bool) → is_in ys x ≡ true → (b || is_in ys x) ≡ true
    later true h = refl
    later false h = h

-- a name that stands once has the place at which it stands
pub place_at : (xs : List (List ℕ)) (i : ℕ) (d : List ℕ) → EachOnce xs → i < length xs → place_in xs (get_or xs i d) ≡ i
place_at [] i d once h = absurd (omega (arith, h))
place_at (y ∷ ys) zero d once h = subst (λ b. elim b as (λ b. ℕ) [ true ↦ 0 | false ↦ place_in ys y + 1 ] ≡ 0) (sym ((bytes_eq-Decides y y).1 refl)) refl
place_at (y ∷ ys) (suc i) d once h = by (bytes_eq (get_or ys i d) y) refl (place_at ys i d once.1 (omega (arith, h)))
  where
    by : (b : Bool) → bytes_eq (get_or ys i d) y ≡ b → place_in ys (get_or ys i d) ≡ i → elim b as (λ b. ℕ) [ true ↦ 0 | false ↦ place_in ys (get_or ys i d) + 1 ] ≡ suc i
    by true e later = absurd (once.0 (subst (Contains ys) ((bytes_eq-Decides (get_or ys i d) y).0 e) (Contains-get_or ys i d (omega (arith, h)))))
    by false e later = omega (arith, later)

-- LAWS ALONG A MAP THAT TELLS VALUES APART

module _ {V W : Type 0} (Valid : V → Type 0) (least : V) (joined : V → V → V) (Other : W → Type 0) (other_least : W) (other_joined : W → W → W)
    (to : V → W) (valid : (v : V) → Valid v → Other (to v)) (apart : (v w : V) → Valid v → Valid w → to v ≡ to w → v ≡ w)
    (least_is : Valid least) (joined_is : (v w : V) → Valid v → Valid w → Valid (joined v w))
    (least_to : to least ≡ other_least) (joined_to : (v w : V) → Valid v → Valid w → to (joined v w) ≡ other_joined (to v) (to w)) where
  pub laws_back : JoinLaws Other other_least other_joined → JoinLaws Valid least joined
  laws_back laws =
      record {
        least_valid = least_is;
        joined_valid = joined_is;
        idempotent = λ v a. apart (joined v v) v (joined_is v v a a) a (joined_to v v a a ∙ laws.idempotent (to v) (valid v a));
        commutative = λ v w a b. apart (joined v w) (joined w v) (joined_is v w a b) (joined_is w v b a) (joined_to v w a b ∙ laws.commutative (to v) (to w) (valid v a) (valid w b) ∙ sym (joined_to w v b a));
        associative = λ u v w a b c.
            let one = joined_is u v a b in
            let other = joined_is v w b c in
            apart (joined (joined u v) w) (joined u (joined v w)) (joined_is (joined u v) w one c) (joined_is u (joined v w) a other)
            (joined_to (joined u v) w one c ∙ ap (λ x. other_joined x (to w)) (joined_to u v a b) ∙ laws.associative (to u) (to v) (to w) (valid u a) (valid v b) (valid w c)
            ∙ ap (other_joined (to u)) (sym (joined_to v w b c)) ∙ sym (joined_to u (joined v w) a other));
        neutral = λ v a. apart (joined least v) v (joined_is least v least_is a) a (joined_to least v least_is a ∙ ap (λ x. other_joined x (to v)) least_to ∙ laws.neutral (to v) (valid v a));
      }

-- TABLES OF NAMES

-- the join of two elements is one
pub join_within : (t : JoinTable) → IsComplete t → (a b : ℕ) → IsElement t a → IsElement t b → IsElement t (join_of t a b)
join_within t complete a b h k = All-get_or (IsElement t) t.join (a * t.count + b) 0 (omega (arith, mul-add-lt a t.count b t.count h k, complete.size)) complete.entries

module _ (t : Table) (complete : IsComplete (numbered t)) where
  abbrev number : List ℕ → ℕ
  number x = place_in t.elements x

  abbrev name : ℕ → List ℕ
  name i = get_or t.elements i []

  abbrev IsListed : List ℕ → Type 0
  IsListed x = IsTrue (has_element t x)

  number_of_entry : (i : ℕ) → i < length t.elements * length t.elements → number (get_or t.join i t.bottom) ≡ get_or (numbered t).join i 0
  number_of_entry i h = sym (get_or-map (place_in t.elements) t.join i t.bottom 0 (omega (arith, h, complete.size, length-map t.join (place_in t.elements))))

  pub numbered_join : (a b : List ℕ) → IsListed a → IsListed b → number (table_join t a b) ≡ join_of (numbered t) (number a) (number b)
  numbered_join a b h k =
      number_of_entry (number a * length t.elements + number b) (mul-add-lt (number a) (length t.elements) (number b) (length t.elements) (place_below t.elements a h) (place_below t.elements b k))

  pub numbered_apart : (a b : List ℕ) → IsListed a → IsListed b → number a ≡ number b → a ≡ b
  numbered_apart a b h k e = sym (place_back t.elements a [] h) ∙ ap name e ∙ place_back t.elements b [] k

  pub joined_listed : (a b : List ℕ) → IsListed a → IsListed b → IsListed (table_join t a b)
  joined_listed a b h k =
      place_listed t.elements (table_join t a b)
      (subst (IsElement (numbered t)) (sym (numbered_join a b h k)) (join_within (numbered t) complete (number a) (number b) (place_below t.elements a h) (place_below t.elements b k)))

  -- where the numbers are those of a lattice, so are the names
  pub lawful_names : IsLawful (numbered t) → IsLawfulTable t
  lawful_names = laws_back IsListed t.bottom (table_join t) (IsElement (numbered t)) (number t.bottom) (join_of (numbered t)) number
      (λ x h. place_below t.elements x h) numbered_apart (place_listed t.elements t.bottom complete.bottom) joined_listed refl numbered_join

  module _ (once : EachOnce t.elements) where
    named_apart : (a b : ℕ) → IsElement (numbered t) a → IsElement (numbered t) b → name a ≡ name b → a ≡ b
    named_apart a b h k e = sym (place_at t.elements a [] once h) ∙ ap number e ∙ place_at t.elements b [] once k

    named_join : (a b : ℕ) → IsElement (numbered t) a → IsElement (numbered t) b → name (join_of (numbered t) a b) ≡ table_join t (name a) (name b)
    named_join a b h k =
        let n = length t.elements in
        let within : a * n + b < n * n = mul-add-lt a n b n h k in
        let entry = get_or t.join (a * n + b) t.bottom in
        let listed : IsListed entry = place_listed t.elements entry (subst (IsElement (numbered t)) (sym (number_of_entry (a * n + b) within)) (join_within (numbered t) complete a b h k)) in
        ap name (sym (number_of_entry (a * n + b) within)) ∙ place_back t.elements entry [] listed
        ∙ sym (λ i. get_or t.join (place_at t.elements a [] once h i * n + place_at t.elements b [] once k i) t.bottom)

    -- and where the names are, so are the numbers
    pub lawful_numbers : IsLawfulTable t → IsLawful (numbered t)
    lawful_numbers = laws_back (IsElement (numbered t)) (number t.bottom) (join_of (numbered t)) IsListed t.bottom (table_join t) name
        (λ i h. listed_in t.elements (name i) (Contains-get_or t.elements i [] h)) named_apart complete.bottom (join_within (numbered t) complete)
        (place_back t.elements t.bottom [] (place_listed t.elements t.bottom complete.bottom)) named_join

  map_back : (xs : List (List ℕ)) → All (IsElement (numbered t)) (map (place_in t.elements) xs) → map name (map (place_in t.elements) xs) ≡ xs
  map_back [] all = refl
  map_back (x ∷ xs) all =
      let listed : IsListed x = place_listed t.elements x (All-head (IsElement (numbered t)) (number x) (map (place_in t.elements) xs) all) in
      λ i. place_back t.elements x [] listed i ∷ map_back xs (All-tail (IsElement (numbered t)) (number x) (map (place_in t.elements) xs) all) i

  -- the names of the numbers of a table are the table
  pub names_back : named t.elements (numbered t) ≡ t
  names_back i = record {
    elements = t.elements;
    bottom = place_back t.elements t.bottom [] (place_listed t.elements t.bottom complete.bottom) i;
    join = map_back t.join complete.entries i;
  }
