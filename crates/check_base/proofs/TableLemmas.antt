-- Tables in which the first of a name counts, and lists that grow at the end.
use Rattle.std.proofs.Common.{◌≡◌, ℕ, ◌+◌, ◌<◌, get_or, map, Bool, true, false, cond, ◌||◌, List, [], ◌∷◌, ◌++◌, length, take, Option, None, Some, is_some, bytes_eq, refl, sym, ap, ◌∙◌, true≢false, arith}
use Rattle.std.proofs.lemmas.List.{map-append, take_more, length-take-le}
use Rattle.std.specs.Borrow.{Bor}
use Rattle.std.specs.List.{list_any, position_from}
use Rattle.std.specs.Map.{lookup}
use Rattle.std.specs.HashMap.{HashMap, get}
use Rattle.std.specs.Prelude.{◌==◌, ◌&&◌}
use Rattle.indexmap.specs.IndexMap.{insert_entry}
use Rattle.indexmap.proofs.CallerLemmas.{insert_entry-new}
use Rattle.check_base.specs.Tables.{or_where, shape_in, value_in}

-- one entry more
pub lookup-push : {K V : Type 0} (t : K → Bool) (es : List (K × V)) (k : K) (v : V) → lookup t (es ++ (k, v) ∷ []) ≡ or_where (lookup t es) (t k) v
lookup-push t [] k v = refl
lookup-push t (e ∷ es) k v = by (lookup-push t es k v) (t e.0)
  where
    by : lookup t (es ++ (k, v) ∷ []) ≡ or_where (lookup t es) (t k) v → (b : Bool) → cond b (Some e.1) (lookup t (es ++ (k, v) ∷ [])) ≡ or_where (cond b (Some e.1) (lookup t es)) (t k) v
    by rest true = refl
    by rest false = rest

pub list_any-push : {T : Type 0} (t : T → Bool) (xs : List T) (y : T) → list_any t (xs ++ y ∷ []) ≡ (list_any t xs || t y)
list_any-push t [] y = by (t y)
  where
    by : (b : Bool) → (b || false) ≡ b
    by true = refl
    by false = refl
list_any-push t (x ∷ xs) y = by (list_any-push t xs y) (t x)
  where
    by : list_any t (xs ++ y ∷ []) ≡ (list_any t xs || t y) → (b : Bool) → (b || list_any t (xs ++ y ∷ [])) ≡ ((b || list_any t xs) || t y)
    by rest true = refl
    by rest false = rest

pub position_from-push : {T : Type 0} (t : T → Bool) (n : ℕ) (xs : List T) (y : T) → position_from t n (xs ++ y ∷ []) ≡ or_where (position_from t n xs) (t y) (n + length xs)
position_from-push t n [] y = ap (λ (m : ℕ). or_where None (t y) m) (omega arith)
position_from-push t n (x ∷ xs) y = by (position_from-push t (n + 1) xs y ∙ ap (or_where (position_from t (n + 1) xs) (t y)) (omega arith)) (t x)
  where
    by : position_from t (n + 1) (xs ++ y ∷ []) ≡ or_where (position_from t (n + 1) xs) (t y) (n + length (x ∷ xs)) → (b : Bool)
        → cond b (Some n) (position_from t (n + 1) (xs ++ y ∷ [])) ≡ or_where (cond b (Some n) (position_from t (n + 1) xs)) (t y) (n + length (x ∷ xs))
    by rest true = refl
    by rest false = rest

pub none_from_is_some : {V : Type 0} (o : Option V) → is_some o ≡ false → o ≡ None
none_from_is_some None h = refl
none_from_is_some (Some v) h = absurd (true≢false h)

module _ {V S : Type 0} where
  -- what an insertion of a new name makes
  pub value_in-insert : (old new : HashMap (Bor (List ℕ)) V S) (eq : Bor (List ℕ) → Bor (List ℕ) → Bool) (key : Bor (List ℕ)) (v : V) → get eq old key ≡ None → new.entries ≡ insert_entry eq old.entries key v → (x : List ℕ)
      → value_in new x ≡ or_where (value_in old x) (bytes_eq x key.now) v
  value_in-insert old new eq key v absent made x =
      ap (lookup (λ (k : Bor (List ℕ)). bytes_eq x k.now)) (made ∙ insert_entry-new eq old key v absent) ∙ lookup-push (λ (k : Bor (List ℕ)). bytes_eq x k.now) old.entries key v

-- the same along a list
pub position_from-next : {T : Type 0} (t : T → Bool) (xs : List T) (i : ℕ) (y : T) (old new : Option ℕ) (b : Bool) → i < length xs → y ≡ get_or xs i y → old ≡ position_from t 0 (take i xs) → b ≡ t y → new ≡ or_where old b i
    → new ≡ position_from t 0 (take (i + 1) xs)
position_from-next t xs i y old new b within is was test made =
    made ∙ ap (λ o. or_where o b i) was ∙ ap (λ c. or_where (position_from t 0 (take i xs)) c i) test
    ∙ ap (or_where (position_from t 0 (take i xs)) (t y)) (omega (arith, length-take-le i xs (omega arith)))
    ∙ sym (position_from-push t 0 (take i xs) y) ∙ ap (position_from t 0) (sym (take_more xs i y within ∙ ap (λ z. take i xs ++ z ∷ []) (sym is)))

module _ {V S : Type 0} where
  -- what an insertion of a new name and count makes
  pub shape_in-insert : (old new : HashMap (Bor (List ℕ) × ℕ) V S) (eq : Bor (List ℕ) × ℕ → Bor (List ℕ) × ℕ → Bool) (key : Bor (List ℕ) × ℕ) (v : V) → get eq old key ≡ None → new.entries ≡ insert_entry eq old.entries key v
      → (x : List ℕ) (n : ℕ) → shape_in new x n ≡ or_where (shape_in old x n) (bytes_eq x key.0.now && (n == key.1)) v
  shape_in-insert old new eq key v absent made x n =
      ap (lookup (λ (k : Bor (List ℕ) × ℕ). bytes_eq x k.0.now && (n == k.1))) (made ∙ insert_entry-new eq old key v absent) ∙ lookup-push (λ (k : Bor (List ℕ) × ℕ). bytes_eq x k.0.now && (n == k.1)) old.entries key v

-- two lists that map alike, each with one item more
pub maps-next : {A B C : Type 0} (f : A → C) (g : B → C) (done new : List A) (a : A) (xs : List B) (i : ℕ) (y : B) → i < length xs → y ≡ get_or xs i y → new ≡ done ++ a ∷ [] → map f done ≡ map g (take i xs) → f a ≡ g y
    → map f new ≡ map g (take (i + 1) xs)
maps-next f g done new a xs i y within is pushed was same =
    ap (map f) pushed ∙ map-append f done (a ∷ []) ∙ ap (λ zs. zs ++ f a ∷ []) was ∙ ap (λ z. map g (take i xs) ++ z ∷ []) same ∙ sym (map-append g (take i xs) (y ∷ []))
    ∙ ap (map g) (sym (take_more xs i y within ∙ ap (λ z. take i xs ++ z ∷ []) (sym is)))

-- whether there is a first that passes
pub is_some-position_from : {T : Type 0} (t : T → Bool) (n : ℕ) (xs : List T) → is_some (position_from t n xs) ≡ list_any t xs
is_some-position_from t n [] = refl
is_some-position_from t n (x ∷ xs) = by (is_some-position_from t (n + 1) xs) (t x)
  where
    by : is_some (position_from t (n + 1) xs) ≡ list_any t xs → (b : Bool) → is_some (cond b (Some n) (position_from t (n + 1) xs)) ≡ (b || list_any t xs)
    by rest true = refl
    by rest false = rest
