-- Lists that stand side by side, item by item.
use Rattle.std.proofs.Common.{◌≡◌, ℕ, zero, suc, ◌+◌, ◌<◌, List, [], ◌∷◌, ◌++◌, length, take, get_or, Some, arith, add-one, refl, sym, ap, ◌∙◌, subst}
use Rattle.std.specs.Prelude.{Contains, slice_get}
use Rattle.std.specs.List.{AllZip}
use Rattle.std.proofs.Math.Seq.{take-suc}
use Rattle.std.proofs.lemmas.Option.{get_or_from_slice_get, slice_get-get_or, slice_get_within}

-- an item of a list stands in it
pub among_at : {X : Type 0} (xs ys : List X) (k : ℕ) (x : X) → xs ≡ ys → k < length xs → x ≡ get_or xs k x → Contains ys x
among_at xs ys k x same within is = subst (λ zs. Contains zs x) same (k, within, sym is)

-- an item at a place below a number is among the first
pub taken : {X : Type 0} (xs : List X) (n k : ℕ) (x : X) → k < n → slice_get xs k ≡ Some x → slice_get (take n xs) k ≡ Some x
taken [] n k x less e = cc
taken (y ∷ xs) zero k x less e = absurd (omega (arith, less))
taken (y ∷ xs) (suc n) zero x less e = e
taken (y ∷ xs) (suc n) (suc k) x less e = taken xs n k x (omega (arith, less)) e

module _ {A B : Type 0} (R : A → B → Type 0) where
  zip_more : (xs : List A) (ys : List B) (x : A) (y : B) → AllZip R xs ys → R x y → AllZip R (xs ++ x ∷ []) (ys ++ y ∷ [])
  zip_more [] [] x y h r = (r, tt)
  zip_more [] (v ∷ ys) x y h r = absurd h
  zip_more (u ∷ xs) [] x y h r = absurd h
  zip_more (u ∷ xs) (v ∷ ys) x y h r = (h.0, zip_more xs ys x y h.1 r)

  -- one more item of the left list, and its own behind the right one
  pub zip_step : (xs zs : List A) (k : ℕ) (x : A) (ys more : List B) (y : B) → xs ≡ zs → k < length xs → x ≡ get_or xs k x → more ≡ ys ++ y ∷ [] → AllZip R (take k zs) ys → R x y → AllZip R (take (k + 1) zs) more
  zip_step xs zs k x ys more y same within is pushed h r =
      let opened : take (k + 1) xs ≡ take k xs ++ x ∷ [] = ap (λ n. take n xs) (add-one k) ∙ take-suc xs k x within ∙ ap (λ z. take k xs ++ z ∷ []) (sym is) in
      subst (λ vs. AllZip R (take (k + 1) zs) vs) (sym pushed)
      (subst (λ us. AllZip R us (ys ++ y ∷ [])) (sym opened ∙ ap (take (k + 1)) same)
      (zip_more (take k xs) ys x y (subst (λ us. AllZip R us ys) (ap (take k) (sym same)) h) r))

  -- what stands beside an item
  pub zip_at : (xs : List A) (ys : List B) (k : ℕ) (x : A) → AllZip R xs ys → slice_get xs k ≡ Some x → (y : B) × (slice_get ys k ≡ Some y) × R x y
  zip_at [] ys k x h e = cc
  zip_at (u ∷ xs) [] k x h e = absurd h
  zip_at (u ∷ xs) (v ∷ ys) zero x h e = let same : u ≡ x = cc in (v, refl, subst (λ z. R z v) same h.0)
  zip_at (u ∷ xs) (v ∷ ys) (suc k) x h e = zip_at xs ys k x h.1 e

  -- the item beside an item
  pub zip_get : (xs : List A) (ys : List B) (k : ℕ) (x : A) → AllZip R xs ys → k < length xs → x ≡ get_or xs k x → (k < length ys) × ((y : B) → y ≡ get_or ys k y → R x y)
  zip_get xs ys k x h within is =
      let other = zip_at xs ys k x h (slice_get-get_or xs k x within ∙ ap Some (sym is)) in
      (slice_get_within ys k other.0 other.1, λ y e. subst (R x) (sym (e ∙ get_or_from_slice_get ys k other.0 y other.1)) other.2)
