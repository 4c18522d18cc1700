-- What an answer tells of the answers that it was made of.
use Rattle.std.proofs.Common.{◌≡◌, Bool, true, false, List, ℕ, Some, None, Option, refl, ap}
use Rattle.std.specs.Prelude.{if◌then◌else◌, not, option_map, unwrap_or}
use Rattle.value_text.specs.inner.Reading.{Reading, ◌>>=◌, as_part}

pub bound : {A B : Type 0} (o : Option A) (f : A → Option B) (y : B) → (o >>= f) ≡ Some y → (x : A) × (o ≡ Some x) × (f x ≡ Some y)
bound None f y e = absurd cc
bound (Some x) f y e = (x, refl, e)

pub mapped : {A B : Type 0} (f : A → B) (o : Option A) (y : B) → option_map f o ≡ Some y → (x : A) × (o ≡ Some x) × (f x ≡ y)
mapped f None y e = absurd cc
mapped f (Some x) y e = (x, refl, ap (λ o. unwrap_or o y) e)

pub passed : {A : Type 0} (t : Bool) (o : Option A) (y : A) → (if t then o else None) ≡ Some y → (t ≡ true) × (o ≡ Some y)
passed true o y e = (refl, e)
passed false o y e = absurd cc

pub kept : {A : Type 0} (t : Bool) (o : Option A) (y : A) → (if t then None else o) ≡ Some y → (t ≡ false) × (o ≡ Some y)
kept true o y e = absurd cc
kept false o y e = (refl, e)

pub one_is : {A : Type 0} (x y : A) → Some x ≡ Some y → x ≡ y
one_is x y e = ap (λ o. unwrap_or o y) e

pub both_are : {A B : Type 0} (a x : A) (b y : B) → ◌≡◌ {A = Option (A × B)} (Some (a, b)) (Some (x, y)) → (a ≡ x) × (b ≡ y)
both_are {A} {B} a x b y e = (ap (λ (o : Option (A × B)). (unwrap_or o (a, b)).0) e, ap (λ (o : Option (A × B)). (unwrap_or o (a, b)).1) e)

pub part_is : {X Y : Type 0} (f : X → Y) (o : Reading X) (y : Y) (rest : List ℕ) → as_part f o ≡ Some (y, rest) → (x : X) × (o ≡ Some (x, rest)) × (f x ≡ y)
part_is f None y rest e = absurd cc
part_is f (Some x) y rest e = let p = both_are (f x.0) y x.1 rest e in (x.0, ap (λ r. Some (x.0, r)) p.1, p.0)

pub not_holds : (t : Bool) → (t ≡ true → ⊥) → not t ≡ true
not_holds true f = absurd (f refl)
not_holds false f = refl

pub not_told : (t : Bool) → not t ≡ true → t ≡ false
not_told true e = absurd cc
not_told false e = refl
