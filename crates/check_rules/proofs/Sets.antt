-- Sets of names.
use Rattle.std.proofs.Common.{◌≡◌, ℕ, Bool, true, false, ◌||◌, List, [], ◌∷◌, ◌++◌, bytes_eq, refl, sym, ap, ◌∙◌}
use Rattle.std.specs.Borrow.{Bor}
use Rattle.std.proofs.Math.Bool.{or-false}
use Rattle.std.specs.List.{list_any}
use Rattle.std.specs.Prelude.{if◌then◌else◌}
use Rattle.std.specs.Cmp.Lexicographic.{bytes_decides}
use Rattle.check_base.proofs.TableLemmas.{list_any-push}

-- a name that is among them already changes nothing
has_present : (keys : List (Bor (List ℕ))) (name x : List ℕ) → list_any (λ (k : Bor (List ℕ)). bytes_eq name k.now) keys ≡ true → list_any (λ (k : Bor (List ℕ)). bytes_eq x k.now) keys ≡ (list_any (λ (k : Bor (List ℕ)). bytes_eq x k.now) keys || bytes_eq x name)
has_present keys name x there = by (bytes_eq x name) refl
  where
    or_true : (b : Bool) → b ≡ true → b ≡ (b || true)
    or_true true h = refl
    or_true false h = h

    by : (b : Bool) → bytes_eq x name ≡ b → list_any (λ (k : Bor (List ℕ)). bytes_eq x k.now) keys ≡ (list_any (λ (k : Bor (List ℕ)). bytes_eq x k.now) keys || b)
    by false e = sym (or-false _)
    by true e = or_true _ (ap (λ (y : List ℕ). list_any (λ (k : Bor (List ℕ)). bytes_eq y k.now) keys) ((bytes_decides x name).0 e) ∙ there)

-- the names of a set after an insertion
pub has_more : (keys new : List (Bor (List ℕ))) (key : Bor (List ℕ)) → new ≡ (if list_any (λ (k : Bor (List ℕ)). bytes_eq key.now k.now) keys then keys else keys ++ key ∷ []) → (x : List ℕ)
    → list_any (λ (k : Bor (List ℕ)). bytes_eq x k.now) new ≡ (list_any (λ (k : Bor (List ℕ)). bytes_eq x k.now) keys || bytes_eq x key.now)
has_more keys new key made x = ap (list_any (λ (k : Bor (List ℕ)). bytes_eq x k.now)) made ∙ by (list_any (λ (k : Bor (List ℕ)). bytes_eq key.now k.now) keys) refl
  where
    by : (b : Bool) → list_any (λ (k : Bor (List ℕ)). bytes_eq key.now k.now) keys ≡ b
        → list_any (λ (k : Bor (List ℕ)). bytes_eq x k.now) (if b then keys else keys ++ key ∷ []) ≡ (list_any (λ (k : Bor (List ℕ)). bytes_eq x k.now) keys || bytes_eq x key.now)
    by true there = has_present keys key.now x there
    by false absent = list_any-push (λ (k : Bor (List ℕ)). bytes_eq x k.now) keys key
