-- The order of paths.
use Rattle.std.proofs.Common.{inl, inr, ◌≡◌, ◌≢◌, ℕ, ◌<◌, List, [], ◌∷◌, ◌++◌, refl, ap, ◌∙◌, arith}
use Rattle.std.specs.Prelude.{◌⊎◌}
use Rattle.std.specs.declared.cmp.Ordering.{Ordering}
use Rattle.std.specs.declared.cmp.Ordering.TheVariants.{Less, Equal, Greater}
use Rattle.std.specs.Ordering.{nat_cmp, ordering_then, MatchOrdering}
use Rattle.std.specs.Cmp.{ranks}
use Rattle.flow_term.specs.Paths.{path_cmp}

-- no number is below itself
itself : (n : ℕ) (o : Ordering) → MatchOrdering o (n < n) (n ≡ n) (n < n) → o ≡ Equal
itself n Less h = absurd (omega arith)
itself n Equal h = refl
itself n Greater h = absurd (omega arith)

pub step_itself : (n : ℕ) → nat_cmp n n ≡ Equal
step_itself n = itself n (nat_cmp n n) (ranks n n)

later : (k n : ℕ) (o : Ordering) → n < k → MatchOrdering o (k < n) (k ≡ n) (n < k) → o ≡ Greater
later k n Less f h = absurd (omega arith)
later k n Equal f h = absurd (omega arith)
later k n Greater f h = refl

pub step_later : (k n : ℕ) → n < k → nat_cmp k n ≡ Greater
step_later k n f = later k n (nat_cmp k n) f (ranks k n)

-- a number is before, at or behind another
pub sides : (k n : ℕ) → (k < n) ⊎ ((k ≡ n) ⊎ (n < k))
sides k n = go (nat_cmp k n) (ranks k n)
  where
    go : (o : Ordering) → MatchOrdering o (k < n) (k ≡ n) (n < k) → (k < n) ⊎ ((k ≡ n) ⊎ (n < k))
    go Less h = inl h
    go Equal h = inr (inl h)
    go Greater h = inr (inr h)

-- nothing is before the empty path
pub none_before_root : (path : List ℕ) → path_cmp path [] ≢ Less
none_before_root [] e = cc
none_before_root (n ∷ path) e = cc

-- behind the same steps the order is that of the rests
pub same_front : (front p q : List ℕ) → path_cmp (front ++ p) (front ++ q) ≡ path_cmp p q
same_front [] p q = refl
same_front (n ∷ front) p q = ap (λ (o : Ordering). ordering_then o (path_cmp (front ++ p) (front ++ q))) (step_itself n) ∙ same_front front p q

turned : (x y : ℕ) (one other : Ordering) (p q : Ordering) → MatchOrdering one (x < y) (x ≡ y) (y < x) → MatchOrdering other (y < x) (y ≡ x) (x < y)
    → ordering_then one p ≢ Less → ordering_then other q ≢ Less → (x ≡ y) × (p ≢ Less) × (q ≢ Less)
turned x y Less other p q h k f g = absurd (f refl)
turned x y Equal Less p q h k f g = absurd (g refl)
turned x y Equal Equal p q h k f g = (h, f, g)
turned x y Equal Greater p q h k f g = absurd (omega arith)
turned x y Greater Less p q h k f g = absurd (g refl)
turned x y Greater Equal p q h k f g = absurd (omega arith)
turned x y Greater Greater p q h k f g = absurd (omega arith)

-- paths of which neither is before the other are the same
pub same_path : (p q : List ℕ) → path_cmp p q ≢ Less → path_cmp q p ≢ Less → p ≡ q
same_path [] [] f g = refl
same_path [] (y ∷ q) f g = absurd (f refl)
same_path (x ∷ p) [] f g = absurd (g refl)
same_path (x ∷ p) (y ∷ q) f g =
    let h : (x ≡ y) × (path_cmp p q ≢ Less) × (path_cmp q p ≢ Less) = turned x y (nat_cmp x y) (nat_cmp y x) (path_cmp p q) (path_cmp q p) (ranks x y) (ranks y x) f g in
    ap (λ (n : ℕ). n ∷ p) h.0 ∙ ap (λ (r : List ℕ). y ∷ r) (same_path p q h.1 h.2)
