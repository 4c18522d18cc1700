-- The least misfit among the children of a term.
use Rattle.std.proofs.Common.{◌≡◌, ◌≢◌, ℕ, ◌+◌, ◌<◌, ◌≤◌, List, [], ◌∷◌, length, Option, Some, sym, ap, subst, ◌∙◌, inl, inr, arith}
use Rattle.std.specs.Prelude.{◌↔◌, ◌⊎◌, slice_get}
use Rattle.std.specs.declared.cmp.Ordering.{Ordering}
use Rattle.std.specs.declared.cmp.Ordering.TheVariants.{Less, Greater}
use Rattle.std.specs.Ordering.{nat_cmp, ordering_then}
use Rattle.std.proofs.lemmas.Option.{slice_get_within, same_Some}
use Rattle.flow_term.specs.declared.term.Term.{Term}
use Rattle.flow_term.specs.Paths.{path_cmp}
use Rattle.flow_syntax.specs.declared.signature.Constructor.{Constructor}
use Rattle.flow_syntax.specs.declared.signature.TreeSort.{TreeSort}
use Rattle.tree_fitting.specs.Children.{MisfitsAmong, MisfitsInChild}
use Rattle.tree_fitting.specs.Fits.{MisfitsBelow}
use Rattle.tree_fitting.specs.Least.{IsLeastOf}
use Rattle.tree_fitting.proofs.OrderLemmas.{sides, step_itself, step_later}

-- the least of these is the least of the same
pub least_same : {P Q : List ℕ → Type 0} (path : List ℕ) → ((p : List ℕ) → P p ↔ Q p) → IsLeastOf P path → IsLeastOf Q path
least_same path same least = record { among = (same path).0 least.among; none_before = λ other q. least.none_before other ((same other).1 q) }

module _ (cs : List Constructor) (expected : ℕ → Option TreeSort) (ts : List Term) where
  -- no misfit in the children before this number
  abbrev pub NoneBefore : ℕ → Type 0
  NoneBefore n = (k : ℕ) → k < n → (rest : List ℕ) → ¬ MisfitsInChild cs expected ts k rest

  module _ (n : ℕ) (child : Term) (sort : TreeSort) (is : slice_get ts n ≡ Some child) (wanted : expected n ≡ Some sort) where
    at_child : (rest : List ℕ) → MisfitsInChild cs expected ts n rest → MisfitsBelow cs sort child rest
    at_child rest c =
        subst (λ (u : Term). MisfitsBelow cs sort u rest) (same_Some c.child child (sym c.is ∙ is))
        (subst (λ (s : TreeSort). MisfitsBelow cs s c.child rest) (same_Some c.sort sort (sym c.wanted ∙ wanted)) c.inside)

    -- no misfit in one child more
    pub none_more : NoneBefore n → ((rest : List ℕ) → ¬ MisfitsBelow cs sort child rest) → NoneBefore (n + 1)
    none_more before none k within rest c = elim (sides k n) [
      | inl less ↦ before k less rest c
      | inr other ↦ elim other [
        | inl same ↦ none rest (at_child rest (subst (λ (m : ℕ). MisfitsInChild cs expected ts m rest) same c))
        | inr more ↦ absurd (omega arith)
      ]
    ]

    order : (k : ℕ) (rest least : List ℕ) → (k < n) ⊎ ((k ≡ n) ⊎ (n < k)) → NoneBefore n → MisfitsInChild cs expected ts k rest
        → ((other : List ℕ) → MisfitsBelow cs sort child other → path_cmp other least ≢ Less) → path_cmp (k ∷ rest) (n ∷ least) ≢ Less
    order k rest least (inl less) before c none = absurd (before k less rest c)
    order k rest least (inr (inl same)) before c none = λ e.
        none rest (at_child rest (subst (λ (m : ℕ). MisfitsInChild cs expected ts m rest) same c))
        (sym (ap (λ (o : Ordering). ordering_then o (path_cmp rest least)) (ap (λ (m : ℕ). nat_cmp m n) same ∙ step_itself n)) ∙ e)
    order k rest least (inr (inr more)) before c none = λ e.
        let f : Greater ≡ Less = sym (ap (λ (o : Ordering). ordering_then o (path_cmp rest least)) (step_later k n more)) ∙ e in cc

    -- the least misfit of the first child that has one
    pub least_child : (least : List ℕ) → NoneBefore n → IsLeastOf (MisfitsBelow cs sort child) least → IsLeastOf (MisfitsAmong cs expected ts) (n ∷ least)
    least_child least before h = record { among = record { child = child; is = is; sort = sort; wanted = wanted; inside = h.among }; none_before = λ other m. after other m }
      where
        after : (other : List ℕ) → MisfitsAmong cs expected ts other → path_cmp other (n ∷ least) ≢ Less
        after [] m = absurd m
        after (k ∷ rest) m = order k rest least (sides k n) before m h.none_before

  -- none among all children
  pub none_among : (n : ℕ) → length ts ≤ n → NoneBefore n → (path : List ℕ) → ¬ MisfitsAmong cs expected ts path
  none_among n all before [] m = m
  none_among n all before (k ∷ rest) c = before k (let f : k < length ts = slice_get_within ts k c.child c.is in omega arith) rest c
