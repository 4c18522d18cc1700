-- Where a walk along the links of a list comes.
use Rattle.std.proofs.Common.{◌≡◌, ℕ, zero, suc, ◌+◌, ◌-◌, ◌<◌, List, [], ◌∷◌, length, get_or, Option, Some, None, refl, ◌∙◌, inl, inr, arith}
use Rattle.std.specs.Prelude.{slice_index_or}
use Rattle.linked_lists.specs.declared.links.Link.{Link}
use Rattle.linked_lists.specs.Chains.{AreChains, AreNeighbours, IsChain, ends_of, first_of, listed, unlinked}
use Rattle.linked_lists.proofs.Neighbours.{first_behind}
use Rattle.linked_lists.proofs.ChainLemmas.{any_chain, list_in_model}

neighbours_at : (start : Option ℕ) (xs : List ℕ) (i j : ℕ) → j ≡ i + 1 → j < length xs → AreNeighbours start xs (Some (get_or xs i 0)) (Some (get_or xs j 0))
neighbours_at start [] i j e few = absurd (omega arith)
neighbours_at start (x ∷ []) i j e few = absurd (omega (arith, e))
neighbours_at start (x ∷ y ∷ ys) zero j e few = rw e (inr (inl (refl, refl)))
neighbours_at start (x ∷ y ∷ ys) (suc i) zero e few = absurd (omega (arith, e))
neighbours_at start (x ∷ y ∷ ys) (suc i) (suc j) e few = inr (neighbours_at (Some x) (y ∷ ys) i j (omega (arith, e)) (omega arith))

neighbours_last : (start : Option ℕ) (xs : List ℕ) (n : ℕ) → length xs ≡ suc n → AreNeighbours start xs (Some (get_or xs n 0)) None
neighbours_last start [] n e = absurd (omega arith)
neighbours_last start (x ∷ []) zero e = inr (refl, refl)
neighbours_last start (x ∷ []) (suc n) e = absurd (omega arith)
neighbours_last start (x ∷ y ∷ ys) zero e = absurd (omega arith)
neighbours_last start (x ∷ y ∷ ys) (suc n) e = inr (neighbours_last (Some x) (y ∷ ys) n (omega arith))

first_some : (xs : List ℕ) → 0 < length xs → first_of xs ≡ Some (get_or xs 0 0)
first_some [] few = absurd (omega arith)
first_some (x ∷ xs) few = refl

module _ (heads links : List Link) (k : ℕ) where
  model_chain : AreChains heads links → IsChain links (ends_of heads k) (listed heads links k)
  model_chain chains = rw (list_in_model heads links k) (any_chain heads links k chains)

  -- the first item
  pub first_is : AreChains heads links → (ends_of heads k).forth ≡ first_of (listed heads links k)
  first_is chains = ((model_chain chains).linked None (first_of (listed heads links k)) (first_behind None (listed heads links k))).0

  pub first_there : AreChains heads links → 0 < length (listed heads links k) → (ends_of heads k).forth ≡ Some (get_or (listed heads links k) 0 0)
  first_there chains some = first_is chains ∙ first_some (listed heads links k) some

  -- the item behind one
  pub behind_there : (i : ℕ) → AreChains heads links → i + 1 < length (listed heads links k) → (slice_index_or links (get_or (listed heads links k) i 0) unlinked).forth ≡ Some (get_or (listed heads links k) (i + 1) 0)
  behind_there i chains within = ((model_chain chains).linked _ _ (neighbours_at None (listed heads links k) i (i + 1) refl within)).0

  -- the last item
  pub last_there : (j : ℕ) → AreChains heads links → 0 < length (listed heads links k) → j ≡ length (listed heads links k) - 1 → (ends_of heads k).back ≡ Some (get_or (listed heads links k) j 0)
  last_there j chains some e = ((model_chain chains).linked _ _ (neighbours_last None (listed heads links k) j (omega (arith, some, e)))).1

  -- the item before one
  pub before_there : (i j : ℕ) → AreChains heads links → j ≡ i + 1 → j < length (listed heads links k) → (slice_index_or links (get_or (listed heads links k) j 0) unlinked).back ≡ Some (get_or (listed heads links k) i 0)
  before_there i j chains e within = ((model_chain chains).linked _ _ (neighbours_at None (listed heads links k) i j e within)).1
