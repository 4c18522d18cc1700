-- Chains with more lists or more allowed items.
use Rattle.std.proofs.Common.{◌≡◌, ℕ, ◌≤◌, ◌<◌, List, [], length, refl, sym, ap, ◌∙◌, arith}
use Rattle.std.specs.Prelude.{nat_eq, slice_index_or}
use Rattle.std.proofs.lemmas.List.{get_or_default, same_lists}
use Rattle.list_theory.specs.Lists.{has}
use Rattle.linked_lists.specs.declared.links.Link.{Link}
use Rattle.linked_lists.specs.Chains.{AreChains, IsChain, ends_of, list_at, listed, lists_of, next_of, previous_of, unlinked}
use Rattle.linked_lists.proofs.Neighbours.{linked-kept}
use Rattle.linked_lists.proofs.ChainLemmas.{any_apart, any_chain, chain_is, length-lists_of, list_in_model}

module _ (heads links heads' links' : List Link) where
  -- where each end and each link is as it was, each list is
  chain_kept : ((k : ℕ) → ends_of heads' k ≡ ends_of heads k) → ((x : ℕ) → slice_index_or links' x unlinked ≡ slice_index_or links x unlinked) → length links ≤ length links' → AreChains heads links
      → (k : ℕ) → IsChain links' (ends_of heads' k) (list_at heads links k)
  chain_kept same_ends same_links more chains k =
      let was = any_chain heads links k chains in
      record {
        linked = linked-kept (next_of (ends_of heads k) links) (previous_of (ends_of heads k) links) (next_of (ends_of heads' k) links') (previous_of (ends_of heads' k) links') (list_at heads links k)
            (ap (λ l. l.forth) (same_ends k)) (ap (λ l. l.back) (same_ends k)) (λ x h. (ap (λ l. l.forth) (same_links x), ap (λ l. l.back) (same_links x))) was.linked;
        once = was.once;
        within = λ x h. let w : x < length links = was.within x h in omega (arith, more);
      }

  list_kept : ((k : ℕ) → ends_of heads' k ≡ ends_of heads k) → ((x : ℕ) → slice_index_or links' x unlinked ≡ slice_index_or links x unlinked) → length links ≤ length links' → AreChains heads links
      → (k : ℕ) → list_at heads' links' k ≡ list_at heads links k
  list_kept same_ends same_links more chains k = chain_is links' (ends_of heads' k) (list_at heads links k) (chain_kept same_ends same_links more chains k)

  pub chains_kept : ((k : ℕ) → ends_of heads' k ≡ ends_of heads k) → ((x : ℕ) → slice_index_or links' x unlinked ≡ slice_index_or links x unlinked) → length links ≤ length links' → AreChains heads links → AreChains heads' links'
  chains_kept same_ends same_links more chains = record {
    chain = λ k w. rw (list_kept same_ends same_links more chains k) (chain_kept same_ends same_links more chains k);
    apart = λ j k x v w h i. any_apart heads links j k x chains
        (ap (λ xs. has nat_eq xs x) (sym (list_kept same_ends same_links more chains j)) ∙ h)
        (ap (λ xs. has nat_eq xs x) (sym (list_kept same_ends same_links more chains k)) ∙ i);
  }

  -- the same in the words of the model
  pub listed_kept : ((k : ℕ) → ends_of heads' k ≡ ends_of heads k) → ((x : ℕ) → slice_index_or links' x unlinked ≡ slice_index_or links x unlinked) → length links ≤ length links' → AreChains heads links
      → (k : ℕ) → listed heads' links' k ≡ listed heads links k
  listed_kept same_ends same_links more chains k = list_in_model heads' links' k ∙ list_kept same_ends same_links more chains k ∙ sym (list_in_model heads links k)

-- more allowed items change no list
pub lists_kept : (heads links links' : List Link) → ((x : ℕ) → slice_index_or links' x unlinked ≡ slice_index_or links x unlinked) → length links ≤ length links' → AreChains heads links → lists_of heads links' ≡ lists_of heads links
lists_kept heads links links' same_links more chains =
    same_lists (lists_of heads links') (lists_of heads links) (length-lists_of heads links' ∙ sym (length-lists_of heads links))
    (λ j d v. get_or_default (lists_of heads links') j d [] v ∙ listed_kept heads links heads links' (λ k. refl) same_links more chains j
    ∙ get_or_default (lists_of heads links) j [] d (omega (arith, v, length-lists_of heads links', length-lists_of heads links)))
