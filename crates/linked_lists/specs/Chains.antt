-- Lists of numbers whose items are linked both ways.
use Rattle.std.specs.Prelude.{◌≡◌, ◌≢◌, ◌⊎◌, ◌<◌, ℕ, zero, suc, nat_eq, true, List, [], ◌∷◌, length, map, slice_index_or, slice_set, Option, Some, None}
use Rattle.list_theory.specs.Lists.{has, distinct}
use Rattle.linked_lists.specs.declared.links.Link.{Link}

-- lists of items, and the number below which all items are allowed
pub record Lists : Type 0 where
  pub lists : List (List ℕ)
  pub items : ℕ

abbrev pub unlinked : Link
unlinked = record { back = None; forth = None }

-- the links of a place: those of an item, or those of the list itself, from its last item and to its first
abbrev pub link_at : Link → List Link → Option ℕ → Link
link_at ends links None = ends
link_at ends links (Some x) = slice_index_or links x unlinked

-- the items from a place on, n at most
abbrev pub walk : List Link → ℕ → Option ℕ → List ℕ
walk links zero place = []
walk links (suc n) None = []
walk links (suc n) (Some x) = x ∷ walk links n (slice_index_or links x unlinked).forth

-- the items of a list
abbrev pub chain_of : List Link → Link → List ℕ
chain_of links ends = walk links (length links) ends.forth

-- Two places stand side by side in the list that begins behind a place and ends before none.
abbrev pub AreNeighbours : Option ℕ → List ℕ → Option ℕ → Option ℕ → Type 0
AreNeighbours start [] p q = (p ≡ start) × (q ≡ None)
AreNeighbours start (x ∷ xs) p q = ((p ≡ start) × (q ≡ Some x)) ⊎ AreNeighbours (Some x) xs p q

-- Each two neighbours are linked both ways, where `next` and `previous` lead on from each place.
abbrev pub AreLinked : (Option ℕ → Option ℕ) → (Option ℕ → Option ℕ) → List ℕ → Type 0
AreLinked next previous xs = (p q : Option ℕ) → AreNeighbours None xs p q → (next p ≡ q) × (previous q ≡ p)

abbrev pub next_of : Link → List Link → Option ℕ → Option ℕ
next_of ends links p = (link_at ends links p).forth

abbrev pub previous_of : Link → List Link → Option ℕ → Option ℕ
previous_of ends links p = (link_at ends links p).back

-- The links of a list are those of these items, each once.
pub record IsChain (links : List Link) (ends : Link) (xs : List ℕ) : Type 0 where
  pub linked : AreLinked (next_of ends links) (previous_of ends links) xs
  pub once : distinct nat_eq xs ≡ true
  pub within : (x : ℕ) → has nat_eq xs x ≡ true → x < length links

abbrev pub ends_of : List Link → ℕ → Link
ends_of heads k = slice_index_or heads k unlinked

-- the items of the list with this number
abbrev pub list_at : List Link → List Link → ℕ → List ℕ
list_at heads links k = chain_of links (ends_of heads k)

-- Each list is linked both ways, and no item is in two of them.
pub record AreChains (heads links : List Link) : Type 0 where
  pub chain : (k : ℕ) → k < length heads → IsChain links (ends_of heads k) (list_at heads links k)
  pub apart : (j k x : ℕ) → j < length heads → k < length heads → has nat_eq (list_at heads links j) x ≡ true → has nat_eq (list_at heads links k) x ≡ true → j ≡ k

-- the ends of the lists after a write at a place of the list with this number
abbrev pub heads_with : (Link → Link) → ℕ → Option ℕ → List Link → List Link
heads_with f k None heads = slice_set heads k (f (ends_of heads k))
heads_with f k (Some x) heads = heads

-- the links of the items after it
abbrev pub links_with : (Link → Link) → Option ℕ → List Link → List Link
links_with f None links = links
links_with f (Some x) links = slice_set links x (f (slice_index_or links x unlinked))

-- a link that leads on to another place, or back to another
abbrev pub forth_to : Option ℕ → Link → Link
forth_to to link = record link { forth = to }

abbrev pub back_to : Option ℕ → Link → Link
back_to to link = record link { back = to }

-- One list has these items now, and the others are as they were.
pub record Changes (heads links heads' links' : List Link) (list : ℕ) (xs : List ℕ) : Type 0 where
  pub chains : AreChains heads' links'
  pub lists : length heads' ≡ length heads
  pub items : length links' ≡ length links
  pub here : list_at heads' links' list ≡ xs
  pub others : (k : ℕ) → k < length heads → k ≢ list → list_at heads' links' k ≡ list_at heads links k

-- the items of each list
abbrev pub lists_of : List Link → List Link → List (List ℕ)
lists_of heads links = map (chain_of links) heads

-- the items of the list with this number, as the model has them
abbrev pub listed : List Link → List Link → ℕ → List ℕ
listed heads links k = slice_index_or (lists_of heads links) k []

-- the list with this number
abbrev pub list_in : Lists → ℕ → List ℕ
list_in s k = slice_index_or s.lists k []

-- the same lists but one
abbrev pub with_list : Lists → ℕ → List ℕ → Lists
with_list s k xs = record s { lists = slice_set s.lists k xs }

-- the first item, where there is one
abbrev pub first_of : List ℕ → Option ℕ
first_of [] = None
first_of (x ∷ xs) = Some x
