-- Chains after an item is put last or taken out.
use Rattle.std.proofs.Common.{◌≡◌, ◌≢◌, ℕ, zero, suc, ◌<◌, ◌≤◌, true, false, List, [], ◌∷◌, ◌++◌, length, Option, Some, None, refl, sym, ap, ◌∙◌, inl, inr, arith}
use Rattle.std.specs.Prelude.{nat_eq, slice_index_or, slice_set, IfSome, cond}
use Rattle.std.proofs.lemmas.Bool.{cases_eq, cases_lt, true≢false, both_ways, or_cases, eqb-true, eq-eqb, ne_eqb, false_from_ne_true}
use Rattle.std.proofs.lemmas.List.{get_or-set_same, get_or-set_other, get_or_past, get_or_default, length-map, length-set, same_lists}
use Rattle.list_theory.specs.Lists.{has, without}
use Rattle.list_theory.proofs.ListLemmas.{has-without, has-append_one, distinct-append_one, distinct-without}
use Rattle.list_theory.proofs.NumberLemmas.{numbers_exact, length_distinct_below}
use Rattle.linked_lists.specs.declared.links.Link.{Link}
use Rattle.linked_lists.specs.Chains.{Changes, lists_of, AreChains, back_to, forth_to, IsChain, chain_of, ends_of, first_of, heads_with, links_with, list_at, next_of, previous_of, unlinked, walk}
use Rattle.linked_lists.proofs.Neighbours.{before_item, behind_item, before_end, first_behind, left_of, linked-append, linked-kept, linked-without, right_of, walk-linked}
use Rattle.linked_lists.proofs.Writes.{length-heads_with, length-links_with, written_ends, written_item, written_kept, written_other, written_same}

-- the walk along the links of a list gives its items
pub chain_is : (links : List Link) (ends : Link) (xs : List ℕ) → IsChain links ends xs → chain_of links ends ≡ xs
chain_is links ends xs c =
    let few : length xs ≤ length links = length_distinct_below xs (length links) c.once c.within in
    let first : ends.forth ≡ first_of xs = (c.linked None (first_of xs) (first_behind None xs)).0 in
    ap (walk links (length links)) first ∙ walk-linked links None xs (length links) few (λ x q n. (c.linked (Some x) q n).0)

-- chains of lists that share no item are those lists
pub chains_are : (heads links : List Link) (ys : ℕ → List ℕ) → ((k : ℕ) → k < length heads → IsChain links (ends_of heads k) (ys k))
    → ((j k x : ℕ) → j < length heads → k < length heads → has nat_eq (ys j) x ≡ true → has nat_eq (ys k) x ≡ true → j ≡ k)
    → AreChains heads links × ((k : ℕ) → k < length heads → list_at heads links k ≡ ys k)
chains_are heads links ys chains apart =
    let same : (k : ℕ) → k < length heads → list_at heads links k ≡ ys k = λ k w. chain_is links (ends_of heads k) (ys k) (chains k w) in (
      record {
        chain = λ k w. rw (same k w) (chains k w);
        apart = λ j k x v w h i. apart j k x v w (rw (same j v) at h) (rw (same k w) at i);
      },
      same,
    )

-- the place before an item or behind it is in range
pub back_within : (heads links : List Link) (k x : ℕ) → IsChain links (ends_of heads k) (list_at heads links k) → has nat_eq (list_at heads links k) x ≡ true
    → IfSome (slice_index_or links x unlinked).back (λ y. y < length links)
back_within heads links k x c h =
    let b = before_item None (list_at heads links k) x h in
    let is : (slice_index_or links x unlinked).back ≡ b.0 = (c.linked b.0 (Some x) b.1).1 in
    rw is (elim (left_of None (list_at heads links k) b.0 (Some x) b.1) [
      | inl e ↦ rw e tt
      | inr w ↦ rw w.1 (c.within w.0 w.2)
    ])

pub forth_within : (heads links : List Link) (k x : ℕ) → IsChain links (ends_of heads k) (list_at heads links k) → has nat_eq (list_at heads links k) x ≡ true
    → IfSome (slice_index_or links x unlinked).forth (λ y. y < length links)
forth_within heads links k x c h =
    let b = behind_item None (list_at heads links k) x h in
    let is : (slice_index_or links x unlinked).forth ≡ b.0 = (c.linked (Some x) b.0 b.1).0 in
    rw is (elim (right_of None (list_at heads links k) (Some x) b.0 b.1) [
      | inl e ↦ rw e tt
      | inr w ↦ rw w.1 (c.within w.0 w.2)
    ])

-- neither is it an item of another list
back_elsewhere : (heads links : List Link) (k x y : ℕ) → IsChain links (ends_of heads k) (list_at heads links k) → has nat_eq (list_at heads links k) x ≡ true
    → has nat_eq (list_at heads links k) y ≡ false → (slice_index_or links x unlinked).back ≢ Some y
back_elsewhere heads links k x y c h other f =
    let b = before_item None (list_at heads links k) x h in
    let is : (slice_index_or links x unlinked).back ≡ b.0 = (c.linked b.0 (Some x) b.1).1 in
    elim (left_of None (list_at heads links k) b.0 (Some x) b.1) [
      | inl e ↦ absurd (cc (f, is, e))
      | inr w ↦ let same : w.0 ≡ y = cc (f, is, w.1) in both_ways (has nat_eq (list_at heads links k) y) other (rw (← same) w.2)
    ]

forth_elsewhere : (heads links : List Link) (k x y : ℕ) → IsChain links (ends_of heads k) (list_at heads links k) → has nat_eq (list_at heads links k) x ≡ true
    → has nat_eq (list_at heads links k) y ≡ false → (slice_index_or links x unlinked).forth ≢ Some y
forth_elsewhere heads links k x y c h other f =
    let b = behind_item None (list_at heads links k) x h in
    let is : (slice_index_or links x unlinked).forth ≡ b.0 = (c.linked (Some x) b.0 b.1).0 in
    elim (right_of None (list_at heads links k) (Some x) b.0 b.1) [
      | inl e ↦ absurd (cc (f, is, e))
      | inr w ↦ let same : w.0 ≡ y = cc (f, is, w.1) in both_ways (has nat_eq (list_at heads links k) y) other (rw (← same) w.2)
    ]

-- the lists with one of them changed
abbrev pub lists_with : (ℕ → List ℕ) → ℕ → List ℕ → ℕ → List ℕ
lists_with ys k xs j = cond (nat_eq j k) xs (ys j)

pub with_same : (ys : ℕ → List ℕ) (k : ℕ) (xs : List ℕ) → lists_with ys k xs k ≡ xs
with_same ys k xs = ap (λ b. cond b xs (ys k)) (eq-eqb k k refl)

pub with_other : (ys : ℕ → List ℕ) (j k : ℕ) (xs : List ℕ) → j ≢ k → lists_with ys k xs j ≡ ys j
with_other ys j k xs other = ap (λ b. cond b xs (ys j)) (ne_eqb j k other)

-- a list of lists in which one has other items of its own
with_apart : (n : ℕ) (ys : ℕ → List ℕ) (k : ℕ) (xs : List ℕ) → ((i j x : ℕ) → i < n → j < n → has nat_eq (ys i) x ≡ true → has nat_eq (ys j) x ≡ true → i ≡ j)
    → ((j x : ℕ) → j < n → has nat_eq xs x ≡ true → has nat_eq (ys j) x ≡ true → j ≡ k)
    → (i j x : ℕ) → i < n → j < n → has nat_eq (lists_with ys k xs i) x ≡ true → has nat_eq (lists_with ys k xs j) x ≡ true → i ≡ j
with_apart n ys k xs apart own i j x v w h m =
    elim (cases_eq i k) [
      | inl a ↦ elim (cases_eq j k) [
        | inl b ↦ a ∙ sym b
        | inr b ↦ a ∙ sym (own j x w (rw (ap (lists_with ys k xs) a ∙ with_same ys k xs) at h) (rw (with_other ys j k xs b) at m))
      ]
      | inr a ↦ elim (cases_eq j k) [
        | inl b ↦ own i x v (rw (ap (lists_with ys k xs) b ∙ with_same ys k xs) at m) (rw (with_other ys i k xs a) at h) ∙ sym b
        | inr b ↦ apart i j x v w (rw (with_other ys i k xs a) at h) (rw (with_other ys j k xs b) at m)
      ]
    ]

-- the lists and links after an item is taken out of one
abbrev pub unlinked_heads : List Link → List Link → ℕ → ℕ → List Link
unlinked_heads heads links list x =
    heads_with (back_to (slice_index_or links x unlinked).back) list (slice_index_or links x unlinked).forth
    (heads_with (forth_to (slice_index_or links x unlinked).forth) list (slice_index_or links x unlinked).back heads)

abbrev pub unlinked_links : List Link → ℕ → List Link
unlinked_links links x =
    links_with (back_to (slice_index_or links x unlinked).back) (slice_index_or links x unlinked).forth
    (links_with (forth_to (slice_index_or links x unlinked).forth) (slice_index_or links x unlinked).back links)

module _ (heads links : List Link) (list x : ℕ) where
  abbrev u-xs : List ℕ
  u-xs = list_at heads links list

  abbrev u-rest : List ℕ
  u-rest = without nat_eq u-xs x

  abbrev u-b : Option ℕ
  u-b = (slice_index_or links x unlinked).back

  abbrev u-f : Option ℕ
  u-f = (slice_index_or links x unlinked).forth

  abbrev u-heads1 : List Link
  u-heads1 = heads_with (forth_to u-f) list u-b heads

  abbrev u-links1 : List Link
  u-links1 = links_with (forth_to u-f) u-b links

  abbrev u-heads2 : List Link
  u-heads2 = heads_with (back_to u-b) list u-f u-heads1

  abbrev u-links2 : List Link
  u-links2 = links_with (back_to u-b) u-f u-links1

  -- An item is taken out of the list in which it is.
  pub chains-unlinked : AreChains heads links → list < length heads → has nat_eq (list_at heads links list) x ≡ true
      → AreChains (unlinked_heads heads links list x) (unlinked_links links x)
      × ((k : ℕ) → k < length (unlinked_heads heads links list x) → list_at (unlinked_heads heads links list x) (unlinked_links links x) k ≡ lists_with (list_at heads links) list (without nat_eq (list_at heads links list) x) k)
  chains-unlinked chains small there =
      chains_are u-heads2 u-links2 (lists_with (list_at heads links) list u-rest) each
      (with_apart (length u-heads2) (list_at heads links) list u-rest (λ i j y v w. chains.apart i j y (omega (arith, sizes, v)) (omega (arith, sizes, w)))
      (λ j y w h m. chains.apart j list y (omega (arith, sizes, w)) small m (has-without nat_eq numbers_exact u-xs x y h).0))
    where
      sizes1 : length u-heads1 ≡ length heads
      sizes1 = length-heads_with (forth_to u-f) list u-b heads

      sizes : length u-heads2 ≡ length heads
      sizes = length-heads_with (back_to u-b) list u-f u-heads1 ∙ sizes1

      items1 : length u-links1 ≡ length links
      items1 = length-links_with (forth_to u-f) u-b links

      items : length u-links2 ≡ length links
      items = length-links_with (back_to u-b) u-f u-links1 ∙ items1

      own : IsChain links (ends_of heads list) u-xs
      own = chains.chain list small

      b_ok : IfSome u-b (λ y. y < length links)
      b_ok = back_within heads links list x own there

      f_ok : IfSome u-f (λ y. y < length u-links1)
      f_ok = rw items1 (forth_within heads links list x own there)

      here : IsChain u-links2 (ends_of u-heads2 list) u-rest
      here = record {
        linked = linked-without (next_of (ends_of heads list) links) (previous_of (ends_of heads list) links) (next_of (ends_of u-heads2 list) u-links2) (previous_of (ends_of u-heads2 list) u-links2) u-xs x own.once
            (written_kept (λ l. l.forth) (back_to u-b) list list u-f u-b u-heads1 u-links1 (λ l. refl) ∙ ap (λ l. l.forth) (written_same (forth_to u-f) list u-b heads links small b_ok))
            (λ p other _. written_kept (λ l. l.forth) (back_to u-b) list list u-f p u-heads1 u-links1 (λ l. refl) ∙ ap (λ l. l.forth) (written_other (forth_to u-f) list u-b p heads links other))
            (ap (λ l. l.back) (written_same (back_to u-b) list u-f u-heads1 u-links1 (omega (arith, sizes1, small)) f_ok))
            (λ q other _. ap (λ l. l.back) (written_other (back_to u-b) list u-f q u-heads1 u-links1 other) ∙ written_kept (λ l. l.back) (forth_to u-f) list list u-b q heads links (λ l. refl))
            there own.linked;
        once = distinct-without nat_eq numbers_exact u-xs x own.once;
        within = λ y h. rw items (own.within y (has-without nat_eq numbers_exact u-xs x y h).0);
      }

      elsewhere : (k : ℕ) → k < length heads → k ≢ list → IsChain u-links2 (ends_of u-heads2 k) (list_at heads links k)
      elsewhere k w other =
          let was = chains.chain k w in
          let ends : ends_of u-heads2 k ≡ ends_of heads k = written_ends (back_to u-b) k list u-f u-heads1 other ∙ written_ends (forth_to u-f) k list u-b heads other in
          let stays : (y : ℕ) → has nat_eq (list_at heads links k) y ≡ true → slice_index_or u-links2 y unlinked ≡ slice_index_or links y unlinked = λ y h.
          let absent : has nat_eq u-xs y ≡ false = false_from_ne_true (has nat_eq u-xs y) (λ m. other (chains.apart k list y w small h m)) in
          written_item (back_to u-b) u-f y u-links1 (forth_elsewhere heads links list x y own there absent) ∙ written_item (forth_to u-f) u-b y links (back_elsewhere heads links list x y own there absent) in
          record {
            linked = linked-kept (next_of (ends_of heads k) links) (previous_of (ends_of heads k) links) (next_of (ends_of u-heads2 k) u-links2) (previous_of (ends_of u-heads2 k) u-links2) (list_at heads links k)
                (ap (λ l. l.forth) ends) (ap (λ l. l.back) ends) (λ y h. (ap (λ l. l.forth) (stays y h), ap (λ l. l.back) (stays y h))) was.linked;
            once = was.once;
            within = λ y h. rw items (was.within y h);
          }

      each : (k : ℕ) → k < length u-heads2 → IsChain u-links2 (ends_of u-heads2 k) (lists_with (list_at heads links) list u-rest k)
      each k w = elim (cases_eq k list) [
        | inl same ↦ rw (same, with_same (list_at heads links) list u-rest) here
        | inr other ↦ rw (with_other (list_at heads links) k list u-rest other) (elsewhere k (omega (arith, sizes, w)) other)
      ]

-- the lists and links after an item is put last in one
abbrev pub appended_heads : List Link → ℕ → ℕ → List Link
appended_heads heads list x =
    heads_with (back_to (Some x)) list None (heads_with (forth_to (Some x)) list (ends_of heads list).back
    (heads_with (back_to (ends_of heads list).back) list (Some x) (heads_with (forth_to None) list (Some x) heads)))

abbrev pub appended_links : List Link → List Link → ℕ → ℕ → List Link
appended_links heads links list x =
    links_with (back_to (Some x)) None (links_with (forth_to (Some x)) (ends_of heads list).back
    (links_with (back_to (ends_of heads list).back) (Some x) (links_with (forth_to None) (Some x) links)))

-- the last item of a list is in range
pub last_within : (heads links : List Link) (k : ℕ) → IsChain links (ends_of heads k) (list_at heads links k) → IfSome (ends_of heads k).back (λ y. y < length links)
last_within heads links k c =
    let w = before_end None (list_at heads links k) in
    let is : (ends_of heads k).back ≡ w.0 = (c.linked w.0 None w.1).1 in
    rw is (elim (left_of None (list_at heads links k) w.0 None w.1) [
      | inl e ↦ rw e tt
      | inr v ↦ rw v.1 (c.within v.0 v.2)
    ])

-- and it is no item that isn't in the list
last_elsewhere : (heads links : List Link) (k y : ℕ) → IsChain links (ends_of heads k) (list_at heads links k) → has nat_eq (list_at heads links k) y ≡ false → (ends_of heads k).back ≢ Some y
last_elsewhere heads links k y c absent f =
    let w = before_end None (list_at heads links k) in
    let is : (ends_of heads k).back ≡ w.0 = (c.linked w.0 None w.1).1 in
    elim (left_of None (list_at heads links k) w.0 None w.1) [
      | inl e ↦ absurd (cc (f, is, e))
      | inr v ↦ let same : v.0 ≡ y = cc (f, is, v.1) in both_ways (has nat_eq (list_at heads links k) y) absent (rw (← same) v.2)
    ]

module _ (heads links : List Link) (list x : ℕ) where
  abbrev a-xs : List ℕ
  a-xs = list_at heads links list

  abbrev a-more : List ℕ
  a-more = a-xs ++ x ∷ []

  abbrev a-last : Option ℕ
  a-last = (ends_of heads list).back

  abbrev a-heads1 : List Link
  a-heads1 = heads_with (forth_to None) list (Some x) heads

  abbrev a-links1 : List Link
  a-links1 = links_with (forth_to None) (Some x) links

  abbrev a-heads2 : List Link
  a-heads2 = heads_with (back_to a-last) list (Some x) a-heads1

  abbrev a-links2 : List Link
  a-links2 = links_with (back_to a-last) (Some x) a-links1

  abbrev a-heads3 : List Link
  a-heads3 = heads_with (forth_to (Some x)) list a-last a-heads2

  abbrev a-links3 : List Link
  a-links3 = links_with (forth_to (Some x)) a-last a-links2

  abbrev a-heads4 : List Link
  a-heads4 = heads_with (back_to (Some x)) list None a-heads3

  abbrev a-links4 : List Link
  a-links4 = links_with (back_to (Some x)) None a-links3

  -- An item that is in no list is put last in one.
  pub chains-appended : AreChains heads links → list < length heads → x < length links
      → ((k : ℕ) → k < length heads → has nat_eq (list_at heads links k) x ≡ false)
      → AreChains (appended_heads heads list x) (appended_links heads links list x)
      × ((k : ℕ) → k < length (appended_heads heads list x) → list_at (appended_heads heads list x) (appended_links heads links list x) k ≡ lists_with (list_at heads links) list (list_at heads links list ++ x ∷ []) k)
  chains-appended chains small within absent =
      chains_are a-heads4 a-links4 (lists_with (list_at heads links) list a-more) each
      (with_apart (length a-heads4) (list_at heads links) list a-more (λ i j y v w. chains.apart i j y (omega (arith, sizes, v)) (omega (arith, sizes, w)))
      (λ j y w h m. elim (or_cases (has nat_eq a-xs y) (nat_eq x y) (sym (has-append_one nat_eq numbers_exact a-xs x y) ∙ h)) [
        | inl e ↦ chains.apart j list y (omega (arith, sizes, w)) small m e
        | inr e ↦ absurd (both_ways (has nat_eq (list_at heads links j) x) (absent j (omega (arith, sizes, w))) (rw (eqb-true x y e) m))
      ]))
    where
      sizes3 : length a-heads3 ≡ length heads
      sizes3 = length-heads_with (forth_to (Some x)) list a-last a-heads2

      sizes : length a-heads4 ≡ length heads
      sizes = length-heads_with (back_to (Some x)) list None a-heads3 ∙ sizes3

      items1 : length a-links1 ≡ length links
      items1 = length-links_with (forth_to None) (Some x) links

      items2 : length a-links2 ≡ length links
      items2 = length-links_with (back_to a-last) (Some x) a-links1 ∙ items1

      items : length a-links4 ≡ length links
      items = length-links_with (forth_to (Some x)) a-last a-links2 ∙ items2

      own : IsChain links (ends_of heads list) a-xs
      own = chains.chain list small

      last_ok : IfSome a-last (λ y. y < length a-links2)
      last_ok = rw items2 (last_within heads links list own)

      last_other : a-last ≢ Some x
      last_other = last_elsewhere heads links list x own (absent list small)

      here : IsChain a-links4 (ends_of a-heads4 list) a-more
      here = record {
        linked = linked-append (next_of (ends_of heads list) links) (previous_of (ends_of heads list) links) (next_of (ends_of a-heads4 list) a-links4) (previous_of (ends_of a-heads4 list) a-links4) a-xs x (absent list small)
            (written_kept (λ l. l.forth) (back_to (Some x)) list list None a-last a-heads3 a-links3 (λ l. refl) ∙ ap (λ l. l.forth) (written_same (forth_to (Some x)) list a-last a-heads2 a-links2 small last_ok))
            (written_kept (λ l. l.forth) (back_to (Some x)) list list None (Some x) a-heads3 a-links3 (λ l. refl)
            ∙ ap (λ l. l.forth) (written_other (forth_to (Some x)) list a-last (Some x) a-heads2 a-links2 (λ e. last_other (sym e)))
            ∙ written_kept (λ l. l.forth) (back_to a-last) list list (Some x) (Some x) a-heads1 a-links1 (λ l. refl)
            ∙ ap (λ l. l.forth) (written_same (forth_to None) list (Some x) heads links small within))
            (λ p other new. written_kept (λ l. l.forth) (back_to (Some x)) list list None p a-heads3 a-links3 (λ l. refl)
            ∙ ap (λ l. l.forth) (written_other (forth_to (Some x)) list a-last p a-heads2 a-links2 other)
            ∙ written_kept (λ l. l.forth) (back_to a-last) list list (Some x) p a-heads1 a-links1 (λ l. refl)
            ∙ ap (λ l. l.forth) (written_other (forth_to None) list (Some x) p heads links new))
            (ap (λ l. l.back) (written_same (back_to (Some x)) list None a-heads3 a-links3 (omega (arith, sizes3, small)) tt))
            (ap (λ l. l.back) (written_other (back_to (Some x)) list None (Some x) a-heads3 a-links3 (λ e. absurd (cc (e))))
            ∙ written_kept (λ l. l.back) (forth_to (Some x)) list list a-last (Some x) a-heads2 a-links2 (λ l. refl)
            ∙ ap (λ l. l.back) (written_same (back_to a-last) list (Some x) a-heads1 a-links1 small (omega (arith, items1, within))))
            (λ q other new. ap (λ l. l.back) (written_other (back_to (Some x)) list None q a-heads3 a-links3 other)
            ∙ written_kept (λ l. l.back) (forth_to (Some x)) list list a-last q a-heads2 a-links2 (λ l. refl)
            ∙ ap (λ l. l.back) (written_other (back_to a-last) list (Some x) q a-heads1 a-links1 new)
            ∙ written_kept (λ l. l.back) (forth_to None) list list (Some x) q heads links (λ l. refl))
            own.linked;
        once = distinct-append_one nat_eq numbers_exact a-xs x own.once (absent list small);
        within = λ y h. elim (or_cases (has nat_eq a-xs y) (nat_eq x y) (sym (has-append_one nat_eq numbers_exact a-xs x y) ∙ h)) [
          | inl e ↦ rw items (own.within y e)
          | inr e ↦ rw (items, ← eqb-true x y e) within
        ];
      }

      elsewhere : (k : ℕ) → k < length heads → k ≢ list → IsChain a-links4 (ends_of a-heads4 k) (list_at heads links k)
      elsewhere k w other =
          let was = chains.chain k w in
          let ends : ends_of a-heads4 k ≡ ends_of heads k = written_ends (back_to (Some x)) k list None a-heads3 other ∙ written_ends (forth_to (Some x)) k list a-last a-heads2 other in
          let stays : (y : ℕ) → has nat_eq (list_at heads links k) y ≡ true → slice_index_or a-links4 y unlinked ≡ slice_index_or links y unlinked = λ y h.
          let outside : has nat_eq a-xs y ≡ false = false_from_ne_true (has nat_eq a-xs y) (λ m. other (chains.apart k list y w small h m)) in
          let new : Some x ≢ Some y = λ e. let same : x ≡ y = cc (e) in both_ways (has nat_eq (list_at heads links k) x) (absent k w) (rw same h) in
          written_item (forth_to (Some x)) a-last y a-links2 (last_elsewhere heads links list y own outside)
          ∙ written_item (back_to a-last) (Some x) y a-links1 new ∙ written_item (forth_to None) (Some x) y links new in
          record {
            linked = linked-kept (next_of (ends_of heads k) links) (previous_of (ends_of heads k) links) (next_of (ends_of a-heads4 k) a-links4) (previous_of (ends_of a-heads4 k) a-links4) (list_at heads links k)
                (ap (λ l. l.forth) ends) (ap (λ l. l.back) ends) (λ y h. (ap (λ l. l.forth) (stays y h), ap (λ l. l.back) (stays y h))) was.linked;
            once = was.once;
            within = λ y h. rw items (was.within y h);
          }

      each : (k : ℕ) → k < length a-heads4 → IsChain a-links4 (ends_of a-heads4 k) (lists_with (list_at heads links) list a-more k)
      each k w = elim (cases_eq k list) [
        | inl same ↦ rw (same, with_same (list_at heads links) list a-more) here
        | inr other ↦ rw (with_other (list_at heads links) k list a-more other) (elsewhere k (omega (arith, sizes, w)) other)
      ]

-- the same for what two writes leave
pub unlinked_by : (heads links heads1 links1 heads2 links2 : List Link) (list x : ℕ) (link : Link) → link ≡ slice_index_or links x unlinked
    → heads1 ≡ heads_with (forth_to link.forth) list link.back heads → links1 ≡ links_with (forth_to link.forth) link.back links
    → heads2 ≡ heads_with (back_to link.back) list link.forth heads1 → links2 ≡ links_with (back_to link.back) link.forth links1
    → AreChains heads links → list < length heads → has nat_eq (list_at heads links list) x ≡ true
    → Changes heads links heads2 links2 list (without nat_eq (list_at heads links list) x)
unlinked_by heads links heads1 links1 heads2 links2 list x link is h1 l1 h2 l2 chains small there =
    let heads_are : heads2 ≡ unlinked_heads heads links list x = rw (h2, h1, is) refl in
    let links_are : links2 ≡ unlinked_links links x = rw (l2, l1, is) refl in
    let sizes : length heads2 ≡ length heads = rw (h2, h1) (length-heads_with (back_to link.back) list link.forth (heads_with (forth_to link.forth) list link.back heads) ∙ length-heads_with (forth_to link.forth) list link.back heads) in
    let items : length links2 ≡ length links = rw (l2, l1) (length-links_with (back_to link.back) link.forth (links_with (forth_to link.forth) link.back links) ∙ length-links_with (forth_to link.forth) link.back links) in
    let done = chains-unlinked heads links list x chains small there in
    let at : (k : ℕ) → k < length heads → list_at heads2 links2 k ≡ lists_with (list_at heads links) list (without nat_eq (list_at heads links list) x) k = λ k w. rw (heads_are, links_are) (done.1 k (rw (← heads_are, sizes) w)) in
    record {
      chains = rw (heads_are, links_are) done.0;
      lists = sizes;
      items = items;
      here = at list small ∙ with_same (list_at heads links) list (without nat_eq (list_at heads links list) x);
      others = λ k w other. at k w ∙ with_other (list_at heads links) k list (without nat_eq (list_at heads links list) x) other;
    }

pub appended_by : (heads links links1 links2 heads3 links3 heads4 : List Link) (list x : ℕ) (last : Option ℕ) → last ≡ (ends_of heads list).back
    → links1 ≡ links_with (forth_to None) (Some x) links
    → links2 ≡ links_with (back_to last) (Some x) links1
    → heads3 ≡ heads_with (forth_to (Some x)) list last heads → links3 ≡ links_with (forth_to (Some x)) last links2
    → heads4 ≡ heads_with (back_to (Some x)) list None heads3
    → AreChains heads links → list < length heads → x < length links → ((k : ℕ) → k < length heads → has nat_eq (list_at heads links k) x ≡ false)
    → Changes heads links heads4 links3 list (list_at heads links list ++ x ∷ [])
appended_by heads links links1 links2 heads3 links3 heads4 list x last is l1 l2 h3 l3 h4 chains small within absent =
    let heads_are : heads4 ≡ appended_heads heads list x = rw (h4, h3, is) refl in
    let links_are : links3 ≡ appended_links heads links list x = rw (l3, l2, l1, is) refl in
    let sizes : length heads4 ≡ length heads = rw (h4, h3) (length-heads_with (back_to (Some x)) list None (heads_with (forth_to (Some x)) list last heads) ∙ length-heads_with (forth_to (Some x)) list last heads) in
    let items : length links3 ≡ length links = rw (l3, l2, l1) (length-links_with (forth_to (Some x)) last (links_with (back_to last) (Some x) (links_with (forth_to None) (Some x) links)) ∙ length-links_with (back_to last) (Some x) (links_with (forth_to None) (Some x) links) ∙ length-links_with (forth_to None) (Some x) links) in
    let done = chains-appended heads links list x chains small within absent in
    let at : (k : ℕ) → k < length heads → list_at heads4 links3 k ≡ lists_with (list_at heads links) list (list_at heads links list ++ x ∷ []) k = λ k w. rw (heads_are, links_are) (done.1 k (rw (← heads_are, sizes) w)) in
    record {
      chains = rw (heads_are, links_are) done.0;
      lists = sizes;
      items = items;
      here = at list small ∙ with_same (list_at heads links) list (list_at heads links list ++ x ∷ []);
      others = λ k w other. at k w ∙ with_other (list_at heads links) k list (list_at heads links list ++ x ∷ []) other;
    }

walk-none : (links : List Link) (n : ℕ) → walk links n None ≡ []
walk-none links zero = refl
walk-none links (suc n) = refl

-- the list with a number, as the model has it
pub list_in_model : (heads links : List Link) (k : ℕ) → slice_index_or (lists_of heads links) k [] ≡ list_at heads links k
list_in_model [] links k = get_or_past [] k [] (omega arith) ∙ sym (ap (chain_of links) (get_or_past [] k unlinked (omega arith)) ∙ walk-none links (length links))
list_in_model (h ∷ heads) links zero = refl
list_in_model (h ∷ heads) links (suc k) = list_in_model heads links k

pub length-lists_of : (heads links : List Link) → length (lists_of heads links) ≡ length heads
length-lists_of heads links = length-map heads (chain_of links)

-- one list has other items now, in the words of the model
pub model_changes : (heads links heads' links' : List Link) (k : ℕ) (xs : List ℕ) → k < length heads → Changes heads links heads' links' k xs
    → lists_of heads' links' ≡ slice_set (lists_of heads links) k xs
model_changes heads links heads' links' k xs w c =
    let n : length (lists_of heads' links') ≡ length heads = length-lists_of heads' links' ∙ c.lists in
    let m : length (lists_of heads links) ≡ length heads = length-lists_of heads links in
    same_lists (lists_of heads' links') (slice_set (lists_of heads links) k xs)
    (n ∙ sym m ∙ sym (length-set (lists_of heads links) k xs))
    (λ j d v.
    let within : j < length heads = omega (arith, n, v) in
    get_or_default (lists_of heads' links') j d [] v ∙ list_in_model heads' links' j ∙ (elim (cases_eq j k) [
      | inl same ↦ rw same (c.here ∙ sym (get_or-set_same (lists_of heads links) k xs d (omega (arith, m, w))))
      | inr other ↦ c.others j within other ∙ sym (list_in_model heads links j) ∙ get_or_default (lists_of heads links) j [] d (omega (arith, m, within)) ∙ sym (get_or-set_other (lists_of heads links) k j xs d other)
    ]))

-- a list past the last is empty
pub past_last : (heads links : List Link) (k : ℕ) → length heads ≤ k → list_at heads links k ≡ []
past_last heads links k past = ap (chain_of links) (get_or_past heads k unlinked past) ∙ walk-none links (length links)

empty_chain : (links : List Link) → IsChain links unlinked []
empty_chain links = record {
  linked = λ p q n. (ap (next_of unlinked links) n.0 ∙ sym n.1, ap (previous_of unlinked links) n.1 ∙ sym n.0);
  once = refl;
  within = λ x h. absurd (true≢false (sym h));
}

-- whatever the number of the list, it is linked both ways
pub any_chain : (heads links : List Link) (k : ℕ) → AreChains heads links → IsChain links (ends_of heads k) (list_at heads links k)
any_chain heads links k chains =
    elim (cases_lt k (length heads)) [
      | inl lt ↦ chains.chain k lt
      | inr past ↦ rw (past_last heads links k past, get_or_past heads k unlinked past) (empty_chain links)
    ]

-- a list with an item is there
pub there_is : (heads links : List Link) (k x : ℕ) → has nat_eq (list_at heads links k) x ≡ true → k < length heads
there_is heads links k x h =
    elim (cases_lt k (length heads)) [
      | inl lt ↦ lt
      | inr past ↦ absurd (true≢false (sym h ∙ ap (λ xs. has nat_eq xs x) (past_last heads links k past)))
    ]

pub any_apart : (heads links : List Link) (j k x : ℕ) → AreChains heads links → has nat_eq (list_at heads links j) x ≡ true → has nat_eq (list_at heads links k) x ≡ true → j ≡ k
any_apart heads links j k x chains h i = chains.apart j k x (there_is heads links j x h) (there_is heads links k x i) h i
