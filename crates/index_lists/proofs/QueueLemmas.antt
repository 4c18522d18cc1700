-- What an item that is put in or taken out does to a queue and its marks.
use Rattle.std.proofs.Common.{◌≡◌, ◌≢◌, ℕ, ◌+◌, ◌-◌, ◌<◌, ◌≤◌, Bool, true, false, cond, not, ◌||◌, List, [], ◌∷◌, ◌++◌, length, refl, sym, ap, ◌∙◌, arith, inl, inr, length-append}
use Rattle.std.specs.Prelude.{nat_eq, slice_index_or, slice_set}
use Rattle.std.proofs.lemmas.List.{get_or-set_same, get_or-set_other, get_or_past, length-set}
use Rattle.std.proofs.lemmas.Bool.{both_ways, cases_Bool, cases_lt, cases_eq, eq-eqb, eqb-true, ne_eqb, true≢false, not_from_false, false_from_ne_true}
use Rattle.list_theory.specs.Lists.{has, without, distinct}
use Rattle.list_theory.proofs.ListLemmas.{distinct_parts, has-append_one, has-filter_from, has-without, distinct-append_one, distinct-without, without_absent}
use Rattle.list_theory.proofs.NumberLemmas.{numbers_exact, length_distinct_below}
use Rattle.linked_lists.specs.Chains.{Lists, with_list}
use Rattle.index_lists.specs.Records.{all_in}
use Rattle.index_lists.specs.Queues.{IsQueue}
use Rattle.index_lists.proofs.RecordLemmas.{list_in_same, there_is}

-- a mark that is set is one of an allowed item
marked_allowed : (marks : List Bool) (x : ℕ) → slice_index_or marks x false ≡ true → x < length marks
marked_allowed marks x h = elim (cases_lt x (length marks)) [ inl lt ↦ lt | inr le ↦ absurd (true≢false (sym h ∙ get_or_past marks x false le)) ]

pub all_allowed : (chain : Lists) (marks : List Bool) (len x : ℕ) → IsQueue chain marks len → has nat_eq (all_in chain) x ≡ true → x < length marks
all_allowed chain marks len x q h = marked_allowed marks x (q.marked x ∙ h)

pub absent : (chain : Lists) (marks : List Bool) (len x : ℕ) → IsQueue chain marks len → slice_index_or marks x false ≡ false → has nat_eq (all_in chain) x ≡ false
absent chain marks len x q h = sym (q.marked x) ∙ h

or_false : (b : Bool) → (b || false) ≡ b
or_false true = refl
or_false false = refl

-- there are no more items than are allowed
pub few_items : (chain : Lists) (marks : List Bool) (len : ℕ) → IsQueue chain marks len → length (all_in chain) ≤ length marks
few_items chain marks len q = length_distinct_below (all_in chain) (length marks) q.no_repeats (λ x w. all_allowed chain marks len x q w)

-- there is a list where an item is allowed
pub listed_is : (chain : Lists) (marks : List Bool) (len x : ℕ) → IsQueue chain marks len → x < length marks → 0 < length chain.lists
listed_is chain marks len x q lt = let room : length marks ≤ chain.items = q.room in q.listed (omega (arith, room, lt))

-- the queue with an item that wasn't there
pub IsQueue-push : (chain chain' : Lists) (marks : List Bool) (len x : ℕ) → IsQueue chain marks len → x < length marks → has nat_eq (all_in chain) x ≡ false → chain' ≡ with_list chain 0 (all_in chain ++ x ∷ []) → IsQueue chain' (slice_set marks x true) (len + 1)
IsQueue-push chain chain' marks len x q lt h e =
    let some : 0 < length chain.lists = listed_is chain marks len x q lt in
    let all : all_in (with_list chain 0 (all_in chain ++ x ∷ [])) ≡ all_in chain ++ x ∷ [] = list_in_same chain 0 (all_in chain ++ x ∷ []) some in
    let room = q.room in
    let one = q.one in
    let counted = q.counted in
    rw e (record {
      no_repeats = ap (distinct nat_eq) all ∙ distinct-append_one nat_eq numbers_exact (all_in chain) x q.no_repeats h;
      marked = λ y. (elim (cases_eq y x) [
        | inl same ↦ rw same (get_or-set_same marks x true false lt ∙ sym (has-append_one nat_eq numbers_exact (all_in chain) x x ∙ ap (λ b. b || nat_eq x x) h ∙ eq-eqb x x refl))
        | inr other ↦ get_or-set_other marks x y true false other ∙ q.marked y ∙ sym (has-append_one nat_eq numbers_exact (all_in chain) x y ∙ ap (λ b. has nat_eq (all_in chain) y || b) (ne_eqb x y (λ e. other (sym e))) ∙ or_false (has nat_eq (all_in chain) y))
      ]) ∙ ap (λ xs. has nat_eq xs y) (sym all);
      counted = omega (arith, counted, ap length all, length-append (all_in chain) (x ∷ []));
      room = omega (arith, room, length-set marks x true);
      listed = λ w. omega (arith, some, length-set chain.lists 0 (all_in chain ++ x ∷ []));
      one = omega (arith, one, length-set chain.lists 0 (all_in chain ++ x ∷ []));
    })

-- there is room for an item that is allowed and not there
pub room_for : (chain : Lists) (marks : List Bool) (len x : ℕ) → IsQueue chain marks len → x < length marks → has nat_eq (all_in chain) x ≡ false → length (all_in chain) < length marks
room_for chain marks len x q lt h =
    let p : IsQueue (with_list chain 0 (all_in chain ++ x ∷ [])) (slice_set marks x true) (len + 1) = IsQueue-push chain (with_list chain 0 (all_in chain ++ x ∷ [])) marks len x q lt h refl in
    let all : all_in (with_list chain 0 (all_in chain ++ x ∷ [])) ≡ all_in chain ++ x ∷ [] = list_in_same chain 0 (all_in chain ++ x ∷ []) (listed_is chain marks len x q lt) in
    omega (arith, few_items _ _ _ p, ap length all, length-append (all_in chain) (x ∷ []), length-set marks x true)

has-without_itself : (items : List ℕ) (x : ℕ) → has nat_eq (without nat_eq items x) x ≡ false
has-without_itself items x = false_from_ne_true (has nat_eq (without nat_eq items x) x) (λ w. both_ways (nat_eq x x) (has-without nat_eq numbers_exact items x x w).1 (eq-eqb x x refl))

has-without_other : (items : List ℕ) (x y : ℕ) → y ≢ x → has nat_eq items y ≡ has nat_eq (without nat_eq items x) y
has-without_other items x y other = elim (cases_Bool (has nat_eq items y)) [
  | inl w ↦ w ∙ sym (has-filter_from nat_eq numbers_exact (λ z. not (nat_eq z x)) items y w (not_from_false (nat_eq y x) (ne_eqb y x other)))
  | inr n ↦ n ∙ sym (false_from_ne_true (has nat_eq (without nat_eq items x) y) (λ w. both_ways (has nat_eq items y) n (has-without nat_eq numbers_exact items x y w).0))
]

-- an item less
length-without_one : (xs : List ℕ) (x : ℕ) → distinct nat_eq xs ≡ true → has nat_eq xs x ≡ true → length (without nat_eq xs x) + 1 ≡ length xs
length-without_one [] x d h = absurd (true≢false (sym h))
length-without_one (y ∷ ys) x d h =
    let parts : (has nat_eq ys y ≡ false) × (distinct nat_eq ys ≡ true) = distinct_parts nat_eq numbers_exact y ys d in
    elim (cases_Bool (nat_eq y x)) [
      | inl e ↦
          let same : y ≡ x = eqb-true y x e in
          let gone : without nat_eq ys x ≡ ys = without_absent nat_eq numbers_exact ys x (rw (← same) parts.0) in
          ap (λ b. length (cond (not b) (y ∷ without nat_eq ys x) (without nat_eq ys x)) + 1) e ∙ omega (arith, ap length gone)
      | inr e ↦
          let rest : length (without nat_eq ys x) + 1 ≡ length ys = length-without_one ys x parts.1 (sym (ap (λ b. b || has nat_eq ys x) e) ∙ h) in
          ap (λ b. length (cond (not b) (y ∷ without nat_eq ys x) (without nat_eq ys x)) + 1) e ∙ omega (arith, rest)
    ]

-- the queue without an item that was there
pub IsQueue-without : (chain chain' : Lists) (marks : List Bool) (len x : ℕ) → IsQueue chain marks len → has nat_eq (all_in chain) x ≡ true → chain' ≡ with_list chain 0 (without nat_eq (all_in chain) x) → IsQueue chain' (slice_set marks x false) (len - 1)
IsQueue-without chain chain' marks len x q h e =
    let some : 0 < length chain.lists = there_is chain 0 x h in
    let all : all_in (with_list chain 0 (without nat_eq (all_in chain) x)) ≡ without nat_eq (all_in chain) x = list_in_same chain 0 (without nat_eq (all_in chain) x) some in
    let room = q.room in
    let one = q.one in
    let counted = q.counted in
    rw e (record {
      no_repeats = ap (distinct nat_eq) all ∙ distinct-without nat_eq numbers_exact (all_in chain) x q.no_repeats;
      marked = λ y. (elim (cases_eq y x) [
        | inl same ↦ rw same (get_or-set_same marks x false false (all_allowed chain marks len x q h) ∙ sym (has-without_itself (all_in chain) x))
        | inr other ↦ get_or-set_other marks x y false false other ∙ q.marked y ∙ has-without_other (all_in chain) x y other
      ]) ∙ ap (λ xs. has nat_eq xs y) (sym all);
      counted = omega (arith, counted, ap length all, length-without_one (all_in chain) x q.no_repeats h);
      room = omega (arith, room, length-set marks x false);
      listed = λ w. omega (arith, some, length-set chain.lists 0 (without nat_eq (all_in chain) x));
      one = omega (arith, one, length-set chain.lists 0 (without nat_eq (all_in chain) x));
    })
