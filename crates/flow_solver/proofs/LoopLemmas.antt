-- What loops over lists of numbers do.
use Rattle.std.proofs.Common.{◌≡◌, ℕ, zero, suc, ◌+◌, ◌<◌, ◌≤◌, Bool, true, false, cond, not, ◌||◌, List, [], ◌∷◌, ◌++◌, length, drop, map, refl, sym, ap, ◌∙◌, arith, inl, inr}
use Rattle.std.specs.Prelude.{nat_eq, get_or, filter, Option, Some, None, slice_index_or, slice_set}
use Rattle.std.proofs.lemmas.List.{drop_more, get_or-set_same, get_or-set_other, map-append}
use Rattle.index_lists.specs.Queues.{Queue}
use Rattle.flow_solver.specs.inner.NumberSets.{IsNumberSet}
use Rattle.std.proofs.lemmas.Bool.{cases_Bool, cases_eq, eqb-true, eq-eqb, ne_eqb, or_left, or_right, both_ways, false_from_ne_true}
use Rattle.list_theory.specs.Lists.{has, without, push_all, push_one}
use Rattle.list_theory.proofs.ListLemmas.{distinct-append_one, has-append_one}
use Rattle.list_theory.proofs.NumberLemmas.{numbers_exact}
use Rattle.flow_solver.specs.Assigned.{given}

pub bool_same : (a b : Bool) → (a ≡ true → b ≡ true) → (b ≡ true → a ≡ true) → a ≡ b
bool_same true b f g = sym (f refl)
bool_same false true f g = g refl
bool_same false false f g = refl

pub same_sym : (x y : ℕ) → nat_eq x y ≡ nat_eq y x
same_sym x y = elim (cases_Bool (nat_eq y x)) [
  | inl e ↦ eq-eqb x y (sym (eqb-true y x e)) ∙ sym e
  | inr n ↦ false_from_ne_true (nat_eq x y) (λ p. both_ways (nat_eq y x) n (eq-eqb y x (sym (eqb-true x y p)))) ∙ sym n
]

-- what is filtered by one item, and then by those that are left
pub filter_both : {A : Type 0} (f : A → ℕ) (x : ℕ) (rest : List ℕ) (ys : List A) → filter (λ a. not (has nat_eq rest (f a))) (filter (λ a. not (nat_eq (f a) x)) ys) ≡ filter (λ a. not (has nat_eq (x ∷ rest) (f a))) ys
filter_both f x rest [] = refl
filter_both f x rest (y ∷ ys) =
    elim (nat_eq (f y) x) as (λ b. nat_eq (f y) x ≡ b → filter (λ a. not (has nat_eq rest (f a))) (cond (not b) (y ∷ filter (λ a. not (nat_eq (f a) x)) ys) (filter (λ a. not (nat_eq (f a) x)) ys)) ≡ filter (λ a. not (has nat_eq (x ∷ rest) (f a))) (y ∷ ys)) [
      | true ↦ λ e. filter_both f x rest ys ∙ ap (λ b. cond (not (b || has nat_eq rest (f y))) (y ∷ filter (λ a. not (has nat_eq (x ∷ rest) (f a))) ys) (filter (λ a. not (has nat_eq (x ∷ rest) (f a))) ys)) (sym (same_sym x (f y) ∙ e))
      | false ↦ λ n. ap (λ zs. cond (not (has nat_eq rest (f y))) (y ∷ zs) zs) (filter_both f x rest ys) ∙ ap (λ b. cond (not (b || has nat_eq rest (f y))) (y ∷ filter (λ a. not (has nat_eq (x ∷ rest) (f a))) ys) (filter (λ a. not (has nat_eq (x ∷ rest) (f a))) ys)) (sym (same_sym x (f y) ∙ n))
    ] refl

pub without_next : (xs ys : List ℕ) (i : ℕ) → i < length xs → filter (λ k. not (has nat_eq (drop (i + 1) xs) k)) (without nat_eq ys (get_or xs i 0)) ≡ filter (λ k. not (has nat_eq (drop i xs) k)) ys
without_next xs ys i h = filter_both (λ k. k) (get_or xs i 0) (drop (i + 1) xs) ys ∙ ap (λ zs. filter (λ k. not (has nat_eq zs k)) ys) (sym (drop_more xs i 0 h))

pub all_filtered : (ys : List ℕ) → filter (λ k. not (has nat_eq [] k)) ys ≡ ys
all_filtered [] = refl
all_filtered (y ∷ ys) = ap (λ zs. y ∷ zs) (all_filtered ys)

-- what is given by pairs of which the last is taken off
pub given_last : {V : Type 0} (pairs : List (ℕ × V)) (pair : ℕ × V) (u : ℕ) (old : Option V) → given (pairs ++ pair ∷ []) u old ≡ given pairs u (cond (nat_eq pair.0 u) (Some pair.1) old)
given_last [] pair u old = refl
given_last (p ∷ pairs) pair u old = ap (cond (nat_eq p.0 u) (Some p.1)) (given_last pairs pair u old)

pub given_each : {V : Type 0} (f : ℕ → V) (us : List ℕ) (u : ℕ) (old : Option V) → given (map (λ w. (w, f w)) us) u old ≡ cond (has nat_eq us u) (Some (f u)) old
given_each f [] u old = refl
given_each f (w ∷ us) u old = elim (nat_eq w u) as (λ b. nat_eq w u ≡ b → cond b (Some (f w)) (given (map (λ x. (x, f x)) us) u old) ≡ cond (b || has nat_eq us u) (Some (f u)) old) [
  | true ↦ λ e. ap (λ x. Some (f x)) (eqb-true w u e)
  | false ↦ λ _. given_each f us u old
] refl

or_false : (b : Bool) → (b || false) ≡ b
or_false true = refl
or_false false = refl

-- marks of the keys of a list, with a key more
pub marked_push : (made : List Bool) (keys keys' : List ℕ) (k : ℕ) → ((j : ℕ) → slice_index_or made j false ≡ has nat_eq keys j) → k < length made → keys' ≡ keys ++ k ∷ [] → (j : ℕ) → slice_index_or (slice_set made k true) j false ≡ has nat_eq keys' j
marked_push made keys keys' k marked lt is j = elim (cases_eq j k) [
  | inl same ↦ rw same (get_or-set_same made k true false lt ∙ sym (ap (λ ks. has nat_eq ks k) is ∙ has-append_one nat_eq numbers_exact keys k k ∙ or_right (has nat_eq keys k) (nat_eq k k) (eq-eqb k k refl)))
  | inr other ↦ get_or-set_other made k j true false other ∙ marked j ∙ sym (ap (λ ks. has nat_eq ks j) is ∙ has-append_one nat_eq numbers_exact keys k j ∙ ap (λ b. has nat_eq keys j || b) (ne_eqb k j (λ e. other (sym e))) ∙ or_false (has nat_eq keys j))
]

-- a set with an item that wasn't there, and marks that reach to it
pub set_push : (items : List ℕ) (marks longer : List Bool) (x : ℕ) → IsNumberSet items marks → slice_index_or marks x false ≡ false → ((y : ℕ) → slice_index_or longer y false ≡ slice_index_or marks y false) → x < length longer → IsNumberSet (items ++ x ∷ []) (slice_set longer x true)
set_push items marks longer x set out kept long = record {
  once = distinct-append_one nat_eq numbers_exact items x set.once (sym (set.marked x) ∙ out);
  marked = marked_push longer items (items ++ x ∷ []) x (λ y. kept y ∙ set.marked y) long refl;
}

-- an emptied set
pub set_none : (items : List ℕ) (marks marks' : List Bool) → IsNumberSet items marks → ((x : ℕ) → slice_index_or marks' x false ≡ cond (has nat_eq items x) false (slice_index_or marks x false)) → IsNumberSet [] marks'
set_none items marks marks' set unmarked = record {
  once = refl;
  marked = λ x. unmarked x ∙ ap (cond (has nat_eq items x) false) (set.marked x) ∙ elim (has nat_eq items x) as (λ b. cond b false b ≡ false) [ true ↦ refl | false ↦ refl ];
}

pub drop_end : {A : Type 0} (xs : List A) (i : ℕ) → length xs ≤ i → drop i xs ≡ []
drop_end [] zero h = refl
drop_end [] (suc i) h = refl
drop_end (x ∷ xs) zero h = absurd (omega arith)
drop_end (x ∷ xs) (suc i) h = drop_end xs i (omega arith)

-- the queue without keys, at the end of them
pub queue_end : (queue before : Queue) (keys : List ℕ) (i : ℕ) → length keys ≤ i → filter (λ k. not (has nat_eq (drop i keys) k)) queue.items ≡ filter (λ k. not (has nat_eq keys k)) before.items → queue.allowed ≡ before.allowed → queue ≡ record { items = filter (λ k. not (has nat_eq keys k)) before.items; allowed = before.allowed }
queue_end queue before keys i past same allowed =
    let items : queue.items ≡ filter (λ k. not (has nat_eq keys k)) before.items = sym (all_filtered queue.items) ∙ ap (λ zs. filter (λ k. not (has nat_eq zs k)) queue.items) (sym (drop_end keys i past)) ∙ same in
    let mk : List ℕ → ℕ → Queue = λ a b. record { items = a; allowed = b } in
    ap (λ a. mk a queue.allowed) items ∙ ap (mk (filter (λ k. not (has nat_eq keys k)) before.items)) allowed

has_push_one_is : (ys : List ℕ) (x k : ℕ) → has nat_eq (push_one nat_eq ys x) k ≡ (has nat_eq ys k || nat_eq x k)
has_push_one_is ys x k = elim (has nat_eq ys x) as (λ b. has nat_eq ys x ≡ b → has nat_eq (cond b ys (ys ++ x ∷ [])) k ≡ (has nat_eq ys k || nat_eq x k)) [
  | true ↦ λ there. elim (cases_Bool (nat_eq x k)) [
    | inl e ↦ ap (has nat_eq ys) (sym (eqb-true x k e)) ∙ there ∙ sym (or_right (has nat_eq ys k) (nat_eq x k) e)
    | inr n ↦ sym (or_false (has nat_eq ys k)) ∙ ap (λ b. has nat_eq ys k || b) (sym n)
  ]
  | false ↦ λ _. has-append_one nat_eq numbers_exact ys x k
] refl

or_group : (a b c : Bool) → ((a || b) || c) ≡ (a || (b || c))
or_group true b c = refl
or_group false b c = refl

-- what is there after all are put in
pub has_push_all_is : (xs ys : List ℕ) (k : ℕ) → has nat_eq (push_all nat_eq ys xs) k ≡ (has nat_eq ys k || has nat_eq xs k)
has_push_all_is [] ys k = sym (or_false (has nat_eq ys k))
has_push_all_is (x ∷ xs) ys k = has_push_all_is xs (push_one nat_eq ys x) k ∙ ap (λ b. b || has nat_eq xs k) (has_push_one_is ys x k) ∙ or_group (has nat_eq ys k) (nat_eq x k) (has nat_eq xs k)

module _ {V : Type 0} (pairs rest : List (ℕ × V)) (u : ℕ) (v : V) (last : pairs ≡ rest ++ (u, v) ∷ []) where
  names : map (λ (pair : ℕ × V). pair.0) pairs ≡ map (λ (pair : ℕ × V). pair.0) rest ++ u ∷ []
  names = ap (map (λ (pair : ℕ × V). pair.0)) last ∙ map-append (λ (pair : ℕ × V). pair.0) rest ((u, v) ∷ [])

  pub last_there : has nat_eq (map (λ (pair : ℕ × V). pair.0) pairs) u ≡ true
  last_there = ap (λ us. has nat_eq us u) names ∙ has-append_one nat_eq numbers_exact (map (λ (pair : ℕ × V). pair.0) rest) u u ∙ or_right (has nat_eq (map (λ (pair : ℕ × V). pair.0) rest) u) (nat_eq u u) (eq-eqb u u refl)

  pub first_there : (w : ℕ) → has nat_eq (map (λ (pair : ℕ × V). pair.0) rest) w ≡ true → has nat_eq (map (λ (pair : ℕ × V). pair.0) pairs) w ≡ true
  first_there w h = ap (λ us. has nat_eq us w) names ∙ has-append_one nat_eq numbers_exact (map (λ (pair : ℕ × V). pair.0) rest) u w ∙ or_left (has nat_eq (map (λ (pair : ℕ × V). pair.0) rest) w) (nat_eq u w) h

  -- the last pair gives its value, and then the others
  pub given_next : (values values' : List (Option V)) → values' ≡ slice_set values u (Some v) → u < length values → (w : ℕ) → given rest w (slice_index_or values' w None) ≡ given pairs w (slice_index_or values w None)
  given_next values values' set lt w =
      ap (given rest w) (ap (λ vs. slice_index_or vs w None) set ∙ elim (cases_eq w u) [
        | inl same ↦ rw same (get_or-set_same values u (Some v) None lt ∙ sym (ap (λ b. cond b (Some v) (slice_index_or values u None)) (eq-eqb u u refl)))
        | inr other ↦ get_or-set_other values u w (Some v) None other ∙ sym (ap (λ b. cond b (Some v) (slice_index_or values w None)) (ne_eqb u w (λ e. other (sym e))))
      ]) ∙ sym (given_last rest (u, v) w (slice_index_or values w None)) ∙ ap (λ ps. given ps w (slice_index_or values w None)) (sym last)
