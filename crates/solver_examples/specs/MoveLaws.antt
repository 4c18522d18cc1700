-- That the edits are edits.
use Rattle.std.proofs.Common.{◌≡◌, ℕ, Bool, true, false, cond, not, ◌||◌, ◌&&◌, List, [], ◌∷◌, refl, sym, ap, ◌∙◌, inl, inr}
use Rattle.std.specs.Prelude.{nat_eq, ⊤}
use Rattle.std.specs.List.{AllByRecursion}
use Rattle.std.specs.List.Sorted.{IsStrictlySortedBy}
use Rattle.std.proofs.lemmas.Bool.{and_from, and_parts, cases_Bool, eq-eqb, eqb-true, or_cases, or_left, true≢false}
use Rattle.list_theory.specs.Lists.{has}
use Rattle.constraint_theory.specs.Systems.{IsLawful, IsOver, Reads, numbers}
use Rattle.constraint_theory.specs.Edits.{ChangesLists, IsEdit, IsTainted, stays, unknown_stays}
use Rattle.flow_solver.specs.Orders.{IsOrderOf}
use Rattle.solver_examples.specs.Examples.{Pair, includes, union}
use Rattle.solver_examples.specs.Laws.{by_place, each_lawful, union_monotone}
use Rattle.solver_examples.specs.Moves.{moving, moving_keys, moving_order, moving_place, moving_source, moving_target, moving_transfer, moving_unknowns, turn, turn_keys, turn_unknowns, turned_taint}

-- what holds of the numbers below 7 and of all others holds of each
by_number : (P : ℕ → Type 0) → P 0 → P 1 → P 2 → P 3 → P 4 → P 5 → P 6
    → ((k : ℕ) → nat_eq 0 k ≡ false → nat_eq 1 k ≡ false → nat_eq 2 k ≡ false → nat_eq 3 k ≡ false → nat_eq 4 k ≡ false → nat_eq 5 k ≡ false → nat_eq 6 k ≡ false → P k) → (k : ℕ) → P k
by_number P p0 p1 p2 p3 p4 p5 p6 rest k =
    elim (cases_Bool (nat_eq 0 k)) [
      | inl e ↦ rw (← eqb-true 0 k e) p0
      | inr n0 ↦
          elim (cases_Bool (nat_eq 1 k)) [
            | inl e ↦ rw (← eqb-true 1 k e) p1
            | inr n1 ↦
                elim (cases_Bool (nat_eq 2 k)) [
                  | inl e ↦ rw (← eqb-true 2 k e) p2
                  | inr n2 ↦
                      elim (cases_Bool (nat_eq 3 k)) [
                        | inl e ↦ rw (← eqb-true 3 k e) p3
                        | inr n3 ↦
                            elim (cases_Bool (nat_eq 4 k)) [
                              | inl e ↦ rw (← eqb-true 4 k e) p4
                              | inr n4 ↦
                                  elim (cases_Bool (nat_eq 5 k)) [
                                    | inl e ↦ rw (← eqb-true 5 k e) p5
                                    | inr n5 ↦
                                        elim (cases_Bool (nat_eq 6 k)) [ inl e ↦ rw (← eqb-true 6 k e) p6 | inr n6 ↦ rest k n0 n1 n2 n3 n4 n5 n6 ]
                                  ]
                            ]
                      ]
                ]
          ]
    ]

-- what holds of the members of a list holds of each
each_of : (P : ℕ → Type 0) (xs : List ℕ) (k : ℕ) → has nat_eq xs k ≡ true → AllByRecursion P xs → P k
each_of P [] k h all = absurd (true≢false (sym h))
each_of P (x ∷ xs) k h all = elim (or_cases (nat_eq x k) (has nat_eq xs k) h) [ inl e ↦ rw (← eqb-true x k e) all.0 | inr r ↦ each_of P xs k r all.1 ]

-- where it stays it isn't gone
stays_of : (P : ℕ → Type 0) (keys gone : List ℕ) (k : ℕ) → (has nat_eq keys k && not (has nat_eq gone k)) ≡ true → AllByRecursion (λ j. not (has nat_eq gone j) ≡ true → P j) keys → P k
stays_of P keys gone k h all =
    let parts : (has nat_eq keys k ≡ true) × (not (has nat_eq gone k) ≡ true) = and_parts (has nat_eq keys k) (not (has nat_eq gone k)) h in
    each_of (λ j. not (has nat_eq gone j) ≡ true → P j) keys k parts.0 all parts.1

isnt : {P : Type 0} → false ≡ true → P
isnt h = absurd (true≢false (sym h))

-- the keys that stay
turn_stay : (turned : Bool) (P : ℕ → Type 0) (k : ℕ) → stays numbers (moving turned) (moving (not turned)) (turn turned) k ≡ true → AllByRecursion P (0 ∷ 1 ∷ 4 ∷ 5 ∷ []) → P k
turn_stay false P k h all = stays_of P (0 ∷ 1 ∷ 2 ∷ 3 ∷ 4 ∷ 5 ∷ []) (2 ∷ 3 ∷ []) k h ((λ _. all.0), ((λ _. all.1.0), (isnt, (isnt, ((λ _. all.1.1.0), ((λ _. all.1.1.1.0), tt))))))
turn_stay true P k h all = stays_of P (0 ∷ 1 ∷ 6 ∷ 4 ∷ 5 ∷ []) (6 ∷ []) k h ((λ _. all.0), ((λ _. all.1.0), (isnt, ((λ _. all.1.1.0), ((λ _. all.1.1.1.0), tt)))))

pub moving_lawful : (turned : Bool) → IsLawful numbers (moving turned)
moving_lawful false = each_lawful (moving_unknowns false) (moving_keys false) moving_source moving_target (moving_transfer false) refl
    (λ k h. each_of (λ j. has nat_eq (moving_unknowns false) (moving_target j) ≡ true) (moving_keys false) k h (refl, (refl, (refl, (refl, (refl, (refl, tt)))))))
    (λ k h. each_of (λ j. has nat_eq (moving_unknowns false) (moving_source j) ≡ true) (moving_keys false) k h (refl, (refl, (refl, (refl, (refl, (refl, tt)))))))
    (λ k a b h. union_monotone (nat_eq k 0, nat_eq k 2) a b h)
moving_lawful true = each_lawful (moving_unknowns true) (moving_keys true) moving_source moving_target (moving_transfer true) refl
    (λ k h. each_of (λ j. has nat_eq (moving_unknowns true) (moving_target j) ≡ true) (moving_keys true) k h (refl, (refl, (refl, (refl, (refl, tt))))))
    (λ k h. each_of (λ j. has nat_eq (moving_unknowns true) (moving_source j) ≡ true) (moving_keys true) k h (refl, (refl, (refl, (refl, (refl, tt))))))
    (λ k a b h. union_monotone (nat_eq k 6, nat_eq k 0) a b h)

pub moving_over : (turned : Bool) (u : ℕ) → IsOver (moving turned) u (λ _. ⊤) (false, false) union
moving_over turned u = record { valid = λ v _. tt; bottom_is = refl; join_is = λ a b _ _. refl }

rising_keys : (turned : Bool) → IsStrictlySortedBy moving_order (moving_keys turned)
unfolding IsStrictlySortedBy
rising_keys false = ((refl, (refl, (refl, (refl, (refl, tt))))), ((refl, (refl, (refl, (refl, tt)))), ((refl, (refl, (refl, tt))), ((refl, (refl, tt)), ((refl, tt), (tt, tt))))))
rising_keys true = ((refl, (refl, (refl, (refl, tt)))), ((refl, (refl, (refl, tt))), ((refl, (refl, tt)), ((refl, tt), (tt, tt)))))

pub moving_ordered : (turned : Bool) → IsOrderOf (moving_keys turned) moving_order
moving_ordered turned = record { weak = by_place moving_place; rising = rising_keys turned }

-- how the lists change
lists_left : (turned : Bool) → ChangesLists numbers (moving turned) (moving (not turned)) (turn turned)
lists_left false = record {
  keys = by_number (λ k. has nat_eq (moving_keys true) k ≡ (stays numbers (moving false) (moving true) (turn false) k || has nat_eq (turn_keys true) k)) refl refl refl refl refl refl refl (λ k n0 n1 n2 n3 n4 n5 n6. rw (n0, n1, n2, n3, n4, n5, n6) refl);
  unknowns = by_number (λ u. has nat_eq (moving_unknowns true) u ≡ (unknown_stays numbers (moving false) (moving true) (turn false) u || has nat_eq (turn_unknowns true) u)) refl refl refl refl refl refl refl (λ k n0 n1 n2 n3 n4 n5 n6. rw (n0, n1, n2, n3, n4, n5) refl);
  keys_new = λ k added. each_of (λ j. has nat_eq (moving_keys false) j ≡ false) (6 ∷ []) k added (refl, tt);
  unknowns_new = λ u added. each_of (λ v. has nat_eq (moving_unknowns false) v ≡ false) (5 ∷ []) u added (refl, tt);
  gone_known = λ k gone. each_of (λ j. has nat_eq (moving_keys false) j ≡ true) (2 ∷ 3 ∷ []) k gone (refl, (refl, tt));
}
lists_left true = record {
  keys = by_number (λ k. has nat_eq (moving_keys false) k ≡ (stays numbers (moving true) (moving false) (turn true) k || has nat_eq (turn_keys false) k)) refl refl refl refl refl refl refl (λ k n0 n1 n2 n3 n4 n5 n6. rw (n0, n1, n2, n3, n4, n5, n6) refl);
  unknowns = by_number (λ u. has nat_eq (moving_unknowns false) u ≡ (unknown_stays numbers (moving true) (moving false) (turn true) u || has nat_eq (turn_unknowns false) u)) refl refl refl refl refl refl refl (λ k n0 n1 n2 n3 n4 n5 n6. rw (n0, n1, n2, n3, n4, n5) refl);
  keys_new = λ k added. each_of (λ j. has nat_eq (moving_keys true) j ≡ false) (2 ∷ 3 ∷ []) k added (refl, (refl, tt));
  unknowns_new = λ u added. each_of (λ v. has nat_eq (moving_unknowns true) v ≡ false) (3 ∷ []) u added (refl, tt);
  gone_known = λ k gone. each_of (λ j. has nat_eq (moving_keys true) j ≡ true) (6 ∷ []) k gone (refl, tt);
}

-- the unknowns that the keys that stay read and aim at stay
left_unknowns : (turned : Bool) → AllByRecursion (λ u. unknown_stays numbers (moving turned) (moving (not turned)) (turn turned) u ≡ true) (0 ∷ 1 ∷ 2 ∷ 4 ∷ [])
left_unknowns false = (refl, (refl, (refl, (refl, tt))))
left_unknowns true = (refl, (refl, (refl, (refl, tt))))

-- sets without a number have a join without it
not_either : (turned p q r v : Bool) → not (cond turned p q) ≡ true → not (cond turned r v) ≡ true → not (cond turned (p || r) (q || v)) ≡ true
not_either true true q r v h i = absurd (true≢false (sym h))
not_either true false q r v h i = i
not_either false p true r v h i = absurd (true≢false (sym h))
not_either false p false r v h i = i

-- the keys that stay put in no number that goes away
kept_movable : (turned : Bool) → AllByRecursion (λ k. (a : Pair) → not (cond turned a.0 a.1) ≡ true → not (cond turned (moving_transfer turned k a).0 (moving_transfer turned k a).1) ≡ true) (0 ∷ 1 ∷ 4 ∷ 5 ∷ [])
kept_movable false = ((λ a h. h), ((λ a h. h), ((λ a h. h), ((λ a h. h), tt))))
kept_movable true = ((λ a h. h), ((λ a h. h), ((λ a h. h), ((λ a h. h), tt))))

-- and give renamed values from renamed ones
kept_shifted : (turned : Bool) → AllByRecursion (λ k. (a : Pair) → ◌≡◌ {A = Pair} (moving_transfer (not turned) k (a.1, a.0)) ((moving_transfer turned k a).1, (moving_transfer turned k a).0)) (0 ∷ 1 ∷ 4 ∷ 5 ∷ [])
kept_shifted false = ((λ a. refl), ((λ a. refl), ((λ a. refl), ((λ a. refl), tt))))
kept_shifted true = ((λ a. refl), ((λ a. refl), ((λ a. refl), ((λ a. refl), tt))))

-- each key reads its source
reads_source : (k : ℕ) → has nat_eq (moving_source k ∷ []) (moving_source k) ≡ true
reads_source k = or_left (nat_eq (moving_source k) (moving_source k)) false (eq-eqb (moving_source k) (moving_source k) refl)

swapped : (a b : Pair) → includes a b ≡ true → includes (a.1, a.0) (b.1, b.0) ≡ true
swapped a b h = let p : ((not a.0 || b.0) ≡ true) × ((not a.1 || b.1) ≡ true) = and_parts (not a.0 || b.0) (not a.1 || b.1) h in and_from (not a.1 || b.1) (not a.0 || b.0) p.1 p.0

pub turn_edit : (turned : Bool) → IsEdit numbers (moving turned) (moving (not turned)) (turn turned)
turn_edit turned =
    let left : AllByRecursion (λ u. unknown_stays numbers (moving turned) (moving (not turned)) (turn turned) u ≡ true) (0 ∷ 1 ∷ 2 ∷ 4 ∷ []) = left_unknowns turned in
    record {
      lists = lists_left turned;
      target_stays = λ k here. turn_stay turned (λ j. unknown_stays numbers (moving turned) (moving (not turned)) (turn turned) (moving_target j) ≡ true) k here (left.1.0, (left.1.1.0, (left.1.1.1.0, (left.1.1.0, tt))));
      reads_stay = λ k u here read. each_of (λ v. unknown_stays numbers (moving turned) (moving (not turned)) (turn turned) v ≡ true) (moving_source k ∷ []) u read
          (turn_stay turned (λ j. unknown_stays numbers (moving turned) (moving (not turned)) (turn turned) (moving_source j) ≡ true) k here (left.0, (left.1.0, (left.1.1.0, (left.1.1.1.0, tt)))), tt);
      same_target = λ k _. refl;
      same_reads = λ k u _. refl;
      bottom_movable = λ u _. elim turned as (λ b. not (cond b false false) ≡ true) [ true ↦ refl | false ↦ refl ];
      join_movable = λ u a b _ _ _ ma mb. not_either turned a.0 a.1 b.0 b.1 ma mb;
      eval_movable = λ k a here _ movable. turn_stay turned (λ j. (v : Pair) → not (cond turned v.0 v.1) ≡ true → not (cond turned (moving_transfer turned j v).0 (moving_transfer turned j v).1) ≡ true) k here (kept_movable turned) (a (moving_source k)) (movable (moving_source k) (reads_source k));
      shift_bottom = λ u _. refl;
      shift_join = λ u a b _ _ _ _ _ _ _. refl;
      shift_leq = λ u a b _ _ _ _ _ _ _ h. swapped a b h;
      shift_eval = λ k a b here _ _ _ moved. ap (moving_transfer (not turned) k) (moved (moving_source k) (reads_source k)) ∙ turn_stay turned (λ j. (v : Pair) → ◌≡◌ {A = Pair} (moving_transfer (not turned) j (v.1, v.0)) ((moving_transfer turned j v).1, (moving_transfer turned j v).0)) k here (kept_shifted turned) (a (moving_source k));
    }

-- an edit of the system as it is turned
pub turn_edits : (turned back : Bool) → turned ≡ back → IsLawful numbers (moving (not back)) × IsEdit numbers (moving turned) (moving (not back)) (turn back)
turn_edits turned back same = rw same (moving_lawful (not back), turn_edit back)

tainted_three : (p q r : Bool) → cond p true (cond q true r) ≡ true → (p || (q || (r || false))) ≡ true
tainted_three true q r h = refl
tainted_three false true r h = refl
tainted_three false false true h = refl
tainted_three false false false h = h

-- where the key reads a tainted unknown, its target is tainted
abbrev Spreads : ℕ → ℕ → Type 0
Spreads u k = Reads numbers (moving false) k u → turned_taint u ≡ true → turned_taint (moving_target k) ≡ true

untainted : (k i u : ℕ) → turned_taint i ≡ false → has nat_eq (i ∷ []) u ≡ true → turned_taint u ≡ true → turned_taint (moving_target k) ≡ true
untainted k i u clean read tainted = absurd (true≢false (sym tainted ∙ each_of (λ v. turned_taint v ≡ false) (i ∷ []) u read (clean, tt)))

-- Key 2 is gone, and taints 3; key 3 is gone, and taints 2; key 4 reads 2, and taints 4; the keys 0 and 1 read none of them.
pub turn_taints : IsTainted numbers (moving false) (moving true) (turn false) (0 ∷ 1 ∷ 2 ∷ 3 ∷ 4 ∷ 5 ∷ []) turned_taint
turn_taints = (
  record {
    from_gone = λ k _ gone. each_of (λ j. turned_taint (moving_target j) ≡ true) (2 ∷ 3 ∷ []) k gone (refl, (refl, tt));
    along = λ k u made. each_of (Spreads u) (0 ∷ 1 ∷ 2 ∷ 3 ∷ 4 ∷ 5 ∷ []) k made (untainted 0 0 u refl, (untainted 1 1 u refl, ((λ _ _. refl), ((λ _ _. refl), ((λ _ _. refl), ((λ _ _. refl), tt))))));
  },
  λ other closed u tainted. each_of (λ v. other v ≡ true) (2 ∷ 3 ∷ 4 ∷ []) u (tainted_three (nat_eq 2 u) (nat_eq 3 u) (nat_eq 4 u) tainted)
      (closed.from_gone 3 refl refl, (closed.from_gone 2 refl refl, (closed.along 4 2 refl refl (closed.from_gone 3 refl refl), tt))),
)
