-- That the systems for the tests meet the laws.
use Rattle.std.proofs.Common.{◌≡◌, ℕ, ◌<◌, ◌≤◌, Bool, true, false, cond, not, ◌||◌, ◌↔◌, List, [], ◌∷◌, refl, sym, ap, ◌∙◌, arith, inl, inr}
use Rattle.std.specs.Prelude.{nat_eq, nat_lt, ◌&&◌, ⊤}
use Rattle.std.specs.Cmp.{IsStrictWeakOrder}
use Rattle.std.specs.Ordering.{is_lt, nat_cmp}
use Rattle.std.specs.declared.cmp.Ordering.TheVariants.{Less, Equal, Greater}
use Rattle.std.specs.List.Sorted.{IsStrictlySortedBy}
use Rattle.std.proofs.lemmas.List.MinMax.{IsStrictWeakOrder-by_number}
use Rattle.std.proofs.lemmas.Bool.{and_from, and_parts, both_ways, cases_Bool, eq-eqb, eqb-true, or_cases, or_left, true≢false}
use Rattle.list_theory.specs.Lists.{has, distinct}
use Rattle.lattice_base.specs.Laws.{JoinLaws}
use Rattle.constraint_theory.specs.Edits.{IsEdit}
use Rattle.constraint_theory.specs.Systems.{IsLawful, IsOver, numbers}
use Rattle.flow_solver.specs.Orders.{IsOrderOf}
use Rattle.solver_examples.specs.Examples.{Pair, bit, climb, climb_transfer, each_reads_one, includes, no_change, size, union}

joins : (a b : Pair) → includes a b ≡ true → union a b ≡ b
joins (false, false) b h = refl
joins (true, x) (false, y) h = absurd (true≢false (sym h))
joins (true, true) (true, false) h = absurd (true≢false (sym h))
joins (true, true) (true, true) h = refl
joins (true, false) (true, y) h = refl
joins (false, true) (x, false) h = absurd (true≢false (sym h))
joins (false, true) (x, true) h = refl

below : (a b : Pair) → union a b ≡ b → includes a b ≡ true
below (false, false) b h = refl
below (true, x) (false, y) h = absurd (true≢false (ap (λ p. p.0) h))
below (true, true) (true, false) h = absurd (true≢false (ap (λ p. p.1) h))
below (true, true) (true, true) h = refl
below (true, false) (true, y) h = refl
below (false, true) (false, false) h = absurd (true≢false (ap (λ p. p.1) h))
below (false, true) (true, false) h = absurd (true≢false (ap (λ p. p.1) h))
below (false, true) (false, true) h = refl
below (false, true) (true, true) h = refl

or_itself : (x : Bool) → (x || x) ≡ x
or_itself true = refl
or_itself false = refl

or_swap : (x y : Bool) → (x || y) ≡ (y || x)
or_swap true true = refl
or_swap true false = refl
or_swap false true = refl
or_swap false false = refl

or_group : (x y z : Bool) → ((x || y) || z) ≡ (x || (y || z))
or_group true y z = refl
or_group false y z = refl

pair : (x y x' y' : Bool) → x ≡ x' → y ≡ y' → ◌≡◌ {A = Pair} (x, y) (x', y')
pair x y x' y' p q = ap (λ v. (v, y)) p ∙ ap (λ v. (x', v)) q

bit_small : (x : Bool) → bit x ≤ 1
bit_small true = omega arith
bit_small false = omega arith

-- one bit rises or stays, and where the order is strict in it, it rises
bit_rises : (x y : Bool) → (not x || y) ≡ true → bit x ≤ bit y
bit_rises true true h = omega arith
bit_rises true false h = absurd (true≢false (sym h))
bit_rises false y h = omega arith

bit_strict : (x y : Bool) → (not y || x) ≡ false → bit x < bit y
bit_strict x false h = absurd (true≢false h)
bit_strict true true h = absurd (true≢false h)
bit_strict false true h = omega arith

rises : (a b : Pair) → includes a b ≡ true → includes b a ≡ false → size a < size b
rises a b h n =
    let up : ((not a.0 || b.0) ≡ true) × ((not a.1 || b.1) ≡ true) = and_parts (not a.0 || b.0) (not a.1 || b.1) h in
    elim (cases_Bool (not b.0 || a.0)) [
      | inl e ↦ elim (cases_Bool (not b.1 || a.1)) [
        | inl f ↦ absurd (both_ways (includes b a) n (and_from (not b.0 || a.0) (not b.1 || a.1) e f))
        | inr f ↦ omega (arith, bit_rises a.0 b.0 up.0, bit_strict a.1 b.1 f)
      ]
      | inr e ↦ omega (arith, bit_strict a.0 b.0 e, bit_rises a.1 b.1 up.1)
    ]

bit_union : (g x y : Bool) → (not x || y) ≡ true → (not (g || x) || (g || y)) ≡ true
bit_union true x y h = refl
bit_union false x y h = h

-- what is added to two sets keeps their order
pub union_monotone : (g a b : Pair) → includes a b ≡ true → includes (union g a) (union g b) ≡ true
union_monotone g a b h =
    let up : ((not a.0 || b.0) ≡ true) × ((not a.1 || b.1) ≡ true) = and_parts (not a.0 || b.0) (not a.1 || b.1) h in
    and_from (not (g.0 || a.0) || (g.0 || b.0)) (not (g.1 || a.1) || (g.1 || b.1)) (bit_union g.0 a.0 b.0 up.0) (bit_union g.1 a.1 b.1 up.1)

module _ (unknowns keys : List ℕ) (source target : ℕ → ℕ) (transfer : ℕ → Pair → Pair) (once : distinct nat_eq keys ≡ true) (targets : (k : ℕ) → has nat_eq keys k ≡ true → has nat_eq unknowns (target k) ≡ true) (sources : (k : ℕ) → has nat_eq keys k ≡ true → has nat_eq unknowns (source k) ≡ true) (monotone : (k : ℕ) (a b : Pair) → includes a b ≡ true → includes (transfer k a) (transfer k b) ≡ true) where
  pub each_lawful : IsLawful numbers (each_reads_one unknowns keys source target transfer)
  each_lawful = record {
    monotone = record {
      keys_once = once;
      target_used = targets;
      reads_used = λ k u known read. elim (or_cases (nat_eq (source k) u) false read) [
        | inl e ↦ ap (has nat_eq unknowns) (sym (eqb-true (source k) u e)) ∙ sources k known
        | inr e ↦ absurd (true≢false (sym e))
      ];
      bottom_fits = λ u _. refl;
      join_fits = λ u a b _ _ _. refl;
      eval_fits = λ k a _ _. refl;
      leq_join = λ u a b _ _ _ h. joins a b h;
      join_leq = λ u a b _ _ _ h. below a b h;
      idempotent = λ u a _ _. pair (a.0 || a.0) (a.1 || a.1) a.0 a.1 (or_itself a.0) (or_itself a.1);
      commutative = λ u a b _ _ _. pair (a.0 || b.0) (a.1 || b.1) (b.0 || a.0) (b.1 || a.1) (or_swap a.0 b.0) (or_swap a.1 b.1);
      associative = λ u a b c _ _ _ _. pair ((a.0 || b.0) || c.0) ((a.1 || b.1) || c.1) (a.0 || (b.0 || c.0)) (a.1 || (b.1 || c.1)) (or_group a.0 b.0 c.0) (or_group a.1 b.1 c.1);
      neutral = λ u a _ _. refl;
      eval_monotone = λ k a b known _ _ under. monotone k (a (source k)) (b (source k)) (under (source k) (sources k known));
      eval_reads = λ k a b _ _ _ same. ap (transfer k) (same (source k) (or_left (nat_eq (source k) (source k)) false (eq-eqb (source k) (source k) refl)));
    };
    ranks = record {
      rank_within = λ u a _ _. omega (arith, bit_small a.0, bit_small a.1);
      rank_rises = λ u a b _ _ _ h n. rises a b h n;
    };
  }

-- the sets are a lattice
pub pair_laws : JoinLaws {V = Pair} (λ _. ⊤) (false, false) union
pair_laws = record {
  least_valid = tt;
  joined_valid = λ a b _ _. tt;
  idempotent = λ a _. pair (a.0 || a.0) (a.1 || a.1) a.0 a.1 (or_itself a.0) (or_itself a.1);
  commutative = λ a b _ _. pair (a.0 || b.0) (a.1 || b.1) (b.0 || a.0) (b.1 || a.1) (or_swap a.0 b.0) (or_swap a.1 b.1);
  associative = λ a b c _ _ _. pair ((a.0 || b.0) || c.0) ((a.1 || b.1) || c.1) (a.0 || (b.0 || c.0)) (a.1 || (b.1 || c.1)) (or_group a.0 b.0 c.0) (or_group a.1 b.1 c.1);
  neutral = λ a _. refl;
}

pub climb_lawful : IsLawful numbers climb
climb_lawful = each_lawful (0 ∷ []) (0 ∷ []) (λ _. 0) (λ _. 0) climb_transfer refl (λ k _. refl) (λ k _. refl)
    (λ k a b h. (and_parts (not a.0 || b.0) (not a.1 || b.1) h).0)

all_stay : (b : Bool) → b ≡ ((b && true) || false)
all_stay true = refl
all_stay false = refl

none_there : {X : Type 0} → false ≡ true → X
none_there h = absurd (true≢false (sym h))

-- an edit that changes nothing
pub climb_kept : IsEdit numbers climb climb no_change
climb_kept = record {
  lists = record {
    keys = λ k. all_stay (has nat_eq (0 ∷ []) k);
    unknowns = λ u. all_stay (has nat_eq (0 ∷ []) u);
    keys_new = λ k h. none_there h;
    unknowns_new = λ u h. none_there h;
    gone_known = λ k h. none_there h;
  };
  target_stays = λ k _. refl;
  reads_stay = λ k u _ read. and_from (has nat_eq (0 ∷ []) u) true read refl;
  same_target = λ k _. refl;
  same_reads = λ k u _. refl;
  bottom_movable = λ u _. refl;
  join_movable = λ u a b _ _ _ _ _. refl;
  eval_movable = λ k a _ _ _. refl;
  shift_bottom = λ u _. refl;
  shift_join = λ u a b _ _ _ _ _ _ _. refl;
  shift_leq = λ u a b _ _ _ _ _ _ _ h. h;
  shift_eval = λ k a b _ _ _ _ moved. ap (climb_transfer k) (moved 0 refl);
}

pub climb_over : (u : ℕ) → IsOver climb u (λ _. ⊤) (false, false) union
climb_over u = record { valid = λ v _. tt; bottom_is = refl; join_is = λ a b _ _. refl }

less_is : (x y : ℕ) → is_lt (nat_cmp x y) ≡ nat_lt x y
less_is x y = elim (nat_lt x y) as (λ b. is_lt (cond b Less (cond (nat_eq x y) Equal Greater)) ≡ b) [
  | true ↦ refl
  | false ↦ elim (nat_eq x y) as (λ b. is_lt (cond b Equal Greater) ≡ false) [ true ↦ refl | false ↦ refl ]
]

-- numbers that are compared by their places are in a weak order
pub by_place : (place : ℕ → ℕ) → IsStrictWeakOrder (λ a b. is_lt (nat_cmp (place a) (place b)))
by_place place =
    let weak : IsStrictWeakOrder (λ a b. nat_lt (place a) (place b)) = IsStrictWeakOrder-by_number place in
    record {
      one_way = λ x y h. less_is (place y) (place x) ∙ weak.one_way x y (sym (less_is (place x) (place y)) ∙ h);
      chain = λ x y z h i. less_is (place x) (place z) ∙ weak.chain x y z (sym (less_is (place x) (place y)) ∙ h) (sym (less_is (place y) (place z)) ∙ i);
    }

rising_one : IsStrictlySortedBy nat_cmp (0 ∷ [])
unfolding IsStrictlySortedBy
rising_one = (tt, tt)

pub climb_ordered : IsOrderOf (0 ∷ []) nat_cmp
climb_ordered = record { weak = by_place (λ k. k); rising = rising_one }

pub pair_order : (a b : Pair) → (includes a b ≡ true) ↔ (union a b ≡ b)
pair_order a b = (λ h. joins a b h, λ h. below a b h)
