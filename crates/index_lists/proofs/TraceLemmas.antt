-- Steps and their lists, after one is appended or taken out.
use Rattle.std.proofs.Common.{◌≡◌, ℕ, true, false, cond, not, List, [], ◌∷◌, refl, ap, ◌∙◌}
use Rattle.std.specs.Prelude.{nat_eq, filter, map}
use Rattle.std.proofs.lemmas.Bool.{both_ways, eq-eqb, ne_eqb}
use Rattle.list_theory.specs.Lists.{distinct, has, without}
use Rattle.list_theory.proofs.ListLemmas.{distinct_parts}
use Rattle.list_theory.proofs.NumberLemmas.{numbers_exact}
use Rattle.linked_lists.specs.Chains.{Lists, list_in, with_list}
use Rattle.index_lists.specs.Records.{first, has_key, numbers, pair_of, pairs, without_number}
use Rattle.index_lists.specs.Traces.{IsTrace, aims_elsewhere}
use Rattle.index_lists.proofs.GroupLemmas.{grouped_removed, map_same}

-- A step is taken out.
pub step_removed : (es es' : List (ℕ × (ℕ × ℕ))) (lists lists' : Lists) (n : ℕ) (e : ℕ × ℕ) → IsTrace es lists → distinct nat_eq (numbers es') ≡ true → has nat_eq (numbers es) n ≡ true → e ≡ pair_of es n
    → es' ≡ without_number es n → lists' ≡ with_list lists e.0 (without nat_eq (list_in lists e.0) n) → IsTrace es' lists'
step_removed es es' lists lists' n e t once there is ee el = rw (ee, el) (record { grouped = grouped_removed first es lists n e.0 t.grouped t.once there (ap first is); once = rw ee at once })

-- the steps without those of a target
pub pairs_elsewhere : (target : ℕ) (es : List (ℕ × (ℕ × ℕ))) → pairs (filter (λ e. not (has_key first target e)) es) ≡ filter (aims_elsewhere target) (pairs es)
pairs_elsewhere target [] = refl
pairs_elsewhere target (y ∷ ys) =
    elim (has_key first target y) as (λ b. pairs (cond (not b) (y ∷ filter (λ e. not (has_key first target e)) ys) (filter (λ e. not (has_key first target e)) ys)) ≡ cond (not b) (y.1 ∷ filter (aims_elsewhere target) (pairs ys)) (filter (aims_elsewhere target) (pairs ys))) [
      | true ↦ pairs_elsewhere target ys
      | false ↦ ap (λ zs. y.1 ∷ zs) (pairs_elsewhere target ys)
    ]

-- the pairs with all numbers are all pairs
pub pairs_are : (es : List (ℕ × (ℕ × ℕ))) → distinct nat_eq (numbers es) ≡ true → map (pair_of es) (numbers es) ≡ pairs es
pairs_are [] d = refl
pairs_are (y ∷ ys) d =
    let parts : (has nat_eq (numbers ys) y.0 ≡ false) × (distinct nat_eq (numbers ys) ≡ true) = distinct_parts nat_eq numbers_exact y.0 (numbers ys) d in
    let rest : map (pair_of (y ∷ ys)) (numbers ys) ≡ pairs ys =
    map_same (pair_of (y ∷ ys)) (pair_of ys) (numbers ys) (λ m h.
    let other : nat_eq y.0 m ≡ false = ne_eqb y.0 m (λ same. both_ways (has nat_eq (numbers ys) y.0) parts.0 (rw same h)) in
    ap (λ b. cond b y.1 (pair_of ys m)) other)
    ∙ pairs_are ys parts.1 in
    ap (λ b. cond b y.1 (pair_of ys y.0) ∷ map (pair_of (y ∷ ys)) (numbers ys)) (eq-eqb y.0 y.0 refl) ∙ ap (λ zs. y.1 ∷ zs) rest
