-- Edges and their lists, after one is added or taken out.
use Rattle.std.proofs.Common.{◌≡◌, ℕ, ◌<◌, true, false, cond, not, ◌&&◌, refl, List, [], ◌∷◌, ◌++◌, length, ap, arith}
use Rattle.std.specs.Prelude.{nat_eq, filter}
use Rattle.std.proofs.lemmas.List.{length-set}
use Rattle.list_theory.specs.Lists.{distinct, has, without}
use Rattle.linked_lists.specs.Chains.{Lists, list_in, with_list}
use Rattle.index_lists.specs.Records.{first, numbers, pair_of, second, without_number}
use Rattle.index_lists.specs.Edges.{AreEdges, avoids, leaves, reaches}
use Rattle.index_lists.proofs.GroupLemmas.{grouped_added, grouped_removed}

-- An edge is added.
pub edges_added : (es es' : List (ℕ × (ℕ × ℕ))) (outgoing incoming outgoing' incoming' : Lists) (n : ℕ) (e : ℕ × ℕ) → AreEdges es outgoing incoming → distinct nat_eq (numbers es') ≡ true → e.0 < length outgoing.lists → e.1 < length outgoing.lists
    → es' ≡ es ++ (n, e) ∷ [] → outgoing' ≡ with_list outgoing e.0 (list_in outgoing e.0 ++ n ∷ []) → incoming' ≡ with_list incoming e.1 (list_in incoming e.1 ++ n ∷ [])
    → AreEdges es' outgoing' incoming'
edges_added es es' outgoing incoming outgoing' incoming' n e a once from to ee eo ei =
    let nodes = a.nodes in
    rw (ee, eo, ei) (record {
      once = rw ee at once;
      outgoing_are = grouped_added first es outgoing n e a.outgoing_are from;
      incoming_are = grouped_added second es incoming n e a.incoming_are (omega (arith, to, nodes));
      nodes = omega (arith, nodes, length-set outgoing.lists e.0 (list_in outgoing e.0 ++ n ∷ []), length-set incoming.lists e.1 (list_in incoming e.1 ++ n ∷ []));
    })

-- An edge is taken out.
pub edges_removed : (es es' : List (ℕ × (ℕ × ℕ))) (outgoing incoming outgoing' incoming' : Lists) (n : ℕ) (e : ℕ × ℕ) → AreEdges es outgoing incoming → distinct nat_eq (numbers es') ≡ true → has nat_eq (numbers es) n ≡ true → e ≡ pair_of es n
    → es' ≡ without_number es n → outgoing' ≡ with_list outgoing e.0 (without nat_eq (list_in outgoing e.0) n) → incoming' ≡ with_list incoming e.1 (without nat_eq (list_in incoming e.1) n)
    → AreEdges es' outgoing' incoming'
edges_removed es es' outgoing incoming outgoing' incoming' n e a once there is ee eo ei =
    let nodes = a.nodes in
    rw (ee, eo, ei) (record {
      once = rw ee at once;
      outgoing_are = grouped_removed first es outgoing n e.0 a.outgoing_are a.once there (ap first is);
      incoming_are = grouped_removed second es incoming n e.1 a.incoming_are a.once there (ap second is);
      nodes = omega (arith, nodes, length-set outgoing.lists e.0 (without nat_eq (list_in outgoing e.0) n), length-set incoming.lists e.1 (without nat_eq (list_in incoming e.1) n));
    })

-- without those that leave a node, and then without those that reach it
pub filtered_twice : (node : ℕ) (es : List (ℕ × (ℕ × ℕ))) → filter (λ e. not (reaches node e)) (filter (λ e. not (leaves node e)) es) ≡ filter (avoids node) es
filtered_twice node [] = refl
filtered_twice node (y ∷ ys) =
    elim (leaves node y) as (λ b. filter (λ e. not (reaches node e)) (cond (not b) (y ∷ filter (λ e. not (leaves node e)) ys) (filter (λ e. not (leaves node e)) ys)) ≡ cond (not b && not (reaches node y)) (y ∷ filter (avoids node) ys) (filter (avoids node) ys)) [
      | true ↦ filtered_twice node ys
      | false ↦ ap (λ zs. cond (not (reaches node y)) (y ∷ zs) zs) (filtered_twice node ys)
    ]
