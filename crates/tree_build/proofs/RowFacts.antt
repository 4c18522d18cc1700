-- Rows of origins, one edge further.
use Rattle.std.proofs.Common.{◌≡◌, ◌≢◌, ℕ, ◌<◌, Bool, true, cond, List, [], ◌∷◌, ◌++◌, length, get_or, map, filter, set, sym, ap, subst, ◌∙◌, arith, inl, inr, append-nil}
use Rattle.std.specs.List.{AllByRecursion}
use Rattle.std.specs.Ordering.{is_eq}
use Rattle.std.specs.List.Sorted.{IsStrictlySortedBy}
use Rattle.std.proofs.lemmas.Bool.{false_from_ne_true, cases_eq}
use Rattle.std.proofs.lemmas.List.{get_or-set_same, get_or-set_other, length-set, map-append}
use Rattle.std.proofs.lemmas.List.Elements.{filter-append}
use Rattle.flow_term.specs.declared.graph.Edge.{Edge}
use Rattle.flow_term.specs.declared.graph.Node.{Node}
use Rattle.flow_term.specs.Orders.{node_cmp}
use Rattle.flow_syntax.specs.declared.property.Direction.{Direction}
use Rattle.flow_syntax.specs.declared.property.Direction.TheVariants as direction
use Rattle.tree_listing.specs.Listing.{same_node, arrives_by, comes_by, origins}
use Rattle.tree_listing.proofs.Listed.{node_ties, told_node}
use Rattle.tree_build.specs.Numbers.{node_of, row_of, AreOrigins, AreRows}
use Rattle.tree_build.proofs.NodeFacts.{own_number}

node_itself : (n : Node) → same_node n n ≡ true
node_itself n = ap is_eq (node_ties n)

all_push : (P : ℕ → Type 0) (xs : List ℕ) (x : ℕ) → AllByRecursion P xs → P x → AllByRecursion P (xs ++ x ∷ [])
all_push P [] x h p = (p, tt)
all_push P (y ∷ xs) x h p = (h.0, all_push P xs x h.1 p)

-- one edge more
origins_push : (d : Direction) (edges : List Edge) (e : Edge) (n : Node) → origins d (edges ++ e ∷ []) n ≡ origins d edges n ++ map (comes_by d) (cond (same_node (arrives_by d e) n) (e ∷ []) [])
origins_push d edges e n =
    let test : Edge → Bool = λ x. same_node (arrives_by d x) n in
    ap (map (comes_by d)) (filter-append test edges (e ∷ [])) ∙ map-append (comes_by d) (filter test edges) (cond (same_node (arrives_by d e) n) (e ∷ []) [])

pub origins_same : (d : Direction) (edges : List Edge) (e : Edge) (n : Node) → arrives_by d e ≡ n → origins d (edges ++ e ∷ []) n ≡ origins d edges n ++ comes_by d e ∷ []
origins_same d edges e n h = origins_push d edges e n ∙ ap (λ b. origins d edges n ++ map (comes_by d) (cond b (e ∷ []) [])) (ap (same_node (arrives_by d e)) (sym h) ∙ node_itself (arrives_by d e))

pub origins_other : (d : Direction) (edges : List Edge) (e : Edge) (n : Node) → arrives_by d e ≢ n → origins d (edges ++ e ∷ []) n ≡ origins d edges n
origins_other d edges e n h = origins_push d edges e n ∙ ap (λ b. origins d edges n ++ map (comes_by d) (cond b (e ∷ []) [])) (false_from_ne_true (same_node (arrives_by d e) n) (λ t. h (told_node (arrives_by d e) n t))) ∙ append-nil (origins d edges n)

-- rows that are all empty are those of no edges
pub no_rows : (d : Direction) (nodes : List Node) (rows : List (List ℕ)) → length rows ≡ length nodes → ((n : ℕ) → get_or rows n [] ≡ []) → AreRows d nodes [] rows
no_rows d nodes rows sizes h = record {
  sizes = sizes;
  within = λ n. subst (λ (r : List ℕ). AllByRecursion (λ i. i < length nodes) r) (sym (h n)) tt;
  named = λ n _. ap (map (node_of nodes)) (h n);
}

module _ (d : Direction) (nodes : List Node) (sorted : IsStrictlySortedBy node_cmp nodes) (edges : List Edge) (e : Edge) (rows : List (List ℕ)) (a o : ℕ)
    (at : node_of nodes a ≡ arrives_by d e) (from : node_of nodes o ≡ comes_by d e) (a_within : a < length nodes) (o_within : o < length nodes) (are : AreRows d nodes edges rows) where
  abbrev new_row : List ℕ
  new_row = get_or rows a [] ++ o ∷ []

  abbrev new_rows : List (List ℕ)
  new_rows = set rows a new_row

  a_in : a < length rows
  a_in = omega (arith, are.sizes, a_within)

  same_within : AllByRecursion (λ i. i < length nodes) new_row
  same_within = all_push (λ i. i < length nodes) (get_or rows a []) o (are.within a) o_within

  same_named : map (node_of nodes) new_row ≡ origins d (edges ++ e ∷ []) (node_of nodes a)
  same_named = map-append (node_of nodes) (get_or rows a []) (o ∷ []) ∙ ap (λ xs. xs ++ node_of nodes o ∷ []) (are.named a a_within)
      ∙ ap (λ x. origins d edges (node_of nodes a) ++ x ∷ []) from ∙ sym (origins_same d edges e (node_of nodes a) (sym at))

  pub row_added : AreRows d nodes (edges ++ e ∷ []) new_rows
  row_added = record {
    sizes = length-set rows a new_row ∙ are.sizes;
    within = λ n. elim (cases_eq n a) [
      | inl same ↦ subst (λ (r : List ℕ). AllByRecursion (λ i. i < length nodes) r) (sym (ap (λ k. get_or new_rows k []) same ∙ get_or-set_same rows a new_row [] a_in)) same_within
      | inr other ↦ subst (λ (r : List ℕ). AllByRecursion (λ i. i < length nodes) r) (sym (get_or-set_other rows a n new_row [] other)) (are.within n)
    ];
    named = λ n within. elim (cases_eq n a) [
      | inl same ↦ ap (λ k. map (node_of nodes) (get_or new_rows k [])) same ∙ ap (map (node_of nodes)) (get_or-set_same rows a new_row [] a_in) ∙ same_named ∙ ap (λ k. origins d (edges ++ e ∷ []) (node_of nodes k)) (sym same)
      | inr other ↦ ap (map (node_of nodes)) (get_or-set_other rows a n new_row [] other) ∙ are.named n within
          ∙ sym (origins_other d edges e (node_of nodes n) (λ h. other (own_number nodes n a sorted within a_within (sym h ∙ sym at))))
    ];
  }

-- the row of a node, whichever the direction
pub row_named : (d : Direction) (nodes : List Node) (edges : List Edge) (ahead behind : List (List ℕ)) (n : ℕ) → AreOrigins nodes edges ahead behind → n < length nodes → map (node_of nodes) (row_of ahead behind d n) ≡ origins d edges (node_of nodes n)
row_named direction.Forward nodes edges ahead behind n are within = are.0.named n within
row_named direction.Backward nodes edges ahead behind n are within = are.1.named n within
