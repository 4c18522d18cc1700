-- The tests tell constraints and unknowns apart.
use Rattle.std.proofs.Common.{◌≡◌, ℕ, true, ◌&&◌, List, [], ◌∷◌, Option, Some, None, refl, sym, ap, ◌∙◌}
use Rattle.std.specs.Prelude.{bytes_eq}
use Rattle.std.specs.Ordering.{nat_cmp, ordering_then, ordering_reverse, eq_by_cmp, is_eq}
use Rattle.std.specs.Cmp.{Equal-is}
use Rattle.std.specs.Cmp.Lexicographic.{slice_cmp}
use Rattle.std.specs.declared.cmp.Ordering.{Ordering}
use Rattle.std.specs.declared.cmp.Ordering.TheVariants.{Less, Equal, Greater}
use Rattle.std.proofs.lemmas.Bool.{and_parts, and_from}
use Rattle.std.proofs.lemmas.Cmp.{nat_list_cmp_total}
use Rattle.std.proofs.lemmas.Map.Lookups.{exact_bytes}
use Rattle.std.proofs.lemmas.Slice.Eq.{bytes_eq-Decides}
use Rattle.list_theory.proofs.NumberLemmas.{numbers_exact}
use Rattle.lattice_sets.specs.SetLaws.{same_tied, ties_itself}
use Rattle.flow_term.specs.contracts.graph.NodeOrd.TheImpl.Laws as node_laws
use Rattle.flow_term.specs.declared.graph.Node.{Node}
use Rattle.flow_term.specs.declared.graph.Unknown.{Unknown}
use Rattle.flow_term.specs.declared.value.Bound.{Bound}
use Rattle.flow_term.specs.Elements.{elem_cmp}
use Rattle.flow_term.specs.GraphLaws.{nodes_ordered, same_nodes}
use Rattle.flow_term.specs.Orders.{node_cmp}
use Rattle.value_domains.specs.inner.Elements.{elem_total, elem_exact}
use Rattle.tree_constraints.specs.declared.constraint.Key.{Key}
use Rattle.tree_constraints.specs.declared.constraint.Origin.{Origin}
use Rattle.tree_constraints.specs.declared.constraint.Origin.TheVariants as origin
use Rattle.tree_constraints.specs.Laws.{PartsTell}
use Rattle.tree_constraints.specs.Orders.{unknown_cmp, origin_cmp, key_cmp, same_rule, same_bindings}

-- ORDERS IN TWO STEPS

tie : (o : Ordering) → o ≡ ordering_reverse o → o ≡ Equal
tie Less h = cc
tie Equal h = refl
tie Greater h = cc

both_tie : (a b : Ordering) → ordering_then a b ≡ Equal → (a ≡ Equal) × (b ≡ Equal)
both_tie Less b h = cc
both_tie Equal b h = (refl, h)
both_tie Greater b h = cc

then_flips : (a b c d : Ordering) → a ≡ ordering_reverse c → b ≡ ordering_reverse d → ordering_then a b ≡ ordering_reverse (ordering_then c d)
then_flips a b Less d ea eb = ap (λ o. ordering_then o b) ea
then_flips a b Equal d ea eb = ap (λ o. ordering_then o b) ea ∙ eb
then_flips a b Greater d ea eb = ap (λ o. ordering_then o b) ea

-- WHAT TURNS ROUND TIES WITH ITSELF

node_flips : (a b : Node) → node_cmp a b ≡ ordering_reverse (node_cmp b a)
node_flips a b = sym (nodes_ordered a b) ∙ node_laws.total-law.antisymm a b ∙ ap ordering_reverse (nodes_ordered b a)

pub unknown_flips : (a b : Unknown) → unknown_cmp a b ≡ ordering_reverse (unknown_cmp b a)
unknown_flips a b =
    then_flips (node_cmp a.node b.node) (slice_cmp nat_cmp a.property b.property) (node_cmp b.node a.node) (slice_cmp nat_cmp b.property a.property)
    (node_flips a.node b.node) (nat_list_cmp_total.antisymm a.property b.property)

origin_flips : (a b : Origin) → origin_cmp a b ≡ ordering_reverse (origin_cmp b a)
origin_flips origin.Boundary origin.Boundary = refl
origin_flips origin.Boundary (origin.Along n) = refl
origin_flips (origin.Along m) origin.Boundary = refl
origin_flips (origin.Along m) (origin.Along n) = node_flips m n

pub key_flips : (a b : Key) → key_cmp a b ≡ ordering_reverse (key_cmp b a)
key_flips a b =
    then_flips (unknown_cmp a.target b.target) (origin_cmp a.origin b.origin) (unknown_cmp b.target a.target) (origin_cmp b.origin a.origin)
    (unknown_flips a.target b.target) (origin_flips a.origin b.origin)

pub unknown_ties : (a : Unknown) → unknown_cmp a a ≡ Equal
unknown_ties a = tie (unknown_cmp a a) (unknown_flips a a)

pub key_ties : (a : Key) → key_cmp a a ≡ Equal
key_ties a = tie (key_cmp a a) (key_flips a a)

-- WHAT TIES IS EQUAL

node_exact : (a b : Node) → node_cmp a b ≡ Equal → a ≡ b
node_exact a b h = same_nodes a b (nodes_ordered a b ∙ h)

unknown_exact : (a b : Unknown) → unknown_cmp a b ≡ Equal → a ≡ b
unknown_exact a b h =
    let ties = both_tie (node_cmp a.node b.node) (slice_cmp nat_cmp a.property b.property) h in
    let nodes : a.node ≡ b.node = node_exact a.node b.node ties.0 in
    let names : a.property ≡ b.property = exact_bytes a.property b.property ties.1 in
    λ i. record { node = nodes i; property = names i }

origin_exact : (a b : Origin) → origin_cmp a b ≡ Equal → a ≡ b
origin_exact origin.Boundary origin.Boundary h = refl
origin_exact origin.Boundary (origin.Along n) h = cc
origin_exact (origin.Along m) origin.Boundary h = cc
origin_exact (origin.Along m) (origin.Along n) h = ap origin.Along (node_exact m n h)

key_exact : (a b : Key) → key_cmp a b ≡ Equal → a ≡ b
key_exact a b h =
    let ties = both_tie (unknown_cmp a.target b.target) (origin_cmp a.origin b.origin) h in
    let targets : a.target ≡ b.target = unknown_exact a.target b.target ties.0 in
    let origins : a.origin ≡ b.origin = origin_exact a.origin b.origin ties.1 in
    λ i. record { target = targets i; origin = origins i }

rule_exact : (a b : Option ℕ) → same_rule a b ≡ true → a ≡ b
rule_exact None None h = refl
rule_exact (Some i) (Some j) h = ap Some (numbers_exact.exact i j h)
rule_exact None (Some j) h = cc
rule_exact (Some i) None h = cc

rule_itself : (a : Option ℕ) → same_rule a a ≡ true
rule_itself None = refl
rule_itself (Some i) = numbers_exact.itself i

bindings_exact : (a b : List Bound) → same_bindings a b ≡ true → a ≡ b
bindings_exact [] [] h = refl
bindings_exact [] (b ∷ bs) h = cc
bindings_exact (a ∷ as_) [] h = cc
bindings_exact (a ∷ as_) (b ∷ bs) h =
    let parts = and_parts (bytes_eq a.name b.name && eq_by_cmp elem_cmp a.value b.value) (same_bindings as_ bs) h in
    let rest = and_parts (bytes_eq a.name b.name) (eq_by_cmp elem_cmp a.value b.value) parts.0 in
    let names : a.name ≡ b.name = (bytes_eq-Decides a.name b.name).0 rest.0 in
    let values : a.value ≡ b.value = same_tied elem_cmp elem_total elem_exact a.value b.value rest.1 in
    let others : as_ ≡ bs = bindings_exact as_ bs parts.1 in
    λ i. record { name = names i; value = values i } ∷ others i

bindings_itself : (a : List Bound) → same_bindings a a ≡ true
bindings_itself [] = refl
bindings_itself (a ∷ as_) =
    and_from (bytes_eq a.name a.name && eq_by_cmp elem_cmp a.value a.value) (same_bindings as_ as_)
    (and_from (bytes_eq a.name a.name) (eq_by_cmp elem_cmp a.value a.value) ((bytes_eq-Decides a.name a.name).1 refl) (ties_itself elem_cmp elem_total elem_exact a.value)) (bindings_itself as_)

pub parts_tell : PartsTell
parts_tell = record {
  keys = record {
    itself = λ a. and_from (eq_by_cmp key_cmp a.key a.key && same_rule a.rule a.rule) (same_bindings a.bindings a.bindings)
        (and_from (eq_by_cmp key_cmp a.key a.key) (same_rule a.rule a.rule) (ap is_eq (key_ties a.key)) (rule_itself a.rule))
        (bindings_itself a.bindings);
    exact = λ a b h.
        let parts = and_parts (eq_by_cmp key_cmp a.key b.key && same_rule a.rule b.rule) (same_bindings a.bindings b.bindings) h in
        let rest = and_parts (eq_by_cmp key_cmp a.key b.key) (same_rule a.rule b.rule) parts.0 in
        let keys : a.key ≡ b.key = key_exact a.key b.key ((Equal-is (key_cmp a.key b.key)).0 rest.0) in
        let rules : a.rule ≡ b.rule = rule_exact a.rule b.rule rest.1 in
        let bindings : a.bindings ≡ b.bindings = bindings_exact a.bindings b.bindings parts.1 in
        λ i. record { key = keys i; rule = rules i; bindings = bindings i };
  };
  unknowns = record { itself = λ a. ap is_eq (unknown_ties a); exact = λ a b h. unknown_exact a b ((Equal-is (unknown_cmp a b)).0 h) };
}
