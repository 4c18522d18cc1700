-- Nodes told apart, and their numbers.
use Rattle.std.proofs.Common.{◌≡◌, ℕ, ◌<◌, ◌+◌, Bool, true, false, List, [], ◌∷◌, ◌++◌, Some, length, get_or, take, refl, sym, ap, ◌∙◌, arith, inl, inr, eq-eqb, ◌&&◌}
use Rattle.std.specs.Prelude.{◌||◌, ◌==◌, Contains, if◌then◌else◌}
use Rattle.std.specs.Cmp.Lexicographic.{pointwise, same_text}
use Rattle.std.specs.List.{list_any, position}
use Rattle.std.specs.List.Sorted.{IsStrictlySortedBy}
use Rattle.std.specs.declared.cmp.Ordering.TheVariants.{Less, Equal}
use Rattle.std.proofs.lemmas.Bool.{false_from_ne_true, and_from, cases_lt}
use Rattle.std.proofs.lemmas.List.{get_or-take, length-take, get_or_default, take_more}
use Rattle.std.proofs.lemmas.List.Quantifiers.{position-Some}
use Rattle.std.proofs.lemmas.Map.Keys.{Less-from_sorted}
use Rattle.indexmap.specs.IndexSet.{insert_key}
use Rattle.flow_term.specs.declared.graph.Node.{Node}
use Rattle.flow_term.specs.declared.graph.NodeKind.{NodeKind}
use Rattle.flow_term.specs.declared.graph.NodeKind.TheVariants as kind
use Rattle.flow_term.specs.contracts.graph.NodePartialEq.TheImpl as derived
use Rattle.flow_term.specs.contracts.graph.NodeKindPartialEq.TheImpl as derived_kind
use Rattle.flow_term.specs.Orders.{node_cmp}
use Rattle.tree_constraints.proofs.Lists.{at_head, in_tail, cons_cases, none_in_nil}
use Rattle.tree_listing.proofs.Listed.{node_ties}
use Rattle.tree_build.specs.Numbers.{no_node, node_of}

abbrev pub is_same : Node → Node → Bool
is_same = derived.ghosts.eq

-- in a sorted list each node has its own number

pub rising : (nodes : List Node) (i j : ℕ) → IsStrictlySortedBy node_cmp nodes → i < j → j < length nodes → node_of nodes i ≡ node_of nodes j → ⊥
rising nodes i j sorted lt within e =
    let less : node_cmp (node_of nodes i) (node_of nodes j) ≡ Less = Less-from_sorted node_cmp nodes i j no_node sorted lt within in
    let no : Less ≡ Equal = sym less ∙ ap (λ n. node_cmp (node_of nodes i) n) (sym e) ∙ node_ties (node_of nodes i) in
    cc

pub own_number : (nodes : List Node) (i j : ℕ) → IsStrictlySortedBy node_cmp nodes → i < length nodes → j < length nodes → node_of nodes i ≡ node_of nodes j → i ≡ j
own_number nodes i j sorted hi hj e = elim (cases_lt i j) [
  | inl lt ↦ absurd (rising nodes i j sorted lt hj e)
  | inr ge ↦ elim (cases_lt j i) [
    | inl lt ↦ absurd (rising nodes j i sorted lt hi (sym e))
    | inr le ↦ omega (arith, ge, le)
  ]
]

-- what `==` says of nodes

both_true : (a b : Bool) → (a && b) ≡ true → (a ≡ true) × (b ≡ true)
both_true true true h = (refl, refl)
both_true true false h = cc
both_true false b h = cc

kind_same : (a b : NodeKind) → derived_kind.ghosts.eq a b ≡ true → a ≡ b
kind_same kind.Start kind.Start h = refl
kind_same kind.Node kind.Node h = refl
kind_same kind.End kind.End h = refl
kind_same _ _ h = cc

kind_itself : (a : NodeKind) → derived_kind.ghosts.eq a a ≡ true
kind_itself kind.Start = refl
kind_itself kind.Node = refl
kind_itself kind.End = refl

path_itself : (p : List ℕ) → pointwise ◌==◌ p p ≡ true
path_itself [] = refl
path_itself (n ∷ p) = and_from (n == n) (pointwise ◌==◌ p p) (eq-eqb n n refl) (path_itself p)

pub node_same : (a b : Node) → is_same a b ≡ true → a ≡ b
node_same a b h =
    let parts = both_true (pointwise ◌==◌ a.path b.path) (derived_kind.ghosts.eq a.kind b.kind) h in
    let paths : a.path ≡ b.path = same_text a.path b.path (sym parts.0) in
    let kinds : a.kind ≡ b.kind = kind_same a.kind b.kind parts.1 in
    λ i. record { path = paths i; kind = kinds i }

pub node_equals : (a : Node) → is_same a a ≡ true
node_equals a = and_from (pointwise ◌==◌ a.path a.path) (derived_kind.ghosts.eq a.kind a.kind) (path_itself a.path) (kind_itself a.kind)

-- a node's number by a look-up

or_true : (b : Bool) → (b || true) ≡ true
or_true true = refl
or_true false = refl

pub any_has : (p : Node → Bool) (xs : List Node) (x : Node) → Contains xs x → p x ≡ true → list_any p xs ≡ true
any_has p [] x h t = absurd (none_in_nil x h)
any_has p (y ∷ xs) x h t = elim (cons_cases y xs x h) [
  | inl e ↦ ap (λ b. b || list_any p xs) (ap p e ∙ t)
  | inr c ↦ ap (λ b. p y || b) (any_has p xs x c t) ∙ or_true (p y)
]

pub none_any : (p : Node → Bool) (xs : List Node) → ((x : Node) → Contains xs x → p x ≡ false) → list_any p xs ≡ false
none_any p [] h = refl
none_any p (y ∷ xs) h = ap (λ b. b || list_any p xs) (h y (at_head y xs)) ∙ none_any p xs (λ x c. h x (in_tail y xs x c))

pub found_node : (keys : List Node) (n : Node) (i : ℕ) → position (is_same n) keys ≡ Some i → node_of keys i ≡ n
found_node keys n i h = sym (node_same n (node_of keys i) (position-Some (is_same n) keys i no_node h).1)

-- the next of the nodes in order is a new one
pub next_node : (nodes : List Node) (i : ℕ) (v : Node) → IsStrictlySortedBy node_cmp nodes → i < length nodes → v ≡ get_or nodes i v → insert_key is_same (take i nodes) v ≡ take (i + 1) nodes
next_node nodes i v sorted within is =
    let at : v ≡ node_of nodes i = is ∙ get_or_default nodes i v no_node within in
    let new : list_any (is_same v) (take i nodes) ≡ false = none_any (is_same v) (take i nodes) (λ x c.
    false_from_ne_true (is_same v x) (λ same.
    let lt : c.0 < length (take i nodes) = c.1 in
    let k : c.0 < i = omega (arith, lt, length-take i nodes) in
    rising nodes c.0 i sorted k within
    (sym (get_or-take i nodes c.0 no_node k) ∙ get_or_default (take i nodes) c.0 no_node x lt ∙ c.2 ∙ sym (node_same v x same) ∙ at))) in
    ap (λ b. if b then take i nodes else (take i nodes ++ v ∷ [])) new ∙ ap (λ x. take i nodes ++ x ∷ []) is ∙ sym (take_more nodes i v within)
