-- Edges between numbered nodes.
use Rattle.std.specs.Prelude.{◌≡◌, ℕ, ◌≤◌, nat_eq, nat_le, Bool, not, true, ◌&&◌, if◌then◌else◌, List, length}
use Rattle.list_theory.specs.Lists.{distinct}
use Rattle.linked_lists.specs.Chains.{Lists}
use Rattle.index_lists.specs.Records.{AreGrouped, Records, first, numbers, second}

-- edges in order of adding, each as its number, source and target; how many more fit; and the number below which all nodes are allowed
pub record Edges : Type 0 where
  pub edges : List (ℕ × (ℕ × ℕ))
  pub spare : ℕ
  pub nodes : ℕ

-- an edge as its number, its source and its target
abbrev pub as_triple : ℕ × (ℕ × ℕ) → ℕ × ℕ × ℕ
as_triple edge = (edge.0, edge.1.0, edge.1.1)

-- whether an edge leaves a node
abbrev pub leaves : ℕ → ℕ × (ℕ × ℕ) → Bool
leaves node edge = nat_eq edge.1.0 node

-- whether an edge reaches a node
abbrev pub reaches : ℕ → ℕ × (ℕ × ℕ) → Bool
reaches node edge = nat_eq edge.1.1 node

-- whether an edge neither leaves a node nor reaches it
abbrev pub avoids : ℕ → ℕ × (ℕ × ℕ) → Bool
avoids node edge = not (leaves node edge) && not (reaches node edge)

-- Each edge is in the list of its source and in that of its target, and no number is there twice.
pub record AreEdges (entries : List (ℕ × (ℕ × ℕ))) (outgoing incoming : Lists) : Type 0 where
  pub outgoing_are : AreGrouped first entries outgoing
  pub incoming_are : AreGrouped second entries incoming
  pub once : distinct nat_eq (numbers entries) ≡ true
  pub nodes : length outgoing.lists ≤ length incoming.lists

-- so many more edges fit, where each of their numbers has a place in the three orders
abbrev pub spare_of : Records → Lists → Lists → ℕ
spare_of r outgoing incoming =
    if nat_le r.capacity r.linked && (nat_le r.capacity outgoing.items && nat_le r.capacity incoming.items) then r.spare else 0
