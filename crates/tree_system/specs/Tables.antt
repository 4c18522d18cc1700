-- The tables of a system by number.
use Rattle.std.specs.Prelude.{◌≡◌, ℕ, ◌<◌, ◌^◌, true, List, [], length, map, filter, get_or, nat_eq, None, Some, slice_get}
use Rattle.std.specs.List.{position_or_len}
use Rattle.list_theory.specs.Lists.{has}
use Rattle.flow_term.specs.declared.graph.Unknown.{Unknown}
use Rattle.flow_term.specs.declared.graph.NodeKind.TheVariants as kind
use Rattle.flow_syntax.specs.declared.expr.Side.{Side}
use Rattle.flow_syntax.specs.declared.property.PropDecl.{PropDecl}
use Rattle.flow_syntax.specs.declared.spec.Spec.{Spec}
use Rattle.constraint_names.specs.Numbering.{Numbering}
use Rattle.expr_meaning.specs.Meaning.{property_number}
use Rattle.tree_constraints.specs.declared.constraint.Constraint.{Constraint}
use Rattle.tree_constraints.specs.declared.constraint.Origin.TheVariants as origin
use Rattle.tree_constraints.specs.Constraints.{node_at, reads_of, unknown_at}
use Rattle.tree_constraints.specs.Orders.{by_parts}
use Rattle.tree_system.specs.declared.reading.Bases.{Bases}
use Rattle.tree_system.specs.Reading.{number_at}

-- what stands where no unknown and no constraint does
abbrev pub no_unknown : Unknown
no_unknown = record { node = record { path = []; kind = kind.Start }; property = [] }

abbrev pub no_constraint : Constraint
no_constraint = record { key = record { target = no_unknown; origin = origin.Boundary }; rule = None; bindings = [] }

abbrev pub no_bases : Bases
no_bases = record { this = 0; other = 0 }

-- constraints and unknowns by their places, where those of these numbers are in use
abbrev pub by_place : List Constraint → List Unknown → List ℕ → List ℕ → Numbering Constraint Unknown
by_place constraints unknowns keys in_use = record {
  keys = keys;
  unknowns = in_use;
  key = λ k. get_or constraints k no_constraint;
  unknown = λ u. get_or unknowns u no_unknown;
  number = λ w. position_or_len (by_parts.unknown w) unknowns;
}

-- the constraints in use, and the unknowns in use
abbrev pub keys_in : Numbering Constraint Unknown → List Constraint
keys_in n = map n.key n.keys

abbrev pub unknowns_in : Numbering Constraint Unknown → List Unknown
unknowns_in n = map n.unknown n.unknowns

-- what stands in a table at a place in it
pub record IsAt {X : Type 0} (xs : List X) (d : X) (i : ℕ) (x : X) : Type 0 where
  pub within : i < length xs
  pub is : get_or xs i d ≡ x

module _ (spec : Spec) (n : Numbering Constraint Unknown) where
  abbrev pub UsesKey : ℕ → Type 0
  UsesKey k = has nat_eq n.keys k ≡ true

  abbrev pub UsesUnknown : ℕ → Type 0
  UsesUnknown u = has nat_eq n.unknowns u ≡ true

  -- the number of what a constraint aims at, and those of what it reads
  abbrev pub target_number : ℕ → ℕ
  target_number k = n.number (n.key k).key.target

  abbrev pub read_numbers : ℕ → List ℕ
  read_numbers k = map n.number (reads_of spec (n.key k))

  -- Each number in use stands for a constraint or an unknown of its own, keys rise, and each table has what its name says at
  -- each number in use.
  pub record AreTables (constraints unknowns : ℕ) (targets : List ℕ) (reads waking aims : List (List ℕ)) (properties : List ℕ) : Type 0 where
    pub own_key : (j k : ℕ) → UsesKey j → UsesKey k → by_parts.key (n.key j) (n.key k) ≡ true → j ≡ k
    pub back : (u : ℕ) → UsesUnknown u → n.number (n.unknown u) ≡ u
    pub rise : (i j : ℕ) → i < j → j < length n.keys → get_or n.keys i 0 < get_or n.keys j 0
    pub has_constraint : (k : ℕ) → UsesKey k → k < constraints
    pub has_unknown : (u : ℕ) → UsesUnknown u → u < unknowns
    pub targets_are : (k : ℕ) → UsesKey k → IsAt targets 0 k (target_number k)
    pub reads_are : (k : ℕ) → UsesKey k → IsAt reads [] k (read_numbers k)
    pub readers_are : (u : ℕ) → UsesUnknown u → IsAt waking [] u (filter (λ k. has nat_eq (read_numbers k) u) n.keys)
    pub aiming_are : (u : ℕ) → UsesUnknown u → IsAt aims [] u (filter (λ k. nat_eq (target_number k) u) n.keys)
    pub properties_are : (u : ℕ) → UsesUnknown u → IsAt properties 0 u (property_number spec (n.unknown u).property)

  -- Where the bodies of constraints read: the number of each property's unknown at each side is told by the bases of the
  -- constraint and the places of properties.
  pub record AreBases (bases : List Bases) (places : List ℕ) : Type 0 where
    pub long : length places ≡ length spec.properties
    pub within : (k : ℕ) → UsesKey k → k < length bases
    pub fit : (k p : ℕ) (s : Side) → UsesKey k → p < length places → number_at (get_or bases k no_bases) places p s < 2 ^ 64
    pub numbers : (k p : ℕ) (d : PropDecl) (s : Side) → UsesKey k → slice_get spec.properties p ≡ Some d
        → n.number (unknown_at (node_at (n.key k).key s) d.name.text) ≡ number_at (get_or bases k no_bases) places p s
