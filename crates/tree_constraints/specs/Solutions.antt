-- The system of a tree's constraints, its least solution, and its bound.
use Rattle.std.specs.Prelude.{◌≡◌, ◌↔◌, ℕ, Bool, List, [], Contains}
use Rattle.std.specs.List.Sorted.{IsStrictlySortedBy}
use Rattle.flow_term.specs.declared.elem.Elem.{Elem}
use Rattle.flow_term.specs.declared.graph.Unknown.{Unknown}
use Rattle.flow_term.specs.declared.term.Term.{Term}
use Rattle.flow_term.specs.declared.value.Value.{Value}
use Rattle.flow_syntax.specs.declared.spec.Spec.{Spec}
use Rattle.flow_syntax.specs.Types.{Sort, Typing}
use Rattle.constraint_theory.specs.Systems.{ConstraintSystem, IsLeast, with_test, bound}
use Rattle.value_domains.specs.Domains.{Domain}
use Rattle.value_heights.specs.Ranked.{Ranked, ranked_of}
use Rattle.value_heights.specs.Tests.{is_valid}
use Rattle.expr_meaning.specs.Meaning.{property_number}
use Rattle.expr_meaning.specs.SpecRanges.{domains_of}
use Rattle.tree_constraints.specs.declared.constraint.Constraint.{Constraint}
use Rattle.tree_constraints.specs.Constraints.{IsConstraint, IsUnknownOf, reads_of, value_of}
use Rattle.tree_constraints.specs.Elements.{elements_of}
use Rattle.tree_constraints.specs.Orders.{by_parts, constraint_cmp, unknown_cmp}

-- These are the constraints of the tree, in order of their keys.
pub record AreConstraints (spec : Spec) (tree : Term) (constraints : List Constraint) : Type 0 where
  pub exactly : (c : Constraint) → Contains constraints c ↔ IsConstraint spec tree c
  pub ordered : IsStrictlySortedBy constraint_cmp constraints

-- These are the unknowns of the tree, in order.
pub record AreUnknowns (spec : Spec) (tree : Term) (unknowns : List Unknown) : Type 0 where
  pub exactly : (u : Unknown) → Contains unknowns u ↔ IsUnknownOf spec tree u
  pub ordered : IsStrictlySortedBy unknown_cmp unknowns

-- the domain of an unknown: that of its property
abbrev pub domain_at : Spec → Unknown → Domain
domain_at spec u = domains_of spec (property_number spec u.property)

-- whether a value is one of the unknown's domain
abbrev pub is_valid_at : Spec → Unknown → Value → Bool
is_valid_at spec u v = is_valid (domain_at spec u) v

module _ (spec : Spec) (types : List Typing) where
  -- the system of these constraints over these unknowns, where each unknown has a ranked lattice
  abbrev pub system_of : (Unknown → Ranked Value) → List Constraint → List Unknown → ConstraintSystem Constraint Unknown Value
  system_of ranked constraints unknowns = record {
    unknowns = unknowns;
    keys = constraints;
    target = λ c. c.key.target;
    reads = λ c. reads_of spec c;
    eval = λ c a. value_of spec types c a;
    bottom = λ u. (ranked u).bottom;
    join = λ u. (ranked u).join;
    leq = λ u. (ranked u).leq;
    fits = λ u. (ranked u).fits;
    height = λ u. (ranked u).height;
    rank = λ u. (ranked u).rank;
  }

  -- the system in which those values fit that are made of these elements
  abbrev pub system_over : (Sort → List Elem) → List Constraint → List Unknown → ConstraintSystem Constraint Unknown Value
  system_over elements = system_of (λ u. ranked_of elements (domain_at spec u))

  -- the system of a tree: over its elements
  abbrev pub tree_system : Term → List Constraint → List Unknown → ConstraintSystem Constraint Unknown Value
  tree_system tree = system_over (elements_of spec tree)

  -- the same where all values of the properties' domains fit, whatever their elements; it has no heights
  abbrev pub valid_system : List Constraint → List Unknown → ConstraintSystem Constraint Unknown Value
  valid_system constraints unknowns = with_test (system_over (λ sort. []) constraints unknowns) (is_valid_at spec)

  -- The assignment is the least of those that give each unknown of the tree a value of its property's domain and satisfy
  -- each constraint.
  pub record IsSolution (tree : Term) (a : Unknown → Value) : Type 0 where
    pub constraints : List Constraint
    pub unknowns : List Unknown
    pub are_constraints : AreConstraints spec tree constraints
    pub are_unknowns : AreUnknowns spec tree unknowns
    pub least : IsLeast by_parts (valid_system constraints unknowns) a

  -- This is the bound of the tree: the number of its constraints, and for each unknown its height times the number of
  -- constraints that read it.
  pub record IsBound (tree : Term) (n : ℕ) : Type 0 where
    pub constraints : List Constraint
    pub unknowns : List Unknown
    pub are_constraints : AreConstraints spec tree constraints
    pub are_unknowns : AreUnknowns spec tree unknowns
    pub is_bound : n ≡ bound by_parts (tree_system tree constraints unknowns)
