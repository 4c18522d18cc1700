-- What holds of the constraints of each tree.
use Rattle.std.specs.Prelude.{◌≡◌, ◌↔◌, ◌≤◌, ℕ, true, false, List, Contains, Some, IsTrue}
use Rattle.std.specs.List.{AllZip}
use Rattle.flow_term.specs.declared.elem.Elem.{Elem}
use Rattle.flow_term.specs.declared.graph.Unknown.{Unknown}
use Rattle.flow_term.specs.declared.term.Term.{Term}
use Rattle.flow_term.specs.declared.value.Value.{Value}
use Rattle.flow_term.specs.Orders.{EachOnce}
use Rattle.flow_term.specs.Trees.{IsPosition}
use Rattle.flow_syntax.specs.declared.property.PropRule.{PropRule}
use Rattle.flow_syntax.specs.declared.spec.Spec.{Spec}
use Rattle.flow_syntax.specs.Binders.{bound_in}
use Rattle.flow_syntax.specs.ExprFaults.{trigger_pattern}
use Rattle.flow_syntax.specs.Types.{Sort, Typing}
use Rattle.list_theory.specs.Lists.{has}
use Rattle.constraint_theory.specs.Machine.{replay}
use Rattle.constraint_theory.specs.Systems.{IsEquality, IsMonotone, IsLawful, IsKey, Fitting, Satisfies, bound}
use Rattle.value_domains.specs.Values.{Includes}
use Rattle.value_heights.specs.Heights.{HasNoMore, is_within}
use Rattle.expr_meaning.specs.Modes.{mode_of}
use Rattle.expr_meaning.specs.SpecRanges.{ranges_of}
use Rattle.flow_modes.specs.Modes.{is_refused}
use Rattle.typed_bodies.specs.Accepted.{IsTypedBy, HasLawfulTables}
use Rattle.tree_constraints.specs.declared.constraint.Constraint.{Constraint}
use Rattle.tree_constraints.specs.Constraints.{IsConstraint, IsUnknownOf, rule_of, value_of}
use Rattle.tree_constraints.specs.Elements.{elements_of, is_element, paths_of}
use Rattle.tree_constraints.specs.Orders.{by_parts}
use Rattle.tree_constraints.specs.Solutions.{AreConstraints, AreUnknowns, IsSolution, IsBound, domain_at, system_over, tree_system, valid_system}

-- the tests tell constraints and unknowns apart
abbrev pub PartsTell : Type 0
PartsTell = IsEquality by_parts

-- the paths of a tree are those that lead to its positions
abbrev pub PathsArePositions : Type 0
PathsArePositions = (tree : Term) (path : List ℕ) → Contains (paths_of tree) path ↔ IsPosition tree path

-- each variable of a constraint's rule is bound to an element of the tree, of its sort
abbrev pub BindingsAreElements : Type 0
BindingsAreElements = (spec : Spec) (tree : Term) (c : Constraint) → IsConstraint spec tree c → (rule : PropRule) → rule_of spec c ≡ Some rule
    → AllZip (λ v b. IsTrue (is_element spec tree v.sort b.value)) (bound_in (trigger_pattern rule.trigger)) c.bindings

-- two constraints of a tree with one key are equal
abbrev pub KeysAreOwn : Type 0
KeysAreOwn = (spec : Spec) (tree : Term) (c d : Constraint) → IsConstraint spec tree c → IsConstraint spec tree d → c.key ≡ d.key → c ≡ d

-- a tree has one list of constraints at most, and one of unknowns
abbrev pub ConstraintsAreOne : Type 0
ConstraintsAreOne = (spec : Spec) (tree : Term) (cs ds : List Constraint) → AreConstraints spec tree cs → AreConstraints spec tree ds → cs ≡ ds

abbrev pub UnknownsAreOne : Type 0
UnknownsAreOne = (spec : Spec) (tree : Term) (us vs : List Unknown) → AreUnknowns spec tree us → AreUnknowns spec tree vs → us ≡ vs

-- the body of each rule is `Fixed` or `Up`, where the expressions have these types
abbrev pub RulesRise : Spec → List Typing → Type 0
RulesRise spec types = (rule : PropRule) → Contains spec.rules rule → is_refused (mode_of (ranges_of spec types) rule.body) ≡ false

-- an accepted specification: it has no fault, these are its types, its tables are lawful, and its rules rise with what they read
pub record IsAnalysed (spec : Spec) (types : List Typing) : Type 0 where
  pub typed : IsTypedBy spec types
  pub lawful : HasLawfulTables spec
  pub rise : RulesRise spec types

-- the system of a tree over all valid values is monotone
abbrev pub SystemsAreMonotone : Type 0
SystemsAreMonotone = (spec : Spec) (types : List Typing) → IsAnalysed spec types → (tree : Term) (cs : List Constraint) (us : List Unknown) → AreConstraints spec tree cs → AreUnknowns spec tree us
    → IsMonotone by_parts (valid_system spec types cs us)

-- the constraints keep to these elements: where each unknown has a value that is made of them, each gives one
abbrev pub KeepsTo : Spec → List Typing → (Sort → List Elem) → List Constraint → List Unknown → Type 0
KeepsTo spec types elements cs us = (c : Constraint) (a : Unknown → Value) → IsKey by_parts (system_over spec types elements cs us) c → Fitting by_parts (system_over spec types elements cs us) a
    → is_within elements (domain_at spec c.key.target) (value_of spec types c a) ≡ true

-- there the system over these elements meets the laws of order and of ranks
abbrev pub SystemsAreLawful : Type 0
SystemsAreLawful = (spec : Spec) (types : List Typing) → IsAnalysed spec types → (elements : Sort → List Elem) (tree : Term) (cs : List Constraint) (us : List Unknown) → AreConstraints spec tree cs → AreUnknowns spec tree us
    → KeepsTo spec types elements cs us → IsLawful by_parts (system_over spec types elements cs us)

-- the constraints of a tree keep to its own elements
abbrev pub ConstraintsKeepToElements : Type 0
ConstraintsKeepToElements = (spec : Spec) (types : List Typing) → IsAnalysed spec types → (tree : Term) (cs : List Constraint) (us : List Unknown) → AreConstraints spec tree cs → AreUnknowns spec tree us
    → KeepsTo spec types (elements_of spec tree) cs us

-- so the system of a tree meets all laws
abbrev pub TreesAreLawful : Type 0
TreesAreLawful = (spec : Spec) (types : List Typing) → IsAnalysed spec types → (tree : Term) (cs : List Constraint) (us : List Unknown) → AreConstraints spec tree cs → AreUnknowns spec tree us
    → IsLawful by_parts (tree_system spec types tree cs us)

-- over whichever elements steps are made: where their replay satisfies each constraint, it is the solution of the tree
abbrev pub ReplaysAreSolutions : Type 0
ReplaysAreSolutions = (spec : Spec) (types : List Typing) → IsAnalysed spec types → (elements : Sort → List Elem) (tree : Term) (cs : List Constraint) (us : List Unknown) → AreConstraints spec tree cs → AreUnknowns spec tree us
    → (steps : List Constraint) → ((c : Constraint) → has by_parts.key steps c ≡ true → IsKey by_parts (system_over spec types elements cs us) c)
    → Satisfies by_parts (system_over spec types elements cs us) (replay by_parts (system_over spec types elements cs us) steps)
    → IsSolution spec types tree (replay by_parts (system_over spec types elements cs us) steps)

-- over no more elements than the tree's the bound of the system is at most that of the tree
abbrev pub BoundsAreWithin : Type 0
BoundsAreWithin = (spec : Spec) (types : List Typing) (elements : Sort → List Elem) (tree : Term) (cs : List Constraint) (us : List Unknown) → AreConstraints spec tree cs → AreUnknowns spec tree us
    → HasNoMore elements (elements_of spec tree) → (n : ℕ) → IsBound spec types tree n → bound by_parts (system_over spec types elements cs us) ≤ n

-- elements that stand once each, all among others, are no more than these
abbrev pub IncludedAreNoMore : Type 0
IncludedAreNoMore = (few many : Sort → List Elem) → ((sort : Sort) → EachOnce (few sort)) → ((sort : Sort) → Includes (many sort) (few sort)) → HasNoMore few many

-- a tree has one solution at most
abbrev pub SolutionsAreOne : Type 0
SolutionsAreOne = (spec : Spec) (types : List Typing) → IsAnalysed spec types → (tree : Term) (a b : Unknown → Value) → IsSolution spec types tree a → IsSolution spec types tree b
    → (u : Unknown) → IsUnknownOf spec tree u → a u ≡ b u
