-- What the systems of trees over what their constraints bring have in common with the trees.
use Rattle.std.specs.Prelude.{◌≡◌, ◌≤◌, ℕ, List, [], Some, map, ◌<◌, length, true}
use Rattle.list_theory.specs.Lists.{has}
use Rattle.flow_term.specs.declared.graph.Unknown.{Unknown}
use Rattle.flow_term.specs.declared.term.Term.{Term}
use Rattle.flow_term.specs.declared.value.Value.{Value}
use Rattle.flow_term.specs.declared.value.Valued.{Valued}
use Rattle.flow_syntax.specs.declared.property.PropRule.{PropRule}
use Rattle.flow_syntax.specs.declared.spec.Spec.{Spec}
use Rattle.flow_syntax.specs.ExprFaults.{trigger_scope}
use Rattle.flow_syntax.specs.Types.{Typing}
use Rattle.constraint_theory.specs.Machine.{State, IsSound, replay}
use Rattle.constraint_theory.specs.Systems.{Fitting, IsKey, IsLawful, bound, numbers}
use Rattle.constraint_names.specs.Numbering.{Numbering, IsNumbering, numbered}
use Rattle.value_heights.specs.Heights.{HasNoMore}
use Rattle.expr_meaning.specs.Meaning.{property_number}
use Rattle.expr_meaning.specs.Typing.{Suits}
use Rattle.typed_bodies.specs.Anywhere.{used_by, variables_at}
use Rattle.tree_constraints.specs.declared.constraint.Constraint.{Constraint}
use Rattle.tree_constraints.specs.Constraints.{rule_of, situation_of}
use Rattle.tree_constraints.specs.Elements.{elements_of}
use Rattle.tree_constraints.specs.Laws.{IsAnalysed}
use Rattle.tree_constraints.specs.Orders.{by_parts}
use Rattle.tree_constraints.specs.Solutions.{AreConstraints, AreUnknowns, IsBound}
use Rattle.tree_solutions.specs.Analysis.{IsAnalysis, IsOfTree, valued}
use Rattle.tree_solutions.specs.Brought.{brought, brought_system}

-- the constraints of a tree bring no more elements of any sort than the tree has
abbrev pub BroughtAreNoMore : Type 0
BroughtAreNoMore = (spec : Spec) (tree : Term) (cs : List Constraint) → AreConstraints spec tree cs → HasNoMore (brought spec cs) (elements_of spec tree)

-- so the bound of their system is at most that of the tree
abbrev pub BroughtBoundsAreWithin : Type 0
BroughtBoundsAreWithin = (spec : Spec) (types : List Typing) (tree : Term) (cs : List Constraint) (us : List Unknown) → AreConstraints spec tree cs → AreUnknowns spec tree us
    → (n : ℕ) → IsBound spec types tree n → bound by_parts (brought_system spec types cs us) ≤ n

-- the system of some tree's constraints over what they bring meets all laws; it need not be known of which tree
abbrev pub BroughtSystemsAreLawful : Type 0
BroughtSystemsAreLawful = (spec : Spec) (types : List Typing) → IsAnalysed spec types → (cs : List Constraint) (us : List Unknown) → ∥ IsOfTree spec cs us ∥₁ → IsLawful by_parts (brought_system spec types cs us)

-- there each rule can be evaluated wherever the values fit
abbrev pub RulesCanBeEvaluated : Type 0
RulesCanBeEvaluated = (spec : Spec) (types : List Typing) → IsAnalysed spec types → (cs : List Constraint) (us : List Unknown) → ∥ IsOfTree spec cs us ∥₁
    → (c : Constraint) → IsKey by_parts (brought_system spec types cs us) c → (rule : PropRule) → rule_of spec c ≡ Some rule
    → (a : Unknown → Value) → Fitting by_parts (brought_system spec types cs us) a → Suits (used_by spec rule.body) (variables_at (trigger_scope rule.trigger)) (situation_of spec c a)

-- and each rule of a constraint is one of the specification's
abbrev pub RulesAreThere : Type 0
RulesAreThere = (spec : Spec) (cs : List Constraint) (us : List Unknown) → ∥ IsOfTree spec cs us ∥₁ → (c : Constraint) → has by_parts.key cs c ≡ true → (i : ℕ) → c.rule ≡ Some i → i < length spec.rules

-- each property of an unknown is declared
abbrev pub PropertiesAreDeclared : Type 0
PropertiesAreDeclared = (spec : Spec) (types : List Typing) → IsAnalysed spec types → (cs : List Constraint) (us : List Unknown) → ∥ IsOfTree spec cs us ∥₁ → (u : Unknown) → has by_parts.unknown us u ≡ true
    → property_number spec u.property < length spec.properties

-- where nothing waits, the values by number are the analysis of the tree
abbrev pub SettledIsAnalysis : Type 0
SettledIsAnalysis = (spec : Spec) (types : List Typing) → IsAnalysed spec types → (tree : Term) (cs : List Constraint) (us : List Unknown) → AreConstraints spec tree cs → AreUnknowns spec tree us
    → (n : Numbering Constraint Unknown) → IsNumbering (brought_system spec types cs us) n
    → (st : State ℕ) → IsSound numbers (numbered (brought_system spec types cs us) n) st → st.waiting ≡ []
    → IsAnalysis spec types tree (map (λ u. valued (n.unknown u) (replay numbers (numbered (brought_system spec types cs us) n) st.steps u)) n.unknowns)

-- a tree has one analysis at most
abbrev pub AnalysesAreOne : Type 0
AnalysesAreOne = (spec : Spec) (types : List Typing) → IsAnalysed spec types → (tree : Term) (xs ys : List Valued) → IsAnalysis spec types tree xs → IsAnalysis spec types tree ys → xs ≡ ys
