-- Rules by the application at the root of their patterns.
use Rattle.std.specs.Prelude.{◌≡◌, ◌==◌, ℕ, ◌+◌, Bool, true, false, cond, List, [], ◌∷◌, Option, Some, None, bytes_eq, unwrap_or}
use Rattle.std.specs.Option.{option_map_or}
use Rattle.std.specs.Cmp.Lexicographic.{pointwise}
use Rattle.indexmap.specs.IndexMap.{get}
use Rattle.flow_term.specs.declared.term.Term.{Term}
use Rattle.flow_term.specs.declared.term.Kind.TheOpen.{Kind-F}
use Rattle.flow_term.specs.Annotations.{TermLayer, term_layer}
use Rattle.flow_syntax.specs.declared.pattern.Pattern.{Pattern, fold-Pattern}
use Rattle.flow_syntax.specs.declared.pattern.PatternKind.TheOpen.{PatternKind-F}
use Rattle.flow_syntax.specs.declared.property.PropRule.{PropRule}
use Rattle.flow_syntax.specs.declared.rule.FlowRule.{FlowRule}
use Rattle.flow_match.specs.declared.index.PatternIndex.{PatternIndex}
use Rattle.flow_syntax.specs.ExprFaults.{trigger_pattern}

-- one layer of a pattern, from what its parts are
abbrev pub root_layer : PatternKind-F (Option (List ℕ)) (Option (List ℕ)) → Option (List ℕ)
root_layer (PatternKind-F.Apply name parts) = Some name
root_layer (PatternKind-F.Held x p) = p
root_layer _ = None

-- the name of the application that a pattern is, which variables may hold
abbrev pub root_name : Pattern → Option (List ℕ)
root_name = fold-Pattern (Option (List ℕ)) (Option (List ℕ)) root_layer (λ p. p.kind)

abbrev pub head_in : TermLayer → Option (List ℕ)
head_in (Kind-F.Apply name args) = Some name
head_in _ = None

-- the name of the application that a term is
abbrev pub head_name : Term → Option (List ℕ)
head_name t = head_in (term_layer t)

-- whether a pattern with this root may match a term with this head
abbrev pub may_match : Option (List ℕ) → Option (List ℕ) → Bool
may_match head None = true
may_match head (Some name) = option_map_or (bytes_eq name) head false

-- the numbers, from here on, of those that pass a test
abbrev pub numbers_where : {X : Type 0} → (X → Bool) → ℕ → List X → List ℕ
numbers_where test n [] = []
numbers_where test n (x ∷ xs) = cond (test x) (n ∷ numbers_where test (n + 1) xs) (numbers_where test (n + 1) xs)

-- the numbers of those whose pattern may match a term with this head
abbrev pub candidates : {X : Type 0} → (X → Pattern) → List X → Option (List ℕ) → List ℕ
candidates pattern xs head = numbers_where (λ x. may_match head (root_name (pattern x))) 0 xs

-- the numbers that an index has for a head
abbrev pub numbers_in : PatternIndex → Option (List ℕ) → List ℕ
numbers_in index None = index.others
numbers_in index (Some name) = unwrap_or (get (pointwise ◌==◌) index.by_name name) index.others

-- An index has for each head the numbers of those whose pattern may match a term with it.
abbrev pub IsIndexOf : {X : Type 0} → (X → Pattern) → List X → PatternIndex → Type 0
IsIndexOf pattern xs index = (head : Option (List ℕ)) → numbers_in index head ≡ candidates pattern xs head

-- the patterns of the two kinds of rules
abbrev pub head_pattern : FlowRule → Pattern
head_pattern rule = rule.head

abbrev pub rule_pattern : PropRule → Pattern
rule_pattern rule = trigger_pattern rule.trigger
