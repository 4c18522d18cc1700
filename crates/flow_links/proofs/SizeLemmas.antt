-- A child is smaller than its term, and a term has fewer children than its size.
use Rattle.std.proofs.Common.{◌≡◌, ℕ, ◌<◌, ◌≤◌, ◌^◌, List, Some, length, get_or, ap, arith}
use Rattle.std.specs.Prelude.{sum_by}
use Rattle.std.proofs.lemmas.List.Sums.{get_or-le-sum_by}
use Rattle.flow_term.specs.declared.term.Term.{Term}
use Rattle.flow_syntax.specs.declared.rule.FlowRule.{FlowRule}
use Rattle.flow_syntax.specs.declared.spec.Spec.{Spec}
use Rattle.flow_syntax.specs.Matching.{matches, pattern_layer}
use Rattle.flow_syntax.specs.Control.{arguments_in, rule_for, HasSmallHead}
use Rattle.flow_syntax.proofs.Matches.{few_arguments, found_passes}
use Rattle.flow_term.specs.Trees.{term_size, children}
use Rattle.flow_term.proofs.Sizes.{term_size_out}
use Rattle.flow_match.proofs.Sizes.{count_le}

pub child_smaller : (t : Term) (xs : List Term) (i : ℕ) (child : Term) → xs ≡ children t → i < length xs → child ≡ get_or xs i child → term_size child < term_size t
child_smaller t xs i child e h is = omega (arith, term_size_out t, get_or-le-sum_by term_size xs i child h, ap (sum_by term_size) e, ap term_size is)

pub few_children : (t : Term) → length (children t) < term_size t
few_children t = omega (arith, term_size_out t, count_le (children t))

-- the head of a rule that matches a term has as many arguments as the term
pub small_head : (spec : Spec) (t : Term) → term_size t < 2 ^ 32 → (rule : FlowRule) → rule_for spec t ≡ Some rule → HasSmallHead rule
small_head spec t small rule is =
    let few : length (arguments_in (pattern_layer rule.head)) ≤ length (children t) = few_arguments rule.head t (found_passes (λ (r : FlowRule). matches r.head t) spec.control rule is) in
    omega (arith, few, few_children t)
