use Rattle.std.proofs.Common.{◌≡◌, ℕ, cond, drop, Some, None}
use Rattle.flow_syntax.specs.declared.rule.FlowRule.{FlowRule}
use Rattle.flow_syntax.specs.Matching.{matches}
use Rattle.flow_match.specs.inner.Among.{first_among}
use Rattle.flow_match.proofs.indexed.place_among.Given as goal

abbrev pub invariant-loop-number : goal.invariant-loop-number
invariant-loop-number l = first_among (λ (n : ℕ) (rule : FlowRule). cond (matches rule.head l.term) (Some n) None) l.rules (drop l.number-index l.numbers) ≡ first_among (λ (n : ℕ) (rule : FlowRule). cond (matches rule.head l.term) (Some n) None) l.rules l.numbers
