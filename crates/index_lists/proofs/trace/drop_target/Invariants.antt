use Rattle.std.proofs.Common.{◌≡◌, length, not}
use Rattle.std.specs.Prelude.{filter}
use Rattle.linked_lists.specs.Chains.{list_in}
use Rattle.index_lists.specs.Records.{first, has_key}
use Rattle.index_lists.specs.Traces.{IsTrace}
use Rattle.index_lists.proofs.trace.drop_target.Given as goal

abbrev pub invariant-loop-number : goal.invariant-loop-number
invariant-loop-number l = record {
  trace : IsTrace l.steps.entries l.by_target;
  rest : filter (λ e. not (has_key first l.target e)) l.steps.entries ≡ filter (λ e. not (has_key first l.target e)) l.initial.steps.entries;
}

abbrev pub decreases-loop-number : goal.decreases-loop-number
decreases-loop-number l = length (list_in l.by_target l.target)
