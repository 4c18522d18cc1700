use Rattle.std.proofs.Common.{◌∙◌, ap}
use Rattle.std.specs.Prelude.{map}
use Rattle.index_lists.specs.Records.{pair_of}
use Rattle.index_lists.proofs.TraceLemmas.{pairs_are}
use Rattle.index_lists.proofs.trace.list_steps.Goals as goal

pub returns : goal.returns
returns c = ap (map (pair_of c.args.steps.now.entries)) c.numbers.ensures.numbers ∙ pairs_are c.args.steps.now.entries c.numbers.ensures.once
