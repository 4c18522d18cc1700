use Rattle.std.proofs.Common.{[], ◌≡◌, length}
use Rattle.flow_parse.specs.Declarations.{reads_further}
use Rattle.flow_parse.proofs.sections.read_declarations.Given as goal

abbrev pub invariant-loop-beginnings : goal.invariant-loop-beginnings
invariant-loop-beginnings g l = reads_further g.D.Declaration.symbol l.declared l.rest.tokens.now ≡ reads_further g.D.Declaration.symbol [] l.fn.cursor.tokens.now

abbrev pub decreases-loop-beginnings : goal.decreases-loop-beginnings
decreases-loop-beginnings g l = length l.rest.tokens.now
