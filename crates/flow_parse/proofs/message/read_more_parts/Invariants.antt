use Rattle.std.proofs.Common.{◌≡◌, length}
use Rattle.flow_parse.proofs.RuleLaws.{more_parts}
use Rattle.flow_parse.proofs.message.read_more_parts.Given as goal

abbrev pub invariant-loop-alloc : goal.invariant-loop-alloc
invariant-loop-alloc l = more_parts l.parts l.rest.tokens.now ≡ more_parts l.fn.parts l.fn.cursor.tokens.now

abbrev pub decreases-loop-alloc : goal.decreases-loop-alloc
decreases-loop-alloc l = length l.rest.tokens.now
