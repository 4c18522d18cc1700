use Rattle.std.proofs.Common.{◌≡◌, map, take}
use Rattle.spec_grammar.specs.Kinds.{code_of, kind_of}
use Rattle.spec_grammar.proofs.cursor.kinds_of.Given as goal

abbrev pub invariant-loop-token : goal.invariant-loop-token
invariant-loop-token l = map code_of l.kinds ≡ map kind_of (take l.token-index l.tokens)
