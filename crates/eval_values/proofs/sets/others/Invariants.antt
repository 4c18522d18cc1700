use Rattle.std.proofs.Common.{◌≡◌, [], ◌∷◌, take}
use Rattle.expr_meaning.specs.Meaning.{difference_of}
use Rattle.eval_values.proofs.sets.others.Given as goal

abbrev pub invariant-loop-elem : goal.invariant-loop-elem
invariant-loop-elem l = l.list ≡ difference_of (take l.elem-index l.elems) (l.gone ∷ [])
