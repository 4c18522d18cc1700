use Rattle.std.proofs.Common.{◌≡◌, drop}
use Rattle.flow_match.specs.Bindings.{bind_all}
use Rattle.flow_match.specs.inner.Onto.{onto}
use Rattle.flow_match.proofs.bind.+bind.Given as goal

abbrev pub invariant-bind_each-loop-i : goal.invariant-bind_each-loop-i
invariant-bind_each-loop-i l = record {
  same : l.path.items ≡ l.fn.path.items;
  left : onto l.out (bind_all (drop l.i l.patterns) (drop l.i l.terms) l.fn.path.items l.i) ≡ onto l.fn.out (bind_all l.patterns l.terms l.fn.path.items 0);
}
