use Rattle.std.proofs.Common.{◌≡◌, ℕ, List, ◌++◌, take}
use Rattle.std.specs.Prelude.{Contains}
use Rattle.flow_links.specs.inner.Gains.{Gains}
use Rattle.flow_links.proofs.reach.add_all.Given as goal

abbrev pub invariant-loop-number : goal.invariant-loop-number
invariant-loop-number l = record {
  gains : Gains l.fn.found.keys l.found.keys (Contains (take l.number-index l.numbers));
  order : (more : List ℕ) × (l.found.keys ≡ l.fn.found.keys ++ more);
}
