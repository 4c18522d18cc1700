use Rattle.std.proofs.Common.{◌≡◌, None, find, take}
use Rattle.tree_build.specs.inner.Hits.{is_hit_of}
use Rattle.tree_build.proofs.hits.hit_of.Given as goal

abbrev pub invariant-loop-hit : goal.invariant-loop-hit
invariant-loop-hit l = find (is_hit_of l.property l.boundary) (take l.hit-index l.hits) ≡ None
