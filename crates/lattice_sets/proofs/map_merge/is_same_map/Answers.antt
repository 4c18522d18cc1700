use Rattle.lattice_sets.proofs.MapMerges.{first_kept, rest_kept, same_parts, iff_then}
use Rattle.lattice_sets.proofs.map_merge.is_same_map.Goals as goal

pub is_same_entry-requires-clause-left : goal.is_same_entry-requires-clause-left
is_same_entry-requires-clause-left g c = first_kept (g.L.Lattice.valid c.args.values.now) (g.L.Lattice.least c.args.values.now) _ _ _ c.in-Some-Some.ensures.cases.0 c.loop-x.invariant.left

pub is_same_entry-requires-clause-right : goal.is_same_entry-requires-clause-right
is_same_entry-requires-clause-right g c = first_kept (g.L.Lattice.valid c.args.values.now) (g.L.Lattice.least c.args.values.now) _ _ _ c.in-Some-Some.ensures'.cases.0 c.loop-x.invariant.right

pub loop-x-preserved : goal.loop-x-preserved
loop-x-preserved g c =
    let m = c.loop-x.invariant in
    let s = c.in-Some-Some in
    record {
      left = rest_kept (g.L.Lattice.valid c.args.values.now) (g.L.Lattice.least c.args.values.now) _ _ _ s.ensures.cases.0 m.left;
      right = rest_kept (g.L.Lattice.valid c.args.values.now) (g.L.Lattice.least c.args.values.now) _ _ _ s.ensures'.cases.0 m.right;
      answer = iff_then (same_parts _ _ _ _ _ _ s.ensures.cases.0 s.ensures'.cases.0 (c.is_same_entry.ensures.0 c.if-not-is_same_entry.false)) m.answer;
    }
