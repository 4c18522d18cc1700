use Rattle.lattice_sets.proofs.MapMerges.{kept_at}
use Rattle.lattice_sets.proofs.map_merge.push_entries.Goals as goal

pub push_entry-requires : goal.push_entry-requires
push_entry-requires g c = kept_at (g.L.Lattice.valid c.args.values.now) (g.L.Lattice.least c.args.values.now) _ _ _ c.requires c.loop-entry-test.true c.entry-item.is
