use Rattle.std.proofs.Common.{◌<◌, ◌^◌, length, arith}
use Rattle.std.specs.Prelude.{None, is_some, nat_lt, slice_index_or, ◌&&◌}
use Rattle.std.proofs.lemmas.Bool.{and_parts, ltb-true}
use Rattle.tree_system.specs.Reading.{number_at}
use Rattle.tree_system.proofs.reading.ReadsAtReads.read.Goals as goal

pub overflow_add-base_at : goal.overflow_add-base_at
overflow_add-base_at c =
    let s = c.args.self.now in
    let u = number_at s.bases s.places.now c.args.property c.args.side in
    let parts = and_parts (nat_lt c.args.property (length s.places.now)) (nat_lt u (2 ^ 64) && is_some (slice_index_or s.values.now u None)) c.requires in
    let fits : u < 2 ^ 64 = ltb-true u (2 ^ 64) (and_parts (nat_lt u (2 ^ 64)) (is_some (slice_index_or s.values.now u None)) parts.1).0 in
    omega (arith, fits, c.base_at.ensures)
