use Rattle.std.proofs.Common.{◌<◌, ◌^◌, rules}
use Rattle.graph_shape.proofs.OuterNodes.{few_count}
use Rattle.graph_shape.proofs.outer.child_count.Goals as goal

pub overflow_cast-result : goal.overflow_cast-result
overflow_cast-result c = let h : c.len.result < 2 ^ 32 = few_count c.args.shape.now c.len.result c.len.ensures c.requires.few in search rules
