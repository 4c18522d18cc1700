use Rattle.graph_shape.proofs.ShapePut.{shape_put}
use Rattle.graph_shape.proofs.laws.shapes_stay_shapes.Goals as goal

pub returns : goal.returns
returns c = shape_put
