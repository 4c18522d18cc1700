use Rattle.graph_shape.proofs.StopWays.{firsts_at, lasts_at, owns_at, passes_at}
use Rattle.graph_shape.proofs.laws.positions_are_known_by_stops.Goals as goal

pub returns : goal.returns
returns c spec placed t path steps plan bits passed = record {
  first = firsts_at spec t path steps plan bits passed placed;
  last = lasts_at spec t path steps plan bits passed placed;
  passes = passes_at spec t path steps plan bits passed placed;
  owns = owns_at spec t path steps plan bits passed placed;
}
