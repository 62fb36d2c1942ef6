use Rattle.route_graph.proofs.Covers.{walk-from_unique}
use Rattle.route_graph.proofs.laws.walk_is_unique.Goals as goal

pub returns : goal.returns
returns c = walk-from_unique
