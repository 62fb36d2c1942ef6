use Rattle.route_graph.proofs.WalkLaws.{walk-leaves}
use Rattle.route_graph.proofs.laws.walk_reaches_leaves.Goals as goal

pub returns : goal.returns
returns c = walk-leaves
