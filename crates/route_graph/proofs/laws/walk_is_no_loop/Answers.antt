use Rattle.route_graph.proofs.WalkLaws.{walk-no_loop}
use Rattle.route_graph.proofs.laws.walk_is_no_loop.Goals as goal

pub returns : goal.returns
returns c = walk-no_loop
