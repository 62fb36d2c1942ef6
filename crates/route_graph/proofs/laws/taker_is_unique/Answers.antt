use Rattle.route_graph.proofs.Takers.{taker-unique}
use Rattle.route_graph.proofs.laws.taker_is_unique.Goals as goal

pub returns : goal.returns
returns c = taker-unique
