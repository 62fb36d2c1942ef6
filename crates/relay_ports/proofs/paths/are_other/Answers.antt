use Rattle.relay_ports.proofs.Ordering.{two_paths}
use Rattle.relay_ports.proofs.paths.are_other.Goals as goal

pub returns-in-Some-Some : goal.returns-in-Some-Some
returns-in-Some-Some c = two_paths c.args.one c.args.other c.in-Some-Some.path c.in-Some-Some.another c.in-Some-Some.is-0 c.in-Some-Some.is-1 c.differ.result c.differ.ensures
