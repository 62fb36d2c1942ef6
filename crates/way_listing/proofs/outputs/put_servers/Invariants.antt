use Rattle.std.proofs.Common.{◌≡◌, ◌++◌, take}
use Rattle.std.specs.List.{flat_map}
use Rattle.way_listing.specs.Outputs.{server_text}
use Rattle.way_listing.proofs.outputs.put_servers.Given as goal

abbrev pub invariant-loop-server : goal.invariant-loop-server
invariant-loop-server g l = l.line.items ≡ l.fn.line.items ++ flat_map server_text (take l.server-index l.servers)
