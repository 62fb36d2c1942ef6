use Rattle.std.proofs.Common.{◌≡◌, ◌++◌, map, take}
use Rattle.std.specs.Prelude.{string_bytes}
use Rattle.relay_places.specs.Names.{server_name}
use Rattle.relay_places.proofs.names.put_servers.Given as goal

abbrev pub invariant-loop-server : goal.invariant-loop-server
invariant-loop-server g l = map string_bytes l.names.items ≡ map string_bytes l.fn.names.items ++ map server_name (take l.server-index l.servers)
