use Rattle.std.proofs.Common.{◌≡◌, map}
use Rattle.std.specs.Prelude.{take}
use Rattle.tcp_courier.specs.Carrying.{endpoint_of}
use Rattle.tcp_courier.proofs.courier.endpoints_of.Given as goal

-- the endpoints so far are those of the servers so far
abbrev pub invariant-loop-server : goal.invariant-loop-server
invariant-loop-server g l = l.endpoints.items ≡ map endpoint_of (take l.server-index l.servers)
