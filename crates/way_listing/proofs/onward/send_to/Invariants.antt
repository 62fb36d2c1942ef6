use Rattle.std.proofs.Common.{◌≡◌, take}
use Rattle.relay_net.specs.Network.{address_of_server}
use Rattle.way_listing.specs.Sendings.{Adds, Through, sending}
use Rattle.way_listing.proofs.onward.send_to.Given as goal

abbrev pub invariant-loop-server : goal.invariant-loop-server
invariant-loop-server g l = Adds (Through (λ server next. sending (address_of_server server) l.tag ≡ next) (take l.server-index l.servers)) l.fn.found.items l.found.items
