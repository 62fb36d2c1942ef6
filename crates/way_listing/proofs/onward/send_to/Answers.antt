use Rattle.std.proofs.Common.{◌≡◌, arith}
use Rattle.std.proofs.lemmas.List.{take_all}
use Rattle.relay_net.proofs.Pairing.{taken_more}
use Rattle.relay_net.specs.Network.{address_of_server}
use Rattle.way_listing.specs.Sendings.{sending}
use Rattle.way_listing.proofs.Adding.{adds_none, adds_more}
use Rattle.way_listing.proofs.onward.send_to.Goals as goal

pub loop-server-init : goal.loop-server-init
loop-server-init g c = adds_none (λ server next. sending (address_of_server server) c.args.tag.now ≡ next) c.args.found.now.items

pub loop-server-preserved : goal.loop-server-preserved
loop-server-preserved g c =
    let more = taken_more c.args.servers.now c.loop-server.server-index c.server-item.result (omega arith) c.server-item.is in
    rw more (adds_more (λ server next. sending (address_of_server server) c.args.tag.now ≡ next) _ c.server-item.result _ _ _ c.loop-server.invariant (rw c.as_bytes.ensures.value at c.in_ok-add.ensures))

pub returns : goal.returns
returns g c = rw (take_all c.loop-server.server-index c.args.servers.now (omega arith)) at c.loop-server.invariant
