use Rattle.std.proofs.Common.{◌↔◌, IsTrue}
use Rattle.std.proofs.lemmas.Result.{IfOk-weaker}
use Rattle.relay_net.specs.Addresses.{Address}
use Rattle.relay_net.specs.Routed.{IsRoutedTag}
use Rattle.custody_store.specs.Contents.{event_of}
use Rattle.custody_steps.specs.Held.{HeldAs}
use Rattle.custody_steps.specs.WorldOf.{world_of, net_of}
use Rattle.custody_steps.proofs.world.World.is_found_at.Goals as goal

pub returns : goal.returns
returns g c =
    let to : Address = record { host = c.args.host.now; port = c.args.port } in
    let net = net_of c.args.self.now in
    let event = c.args.event.now in
    let tag = c.in-Some.tag.now in
    let held = rw c.as_slice.ensures.value at c.in-Some.ensures in
    IfOk-weaker c.is_routed_tag.result (λ yes. IsTrue yes ↔ IsRoutedTag net to event.tag.items tag) (λ yes. IsTrue yes → HeldAs net (world_of c.args.self.now) to (event_of event))
    (λ yes is t. (tag, is.0 t, held)) (rw c.as_slice-2.ensures.value at c.is_routed_tag.ensures)
