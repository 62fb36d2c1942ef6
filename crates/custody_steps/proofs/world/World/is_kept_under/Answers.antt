use Rattle.std.proofs.Common.{◌↔◌, IsTrue, refl}
use Rattle.std.proofs.lemmas.Result.{IfOk-weaker}
use Rattle.relay_net.specs.Addresses.{Address}
use Rattle.relay_net.specs.Routed.{IsRoutedTag}
use Rattle.custody_steps.specs.Held.{Held}
use Rattle.custody_steps.specs.WorldOf.{world_of, net_of}
use Rattle.custody_steps.proofs.world.World.is_kept_under.Goals as goal

pub returns-then-not-hold : goal.returns-then-not-hold
returns-then-not-hold g c = (λ e. absurd (cc), λ h. let t = (rw c.as_slice.ensures.value at c.if-not-hold.ensures).1 h.1 in absurd (cc))

pub returns : goal.returns
returns g c =
    let to : Address = record { host = c.args.host.now; port = c.args.port } in
    let net = net_of c.args.self.now in
    let w = world_of c.args.self.now in
    let tag = c.args.tag.now in
    let event = c.args.event.now in
    let held = (rw c.as_slice.ensures.value at c.if-not-hold.ensures).0 refl in
    IfOk-weaker c.is_routed_tag.result (λ yes. IsTrue yes ↔ IsRoutedTag (net_of c.args.self.now) to event.tag.items tag)
    (λ yes. IsTrue yes ↔ (IsRoutedTag (net_of c.args.self.now) to event.tag.items tag × Held (world_of c.args.self.now) (record { tag = tag; entry = event.entry.items })))
    (λ yes is. (λ t. (is.0 t, held), λ h. is.1 h.0)) (rw c.as_slice-2.ensures.value at c.is_routed_tag.ensures)
