use Rattle.std.proofs.Common.{◌∙◌, length, refl, sym}
use Rattle.std.proofs.lemmas.Option.{slice_get_read, slice_get_past}
use Rattle.relay_sockets.proofs.socket_network.SocketNetworkNetwork.port.Goals as goal
use Rattle.relay_sockets.proofs.socket_network.SocketNetworkNetwork.port.Goals.{in_default-via-in-Some+else-port-ne0, in_default-via-in_default}

pub returns-in-Some : goal.returns-in-Some
returns-in-Some g c =
    let bound = c.args.self.now.bound.items in
    let at = rw c.deref.ensures.value at c.in-Some.ensures.lookup in
    rw (slice_get_read bound (length bound) c.args.listener.now.number c.in-Some.endpoint.now refl at.3.0 at.1) (record { bound = λ _. c.port-in-Some.ensures })

pub returns-in_default : goal.returns-in_default
returns-in_default g c =
    let bound = c.args.self.now.bound.items in
    elim c.in_default.branch [
      | in_default-via-in-Some+else-port-ne0 w ↦ (let at = rw c.deref.ensures.value at w.in-Some.ensures.lookup in
          rw (slice_get_read bound (length bound) c.args.listener.now.number w.in-Some.endpoint.now refl at.3.0 at.1) (record { bound = λ other. absurd (other (sym w.port.ensures ∙ w.if-port-ne0.false)) }))
      | in_default-via-in_default w ↦ (let at = rw c.deref.ensures.value at w.in_default.ensures.lookup in
          rw (slice_get_past bound c.args.listener.now.number at.3) (record { bound = tt }))
    ]
