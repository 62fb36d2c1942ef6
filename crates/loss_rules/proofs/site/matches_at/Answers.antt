use Rattle.std.proofs.Common.{length, refl}
use Rattle.std.proofs.lemmas.Option.{slice_get_read, slice_get_past}
use Rattle.loss_rules.proofs.site.matches_at.Goals as goal

pub returns-in-Some-get : goal.returns-in-Some-get
returns-in-Some-get g c =
    let relays = c.args.net.now.relays in
    let scopes = c.in-Some.node.now.relay.scopes.items in
    let at = rw c.relays.ensures at c.in-Some.ensures.lookup in
    let there = rw c.deref.ensures.value at c.in-Some-get.ensures.lookup in
    rw (slice_get_read relays (length relays) c.args.place c.in-Some.node.now refl at.3.0 at.1, slice_get_read scopes (length scopes) c.args.scope c.in-Some-get.found.now refl there.3.0 there.1) c.deref-in-Some-get.ensures.value

pub returns-in-None : goal.returns-in-None
returns-in-None g c =
    let relays = c.args.net.now.relays in
    let at = rw c.relays.ensures at c.in-Some.ensures.lookup in
    let there = rw c.deref.ensures.value at c.in-None.ensures.lookup in
    rw (slice_get_read relays (length relays) c.args.place c.in-Some.node.now refl at.3.0 at.1, slice_get_past c.in-Some.node.now.relay.scopes.items c.args.scope there.3) refl

pub returns-in_default : goal.returns-in_default
returns-in_default g c =
    let at = rw c.relays.ensures at c.in_default.ensures.lookup in
    rw (slice_get_past c.args.net.now.relays c.args.place at.3) refl
