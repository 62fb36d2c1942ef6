use Rattle.std.proofs.Common.{◌∙◌, length, refl}
use Rattle.std.proofs.lemmas.Option.{slice_get_read, slice_get_past}
use Rattle.loss_rules.proofs.site.scope_count.Goals as goal

pub returns-in-Some : goal.returns-in-Some
returns-in-Some g c =
    let relays = c.args.net.now.relays in
    let at = rw c.relays.ensures at c.in-Some.ensures.lookup in
    rw (slice_get_read relays (length relays) c.args.place c.in-Some.node.now refl at.3.0 at.1) (c.len.ensures ∙ c.in-Some.node.now.relay.scopes.ok.0)

pub returns-in-None : goal.returns-in-None
returns-in-None g c =
    let at = rw c.relays.ensures at c.in-None.ensures.lookup in
    rw (slice_get_past c.args.net.now.relays c.args.place at.3) refl
