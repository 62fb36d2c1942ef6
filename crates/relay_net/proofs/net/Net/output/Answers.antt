use Rattle.std.proofs.Common.{length, refl, sym, ap, ◌∙◌}
use Rattle.std.specs.Option.{option_copied}
use Rattle.std.proofs.lemmas.Option.{slice_get_read, slice_get_past}
use Rattle.relay_net.proofs.Gets.{got}
use Rattle.relay_net.proofs.Pairing.{no_output}
use Rattle.relay_net.proofs.net.Net.output.Goals as goal

pub returns-in-None : goal.returns-in-None
returns-in-None g c = rw (← c.self.view_is)
    (sym (no_output c.self.inside.lookups.items c.self.inside.relays.items c.self.inside.clients.items c.self.invariant.1 c.args.place c.args.buffer (sym (got _ _ c.args.place _ c.deref-2.ensures.value c.get-2.ensures.lookup) ∙ ap option_copied c.in-None.is)))

pub returns-in_default : goal.returns-in_default
returns-in_default g c =
    let at = rw c.deref.ensures.value at c.in_default.ensures.lookup in
    rw (← c.self.view_is, slice_get_past c.self.inside.relays.items c.args.place at.3) refl

pub returns-in-Some-get : goal.returns-in-Some-get
returns-in-Some-get g c =
    let nodes = c.self.inside.relays.items in
    let lookups = c.self.inside.lookups.items in
    let at = rw c.deref.ensures.value at c.in-Some.ensures.lookup in
    let node_is = slice_get_read nodes (length nodes) c.args.place c.in-Some.node.now refl at.3.0 at.1 in
    let there = rw c.deref-2.ensures.value at c.in-Some-get.ensures.lookup in
    let lookup_is = slice_get_read lookups (length lookups) c.args.place c.in-Some-get.lookup.now refl there.3.0 there.1 in
    rw (← c.self.view_is, node_is) (c.output.ensures ∙ c.self.invariant.1.outputs c.args.place c.in-Some-get.lookup.now c.in-Some.node.now lookup_is node_is c.args.buffer)
