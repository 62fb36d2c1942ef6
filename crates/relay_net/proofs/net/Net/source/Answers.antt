use Rattle.std.proofs.Common.{Some, None, sym, ap, ◌∙◌}
use Rattle.std.specs.Option.{option_copied}
use Rattle.relay_net.proofs.Gets.{got}
use Rattle.relay_net.proofs.Entries.{no_place, no_node, at_node}
use Rattle.relay_net.proofs.net.Net.source.Goals as goal

pub returns-in_default : goal.returns-in_default
returns-in_default g c = rw (← c.self.view_is)
    (no_place c.self.inside.relays.items (record { host = c.args.host.now; port = c.args.port }) (sym c.in_default.is ∙ c.place.ensures ∙ c.self.invariant.2 (record { host = c.args.host.now; port = c.args.port })))

pub returns-in_default-get : goal.returns-in_default-get
returns-in_default-get g c = rw (← c.self.view_is)
    (no_node c.self.inside.relays.items (record { host = c.args.host.now; port = c.args.port }) c.in-Some.place (sym c.in-Some.is ∙ c.place.ensures ∙ c.self.invariant.2 (record { host = c.args.host.now; port = c.args.port }))
    (sym (got _ _ c.in-Some.place _ c.deref.ensures.value c.get.ensures.lookup) ∙ ap option_copied c.in_default-get.is))

pub returns-in-Some-source_of : goal.returns-in-Some-source_of
returns-in-Some-source_of g c = rw (← c.self.view_is)
    (at_node c.self.inside.relays.items (record { host = c.args.host.now; port = c.args.port }) c.in-Some.place c.in-Some-get.node.now (Some c.in-Some-source_of.source.now)
    (sym c.in-Some.is ∙ c.place.ensures ∙ c.self.invariant.2 (record { host = c.args.host.now; port = c.args.port }))
    (sym (got _ _ c.in-Some.place _ c.deref.ensures.value c.get.ensures.lookup) ∙ ap option_copied c.in-Some-get.is)
    (sym (ap option_copied c.in-Some-source_of.is) ∙ c.source_of.ensures))

pub returns-in-None : goal.returns-in-None
returns-in-None g c = rw (← c.self.view_is)
    (at_node c.self.inside.relays.items (record { host = c.args.host.now; port = c.args.port }) c.in-Some.place c.in-Some-get.node.now None
    (sym c.in-Some.is ∙ c.place.ensures ∙ c.self.invariant.2 (record { host = c.args.host.now; port = c.args.port }))
    (sym (got _ _ c.in-Some.place _ c.deref.ensures.value c.get.ensures.lookup) ∙ ap option_copied c.in-Some-get.is)
    (sym (ap option_copied c.in-None.is) ∙ c.source_of.ensures))
