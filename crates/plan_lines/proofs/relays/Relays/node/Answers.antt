use Rattle.std.proofs.Common.{slice_get, sym, ap, ◌∙◌}
use Rattle.std.specs.Option.{option_and_then}
use Rattle.relay_net.proofs.Gets.{got}
use Rattle.plan_lines.proofs.Numbering.{node_there}
use Rattle.plan_lines.proofs.relays.Relays.node.Goals as goal

pub returns-in-None : goal.returns-in-None
returns-in-None g c = ap (option_and_then (slice_get c.args.self.now)) (sym c.in-None.is ∙ c.place.ensures) ∙ sym (node_there c.args.self.now c.args.number)

pub returns-in-Some : goal.returns-in-Some
returns-in-Some g c = got c.args.self.now c.deref.result.now c.in-Some.place c.get.result (c.deref.ensures.value ∙ c.self.view_is) c.get.ensures.lookup ∙ ap (option_and_then (slice_get c.args.self.now)) (sym c.in-Some.is ∙ c.place.ensures) ∙ sym (node_there c.args.self.now c.args.number)
