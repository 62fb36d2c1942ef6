use Rattle.std.proofs.Common.{length, sym, ap, ◌∙◌}
use Rattle.event_modes.proofs.Counted.{length-items}
use Rattle.event_modes.proofs.message.Entries.count.Goals as goal

pub returns : goal.returns
returns g c = sym (length-items c.self.inside.count c.self.inside.bytes.items) ∙ ap length c.self.view_is
