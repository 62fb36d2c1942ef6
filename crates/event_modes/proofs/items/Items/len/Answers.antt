use Rattle.std.proofs.Common.{length, sym, ap, ◌∙◌}
use Rattle.event_modes.proofs.Counted.{length-items}
use Rattle.event_modes.proofs.items.Items.len.Goals as goal

pub returns : goal.returns
returns c = sym (length-items c.self.inside.count c.self.inside.bytes.now) ∙ ap length c.self.view_is
