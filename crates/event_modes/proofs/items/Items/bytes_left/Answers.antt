use Rattle.std.proofs.Common.{length, ap, ◌∙◌}
use Rattle.std.specs.List.{concat}
use Rattle.event_modes.proofs.items.Items.bytes_left.Goals as goal

pub returns : goal.returns
returns c = ap length c.self.invariant.whole ∙ ap (λ xs. length (concat xs)) c.self.view_is
