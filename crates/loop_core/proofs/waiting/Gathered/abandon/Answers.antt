use Rattle.std.proofs.Common.{◌∙◌, ap}
use Rattle.loop_core.specs.Waits.{Gathers, left_of}
use Rattle.loop_core.proofs.waiting.Gathered.abandon.Goals as goal

pub returns : goal.returns
returns g c = c.abandoned.ensures ∙ ap (λ (s : Gathers). left_of s.awaited.number s.receipts) c.self.view_is
