use Rattle.std.proofs.Common.{◌≡◌}
use Rattle.loop_core.proofs.waiting.Gathered.ask.Given as goal

abbrev pub invariant-receipts : goal.invariant-receipts
invariant-receipts g l = (l.gathered.awaited ≡ l.fn.self.awaited) × (l.lanes ≡ l.initial.lanes)
