use Rattle.std.proofs.Common.{length, ◌↔◌}
use Rattle.ack_receipt.specs.Redeeming.{AreApart}
use Rattle.ack_receipt.proofs.locked.redeeming.are_each_once.Given as goal

abbrev pub invariant-loop-pending : goal.invariant-loop-pending
invariant-loop-pending g l = record {
  apart : AreApart l.rest ↔ AreApart l.pendings;
}

abbrev pub decreases-loop-pending : goal.decreases-loop-pending
decreases-loop-pending g l = length l.rest
