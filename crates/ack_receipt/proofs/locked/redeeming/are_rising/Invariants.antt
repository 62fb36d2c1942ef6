use Rattle.std.proofs.Common.{take}
use Rattle.ack_receipt.specs.Redeeming.{AreApart, AreBefore}
use Rattle.ack_receipt.proofs.locked.redeeming.are_rising.Given as goal

abbrev pub invariant-loop-pending : goal.invariant-loop-pending
invariant-loop-pending g l = record {
  apart : AreApart (take l.pending-index l.pendings);
  before : AreBefore l.next (take l.pending-index l.pendings);
}
