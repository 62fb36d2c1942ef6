use Rattle.std.proofs.Common.{◌≡◌, ◌+◌, ◌≤◌, ◌++◌, length, map, vec_len, vec_capacity}
use Rattle.std.specs.Prelude.{All}
use Rattle.std.specs.Vec.Iter.{into_iter_items, into_iter_len}
use Rattle.ack_receipt.specs.Redeeming.{AreApart, AreBefore, IsRedeemable, numbers_from, origin_of, origin_of_pending, written_of}
use Rattle.ack_receipt.proofs.locked.redeeming.made.Given as goal

abbrev pub invariant-loop-pending : goal.invariant-loop-pending
invariant-loop-pending g l = record {
  made : map origin_of l.receipts.items ++ map origin_of_pending (into_iter_items l.rest) ≡ map origin_of_pending l.fn.pendings.items;
  lines : l.booked.lines ++ map written_of (into_iter_items l.rest) ≡ l.fn.booked.lines ++ map written_of l.fn.pendings.items;
  named : map (λ receipt. receipt.line) l.receipts.items ++ numbers_from (length l.booked.lines) (into_iter_items l.rest) ≡ numbers_from (length l.fn.booked.lines) l.fn.pendings.items;
  room : vec_len l.receipts + into_iter_len l.rest ≤ vec_capacity l.receipts;
  waits : All (IsRedeemable l.fn.leaf l.booked.waiting) (into_iter_items l.rest);
  apart : AreApart (into_iter_items l.rest);
  before : AreBefore l.booked.synced (into_iter_items l.rest);
  buffer : l.booked.buffer ≡ l.fn.booked.buffer;
  appends : l.booked.appends ≡ l.fn.booked.appends;
  synced : l.booked.synced ≡ l.fn.booked.synced;
}

abbrev pub decreases-loop-pending : goal.decreases-loop-pending
decreases-loop-pending g l = into_iter_len l.rest
