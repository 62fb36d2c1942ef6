use Rattle.std.proofs.Common.{◌≡◌, ◌+◌, ◌≤◌, ◌++◌, map, vec_len, vec_capacity}
use Rattle.std.specs.Vec.Iter.{into_iter_items, into_iter_len}
use Rattle.ack_receipt.specs.Deliveries.{part_of}
use Rattle.ack_receipt.proofs.delivery.spend.Given as goal

abbrev pub invariant-loop-receipt : goal.invariant-loop-receipt
invariant-loop-receipt g l = record {
  parts : l.parts.items ++ map part_of (into_iter_items l.rest) ≡ l.fn.parts.items ++ map part_of l.fn.receipts.items;
  room : vec_len l.parts + into_iter_len l.rest ≤ vec_capacity l.parts;
}

abbrev pub decreases-loop-receipt : goal.decreases-loop-receipt
decreases-loop-receipt g l = into_iter_len l.rest
