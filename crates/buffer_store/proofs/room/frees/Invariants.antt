use Rattle.std.proofs.Common.{◌≤◌, ◌↔◌}
use Rattle.buffer_store.specs.Room.{queued_in}
use Rattle.buffer_store.proofs.room.frees.Given as goal

abbrev pub invariant-loop-chunk : goal.invariant-loop-chunk
invariant-loop-chunk g l = record {
  turns : (goal.iterator-loop-chunk g).can_next l.chunk-iterator × (goal.iterator-loop-chunk g).is_finite l.chunk-iterator;
  same : (l.fn.bytes ≤ queued_in l.initial.chunk-iterator) ↔ (l.left ≤ queued_in l.chunk-iterator);
}
