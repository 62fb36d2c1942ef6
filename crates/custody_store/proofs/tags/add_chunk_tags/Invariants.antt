use Rattle.std.proofs.Common.{take}
use Rattle.step_lines.specs.Texts.{texts_of}
use Rattle.custody_store.specs.Tags.{Covers, OfOne, IsTagOfSlot}
use Rattle.custody_store.proofs.tags.add_chunk_tags.Given as goal

abbrev pub invariant-loop-slot : goal.invariant-loop-slot
invariant-loop-slot g l = Covers (OfOne IsTagOfSlot (take l.slot-index l.chunks)) (texts_of l.fn.tags.items) (texts_of l.tags.items)
