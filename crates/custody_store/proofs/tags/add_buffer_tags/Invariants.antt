use Rattle.std.proofs.Common.{take}
use Rattle.step_lines.specs.Texts.{texts_of}
use Rattle.custody_store.specs.Contents.{buffer_of}
use Rattle.custody_store.specs.Tags.{Covers, OfOne, HoldsUnder}
use Rattle.custody_store.proofs.tags.add_buffer_tags.Given as goal

abbrev pub invariant-loop-buffer : goal.invariant-loop-buffer
invariant-loop-buffer g l = Covers (OfOne (λ buffer t. HoldsUnder (buffer_of buffer) t) (take l.buffer-index l.buffers)) (texts_of l.fn.tags.items) (texts_of l.tags.items)
