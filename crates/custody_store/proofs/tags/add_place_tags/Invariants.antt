use Rattle.std.proofs.Common.{take}
use Rattle.step_lines.specs.Texts.{texts_of}
use Rattle.custody_store.specs.Contents.{buffer_of}
use Rattle.custody_store.specs.Tags.{Covers, OfOne, HoldsUnder}
use Rattle.custody_store.proofs.tags.add_place_tags.Given as goal

abbrev pub invariant-loop-place : goal.invariant-loop-place
invariant-loop-place g l = Covers (OfOne (λ place t. OfOne (λ buffer u. HoldsUnder (buffer_of buffer) u) place.buffers.items t) (take l.place-index l.places)) (texts_of l.fn.tags.items) (texts_of l.tags.items)
