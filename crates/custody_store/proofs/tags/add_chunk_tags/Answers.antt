use Rattle.std.proofs.Common.{arith}
use Rattle.std.proofs.lemmas.List.{take_all}
use Rattle.step_lines.proofs.Places.{take_next}
use Rattle.step_lines.specs.Texts.{texts_of}
use Rattle.custody_store.specs.Tags.{IsTagOfSlot}
use Rattle.custody_store.proofs.Covering.{covers_none, covers_more}
use Rattle.custody_store.proofs.tags.add_chunk_tags.Goals as goal

pub loop-slot-init : goal.loop-slot-init
loop-slot-init g c = covers_none IsTagOfSlot (texts_of c.args.tags.now.items)

pub loop-slot-preserved : goal.loop-slot-preserved
loop-slot-preserved g c =
    let more = take_next c.args.chunks.now c.loop-slot.slot-index c.slot-item.result (omega arith) c.slot-item.is in
    rw more (covers_more IsTagOfSlot _ c.slot-item.result _ _ _ c.loop-slot.invariant (c.in_ok-add_slot_tag.ensures))

pub returns : goal.returns
returns g c = rw (take_all c.loop-slot.slot-index c.args.chunks.now (omega arith)) at c.loop-slot.invariant
