use Rattle.std.proofs.Common.{arith}
use Rattle.std.proofs.lemmas.List.{take_all}
use Rattle.step_lines.proofs.Places.{take_next}
use Rattle.step_lines.specs.Texts.{texts_of}
use Rattle.custody_store.specs.Contents.{buffer_of}
use Rattle.custody_store.specs.Tags.{HoldsUnder}
use Rattle.custody_store.proofs.Covering.{covers_none, covers_more}
use Rattle.custody_store.proofs.tags.add_buffer_tags.Goals as goal

pub loop-buffer-init : goal.loop-buffer-init
loop-buffer-init g c = covers_none (λ buffer t. HoldsUnder (buffer_of buffer) t) (texts_of c.args.tags.now.items)

pub loop-buffer-preserved : goal.loop-buffer-preserved
loop-buffer-preserved g c =
    let more = take_next c.args.buffers.now c.loop-buffer.buffer-index c.buffer-item.result (omega arith) c.buffer-item.is in
    rw more (covers_more (λ buffer t. HoldsUnder (buffer_of buffer) t) _ c.buffer-item.result _ _ _ c.loop-buffer.invariant (c.in_ok-add_tags.ensures))

pub returns : goal.returns
returns g c = rw (take_all c.loop-buffer.buffer-index c.args.buffers.now (omega arith)) at c.loop-buffer.invariant
