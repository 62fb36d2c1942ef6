use Rattle.std.proofs.Common.{arith}
use Rattle.std.proofs.lemmas.List.{take_all}
use Rattle.step_lines.proofs.Places.{take_next}
use Rattle.step_lines.specs.Texts.{texts_of}
use Rattle.custody_store.specs.Contents.{buffer_of}
use Rattle.custody_store.specs.Tags.{OfOne, HoldsUnder}
use Rattle.custody_store.proofs.Covering.{covers_none, covers_more}
use Rattle.custody_store.proofs.tags.add_place_tags.Goals as goal

pub loop-place-init : goal.loop-place-init
loop-place-init g c = covers_none (λ place t. OfOne (λ buffer u. HoldsUnder (buffer_of buffer) u) place.buffers.items t) (texts_of c.args.tags.now.items)

pub loop-place-preserved : goal.loop-place-preserved
loop-place-preserved g c =
    let more = take_next c.args.places.now c.loop-place.place-index c.place-item.result (omega arith) c.place-item.is in
    rw more (covers_more (λ place t. OfOne (λ buffer u. HoldsUnder (buffer_of buffer) u) place.buffers.items t) _ c.place-item.result _ _ _ c.loop-place.invariant ((rw c.as_slice.ensures.value at c.in_ok-add_buffer_tags.ensures)))

pub returns : goal.returns
returns g c = rw (take_all c.loop-place.place-index c.args.places.now (omega arith)) at c.loop-place.invariant
