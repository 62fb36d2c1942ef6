use Rattle.std.proofs.Common.{◌≡◌, sym, arith}
use Rattle.std.proofs.lemmas.List.{take_all}
use Rattle.step_lines.proofs.Places.{take_next}
use Rattle.step_lines.specs.Texts.{texts_of}
use Rattle.custody_store.proofs.Covering.{covers_none, covers_more, covers_as}
use Rattle.custody_store.proofs.tags.add_event_tags.Goals as goal

pub loop-event-init : goal.loop-event-init
loop-event-init g c = covers_none (λ event t. event.tag.items ≡ t) (texts_of c.args.tags.now.items)

pub loop-event-preserved : goal.loop-event-preserved
loop-event-preserved g c =
    let more = take_next c.args.events.now c.loop-event.event-index c.event-item.result (omega arith) c.event-item.is in
    rw more (covers_more (λ event t. event.tag.items ≡ t) _ c.event-item.result _ _ _ c.loop-event.invariant (covers_as _ _ _ _ (λ t e. sym e) (rw c.as_slice.ensures.value at c.in_ok-add_tag.ensures)))

pub returns : goal.returns
returns g c = rw (take_all c.loop-event.event-index c.args.events.now (omega arith)) at c.loop-event.invariant
