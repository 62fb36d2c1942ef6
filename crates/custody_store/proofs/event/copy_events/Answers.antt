use Rattle.std.proofs.Common.{◌++◌, [], ◌∷◌, List, ℕ, ap, Vec}
use Rattle.std.proofs.lemmas.List.{map-append, take_all, map_more}
use Rattle.custody_store.specs.Buffers.{Event}
use Rattle.custody_store.proofs.event.copy_events.Goals as goal

pub loop-text-preserved : goal.loop-text-preserved
loop-text-preserved g c =
    let more = map_more (λ (text : Vec ℕ g.row.A.Denot). text.items) c.args.texts.now c.loop-text.text-index c.text-item.result c.loop-text-test.true in
    rw (c.in_ok-push.ensures.items, map-append, more, map-append, ← c.text-item.is, c.in_ok-from_slice.ensures.items, c.in_ok-from_slice-2.ensures.items, c.as_slice.ensures.value) (ap (λ (es : List Event). es ++ record { tag = c.args.tag.now; entry = c.text-item.result.items } ∷ []) c.loop-text.invariant)

pub returns : goal.returns
returns g c = rw (take_all c.loop-text.text-index c.args.texts.now c.loop-text-test.false) at c.loop-text.invariant
