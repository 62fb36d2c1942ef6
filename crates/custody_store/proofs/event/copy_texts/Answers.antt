use Rattle.std.proofs.Common.{◌++◌, [], ◌∷◌, List, ℕ, ap, Vec}
use Rattle.std.proofs.lemmas.List.{map-append, take_all, map_more}
use Rattle.custody_store.proofs.event.copy_texts.Goals as goal

pub loop-text-preserved : goal.loop-text-preserved
loop-text-preserved g c =
    let more = map_more (λ (text : Vec ℕ g.row.A.Denot). text.items) c.args.texts.now c.loop-text.text-index c.text-item.result c.loop-text-test.true in
    rw (c.in_ok-push.ensures.items, map-append, more, ← c.text-item.is, c.in_ok-copy.ensures.items, c.as_slice.ensures.value) (ap (λ (ts : List (List ℕ)). ts ++ c.text-item.result.items ∷ []) c.loop-text.invariant)

pub returns : goal.returns
returns g c = rw (take_all c.loop-text.text-index c.args.texts.now c.loop-text-test.false) at c.loop-text.invariant
