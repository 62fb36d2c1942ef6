use Rattle.std.proofs.Common.{◌<◌, length, Some, slice_get, refl, sym, ◌∙◌, ap, arith}
use Rattle.std.proofs.lemmas.Option.{slice_get_read}
use Rattle.disk_files.proofs.real.first_free.Goals as goal

pub returns-in-None : goal.returns-in-None
returns-in-None g c =
    let items = c.deref-place-items.result.now in
    let at = c.loop-at.at in
    let here : at < length items = omega (arith, c.loop-at-test.true) in
    ap (λ xs. slice_get xs at) (sym c.deref-place-items.ensures.value) ∙ slice_get_read items (length items) at c.place-item.result refl here c.place-item.is ∙ ap Some c.in-None.is
