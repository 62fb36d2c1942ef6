use Rattle.std.proofs.Common.{◌<◌, length, Some, slice_get, refl, sym, ◌∙◌, ap, arith}
use Rattle.std.proofs.lemmas.Option.{slice_get_read}
use Rattle.disk_files.specs.Real.{open_name}
use Rattle.disk_files.proofs.Table.{same_name}
use Rattle.disk_files.proofs.real.place_of.Goals as goal

pub returns-in-loop-at : goal.returns-in-loop-at
returns-in-loop-at g c =
    let items = c.deref-place-items.result.now in
    let at = c.loop-at.at in
    let here : at < length items = omega (arith, c.loop-at-test.true) in
    let got = ap (λ xs. slice_get xs at) (sym c.deref-place-items.ensures.value) ∙ slice_get_read items (length items) at c.place-item.result refl here c.place-item.is in
    let named = same_name c.as_bytes.result.now c.args.name.now (sym c.eq.ensures ∙ c.if-eq.true) in
    ap open_name got ∙ ap (λ o. open_name (Some o)) c.in-Some.is ∙ ap Some (sym c.as_bytes.ensures ∙ named)
