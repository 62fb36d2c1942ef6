use Rattle.std.proofs.Common.{◌≡◌, ◌<◌, slice_set, length, refl, sym, subst, ◌∙◌, ap, arith, suc, ◌+◌}
use Rattle.std.proofs.lemmas.Option.{slice_get_read}
use Rattle.disk_files.specs.Stopped.{stopped, StoppedTo}
use Rattle.disk_files.proofs.Stops.{stopped_more}
use Rattle.disk_files.proofs.memory_file.stop_each.Goals as goal

pub loop-file-preserved : goal.loop-file-preserved
loop-file-preserved g c =
    let items = c.loop-file.file-items in
    let i = c.loop-file.file-index in
    let here : i < length items = omega arith in
    let got = slice_get_read items (length items) i c.file-item.result refl here c.file-item.is in
    let same = sym c.file-item.is in
    let next = stopped_more c.args.least i c.deref_mut-file-items.result.now items c.file-item.result c.stop.new.self c.loop-file.invariant got
    (c.stop.ensures.name ∙ ap (λ e. e.name) same) (c.stop.ensures.state ∙ ap (λ e. stopped c.args.least e.state) same) c.stop.ensures.closed in
    let one : suc i ≡ i + 1 = omega arith in
    subst (λ n. StoppedTo c.args.least n c.deref_mut-file-items.result.now (slice_set items i c.stop.new.self)) one next
