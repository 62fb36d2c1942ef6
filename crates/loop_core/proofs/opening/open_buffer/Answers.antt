use Rattle.std.proofs.Common.{List, ℕ, sym, subst}
use Rattle.disk_files.specs.Disk.{reads}
use Rattle.disk_files.specs.Moments.{now}
use Rattle.journal_files.specs.Folders.{Opens}
use Rattle.loop_core.proofs.opening.open_buffer.Goals as goal

pub returns-clause-chunks : goal.returns-clause-chunks
returns-clause-chunks g c honest =
    let start = c.in-Ok.ensures.set.start in
    let was = subst (λ d. g.D.Dir.is_honest d) start honest in
    subst (λ d. Opens c.in-Ok.buffer.journal.path (reads (now (g.D.Dir.history d))) c.in-Ok.buffer.chunks) (sym start)
    (subst (λ (path : List ℕ). Opens path (reads (now (g.D.Dir.history c.in_ok-dir.field-0.dir))) c.in-Ok.buffer.chunks) (sym c.in-Ok.ensures.fresh.path_is) (c.in-Ok.ensures.opens was).means)
