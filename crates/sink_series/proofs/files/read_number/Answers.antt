use Rattle.std.proofs.Common.{ℕ, ◌≡◌, List, Some, refl, ap, subst, ◌∙◌}
use Rattle.disk_files.specs.Disk.{reads, read_of}
use Rattle.disk_files.specs.Moments.{now}
use Rattle.sink_series.specs.Events.{Holds}
use Rattle.sink_series.proofs.Onward.{still_here, still_on}
use Rattle.sink_series.specs.Faults.{fault_of}
use Rattle.sink_series.specs.declared.fault.SeriesFault.TheVariants as series
use Rattle.sink_series.proofs.Caused.{told, no_value, refused_cause, refused_only, memory_cause, memory_only, ok_cause}
use Rattle.sink_series.proofs.files.read_number.Goals as goal

pub returns-clause-still : goal.returns-clause-still
returns-clause-still g c honest =
    let f = c.in_ok-file.ensures in
    let b = c.read_file-read.ensures in
    let a = c.close_other.ensures.alone in
    let on = f.device.honest honest in
    let read = still_on _ _ _ (still_on _ _ _ (still_here _) (f.device.time honest) (f.same honest)) (b.time on) (b.same on) in
    (a.honest (b.honest on), still_on _ _ _ read (a.time (b.honest on)) (a.same (b.honest on)))

pub returns-clause-content : goal.returns-clause-content
returns-clause-content g c honest bytes there =
    let f = c.in_ok-file.ensures in
    let b = c.in_ok-bytes.ensures in
    let on = f.device.honest honest in
    let name = c.deref.result.now in
    let before : reads (now (g.D.Dir.history c.args.dir.now)) name ≡ Some bytes =
    ap (λ (n : List ℕ). reads (now (g.D.Dir.history c.args.dir.now)) n) (c.deref.ensures.value ∙ c.in_ok-name.ensures) ∙ there in
    let found = b.bytes on name bytes f.opened (ap read_of (f.same honest name) ∙ before) in
    subst (λ (x : List ℕ). Holds x c.in_ok-read_events.field-0.items) (c.deref-2.ensures.value ∙ found) c.in_ok-read_events.ensures

pub returns-in_err-name-clause-content : goal.returns-in_err-name-clause-content
returns-in_err-name-clause-content g c honest bytes there = no_value series.Memory c.from_residual.result _ (told series.Memory c.from_residual.result c.from_residual.ensures.1)

pub returns-in_err-name-clause-cause : goal.returns-in_err-name-clause-cause
returns-in_err-name-clause-cause g c = memory_cause _ _ c.from_residual.result refl (told series.Memory c.from_residual.result c.from_residual.ensures.1)

pub returns-in_err-name-clause-only : goal.returns-in_err-name-clause-only
returns-in_err-name-clause-only g c = memory_only c.from_residual.result (told series.Memory c.from_residual.result c.from_residual.ensures.1)

pub returns-in_err-name-clause-still : goal.returns-in_err-name-clause-still
returns-in_err-name-clause-still g c honest = (honest, still_here _)

pub returns-in_err-file-clause-still : goal.returns-in_err-file-clause-still
returns-in_err-file-clause-still g c honest = (let f = c.in_err-file.ensures in (f.device.honest honest, still_on _ _ _ (still_here _) (f.device.time honest) (f.same honest)))

pub returns-in_err-file-clause-content : goal.returns-in_err-file-clause-content
returns-in_err-file-clause-content g c honest bytes there = no_value (fault_of c.in_err-file.field-0.0) c.from_residual-in_err-file.result _ (told (fault_of c.in_err-file.field-0.0) c.from_residual-in_err-file.result c.from_residual-in_err-file.ensures.1)

pub returns-in_err-file-clause-cause : goal.returns-in_err-file-clause-cause
returns-in_err-file-clause-cause g c = refused_cause _ _ _ _ c.in_err-file.field-0.0 c.from_residual-in_err-file.result c.in_err-file.ensures.device.cause refl refl (told (fault_of c.in_err-file.field-0.0) c.from_residual-in_err-file.result c.from_residual-in_err-file.ensures.1)

pub returns-in_err-file-clause-only : goal.returns-in_err-file-clause-only
returns-in_err-file-clause-only g c = refused_only c.in_err-file.field-0.0 c.from_residual-in_err-file.result (told (fault_of c.in_err-file.field-0.0) c.from_residual-in_err-file.result c.from_residual-in_err-file.ensures.1)

pub returns-in_err-file-clause-stays_open : goal.returns-in_err-file-clause-stays_open
returns-in_err-file-clause-stays_open g c = λ is. c.in_err-file.ensures.others c.args.own is

pub returns-in_err-bytes-clause-still : goal.returns-in_err-bytes-clause-still
returns-in_err-bytes-clause-still g c honest =
    let f = c.in_ok-file.ensures in
    let b = c.read_file-read.ensures in
    let a = c.close_other.ensures.alone in
    let on = f.device.honest honest in
    let read = still_on _ _ _ (still_on _ _ _ (still_here _) (f.device.time honest) (f.same honest)) (b.time on) (b.same on) in
    (a.honest (b.honest on), still_on _ _ _ read (a.time (b.honest on)) (a.same (b.honest on)))

pub returns-in_err-bytes-clause-content : goal.returns-in_err-bytes-clause-content
returns-in_err-bytes-clause-content g c honest bytes there = no_value (fault_of c.in_err-bytes.field-0.0) c.from_residual-in_err-bytes.result _ (told (fault_of c.in_err-bytes.field-0.0) c.from_residual-in_err-bytes.result c.from_residual-in_err-bytes.ensures.1)

pub returns-in_err-bytes-clause-cause : goal.returns-in_err-bytes-clause-cause
returns-in_err-bytes-clause-cause g c = refused_cause _ _ _ _ c.in_err-bytes.field-0.0 c.from_residual-in_err-bytes.result c.in_err-bytes.ensures.cause c.in_ok-file.ensures.device.cause.passed c.close_other.ensures.alone.cause (told (fault_of c.in_err-bytes.field-0.0) c.from_residual-in_err-bytes.result c.from_residual-in_err-bytes.ensures.1)

pub returns-in_err-bytes-clause-only : goal.returns-in_err-bytes-clause-only
returns-in_err-bytes-clause-only g c = refused_only c.in_err-bytes.field-0.0 c.from_residual-in_err-bytes.result (told (fault_of c.in_err-bytes.field-0.0) c.from_residual-in_err-bytes.result c.from_residual-in_err-bytes.ensures.1)

pub returns-in_err-bytes-clause-stays_open : goal.returns-in_err-bytes-clause-stays_open
returns-in_err-bytes-clause-stays_open g c = λ is. (let o = c.in_ok-file.ensures.others c.args.own is in let e = c.read_file-read.ensures.opened c.args.own in c.close_other.ensures.stays_open ∙ (e ∙ o))

pub returns-in_err-read_events-clause-still : goal.returns-in_err-read_events-clause-still
returns-in_err-read_events-clause-still g c honest =
    let f = c.in_ok-file.ensures in
    let b = c.read_file-read.ensures in
    let a = c.close_other.ensures.alone in
    let on = f.device.honest honest in
    let read = still_on _ _ _ (still_on _ _ _ (still_here _) (f.device.time honest) (f.same honest)) (b.time on) (b.same on) in
    (a.honest (b.honest on), still_on _ _ _ read (a.time (b.honest on)) (a.same (b.honest on)))

pub returns-in_err-read_events-clause-content : goal.returns-in_err-read_events-clause-content
returns-in_err-read_events-clause-content g c honest bytes there = no_value series.Memory c.from_residual-in_err-read_events.result _ (told series.Memory c.from_residual-in_err-read_events.result c.from_residual-in_err-read_events.ensures.1)

pub returns-in_err-read_events-clause-cause : goal.returns-in_err-read_events-clause-cause
returns-in_err-read_events-clause-cause g c = memory_cause _ _ c.from_residual-in_err-read_events.result (c.close_other.ensures.alone.cause ∙ (c.in_ok-bytes.ensures.cause.passed ∙ c.in_ok-file.ensures.device.cause.passed)) (told series.Memory c.from_residual-in_err-read_events.result c.from_residual-in_err-read_events.ensures.1)

pub returns-in_err-read_events-clause-only : goal.returns-in_err-read_events-clause-only
returns-in_err-read_events-clause-only g c = memory_only c.from_residual-in_err-read_events.result (told series.Memory c.from_residual-in_err-read_events.result c.from_residual-in_err-read_events.ensures.1)

pub returns-in_err-read_events-clause-stays_open : goal.returns-in_err-read_events-clause-stays_open
returns-in_err-read_events-clause-stays_open g c = λ is. (let o = c.in_ok-file.ensures.others c.args.own is in let e = c.read_file-read.ensures.opened c.args.own in c.close_other.ensures.stays_open ∙ (e ∙ o))

pub returns-clause-cause : goal.returns-clause-cause
returns-clause-cause g c = ok_cause _ _ c.in_ok-read_events.field-0 (c.close_other.ensures.alone.cause ∙ (c.in_ok-bytes.ensures.cause.passed ∙ c.in_ok-file.ensures.device.cause.passed))

pub returns-clause-stays_open : goal.returns-clause-stays_open
returns-clause-stays_open g c = λ is. (let o = c.in_ok-file.ensures.others c.args.own is in let e = c.read_file-read.ensures.opened c.args.own in c.close_other.ensures.stays_open ∙ (e ∙ o))
