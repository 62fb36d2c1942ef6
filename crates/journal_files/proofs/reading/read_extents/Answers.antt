use Rattle.std.proofs.Common.{refl}
use Rattle.journal_files.specs.Faults.{piece_error}
use Rattle.journal_files.specs.declared.error.JournalError.TheVariants as refusal
use Rattle.journal_files.proofs.Reasons.{answered, reason_ok, reason_copy, was_short, copy_numbered}
use Rattle.journal_files.proofs.Wanting.{reason_memory, not_err, err_no_value, err_same, ok_no_err, stood, memory_undamaged, memory_numbered}
use Rattle.journal_files.proofs.reading.read_extents.Goals as goal

pub returns-in_err-bytes-clause-honest : goal.returns-in_err-bytes-clause-honest
returns-in_err-bytes-clause-honest g c = λ h. h

pub returns-in_err-bytes-clause-time : goal.returns-in_err-bytes-clause-time
returns-in_err-bytes-clause-time g c = λ h. stood (g.D.Dir.history c.args.dir.now)

pub returns-in_err-bytes-clause-same : goal.returns-in_err-bytes-clause-same
returns-in_err-bytes-clause-same g c = λ h name. refl

pub returns-in_err-bytes-clause-opened : goal.returns-in_err-bytes-clause-opened
returns-in_err-bytes-clause-opened g c = λ other. refl

pub returns-in_err-bytes-clause-bytes : goal.returns-in_err-bytes-clause-bytes
returns-in_err-bytes-clause-bytes g c = λ h name seen named there small within. err_no_value refusal.Memory c.from_residual.result _ c.from_residual.ensures.1

pub returns-in_err-bytes-clause-whole : goal.returns-in_err-bytes-clause-whole
returns-in_err-bytes-clause-whole g c = λ h name seen named there small within is. not_err refusal.Memory refusal.Damaged c.from_residual.result (answered refusal.Memory c.from_residual.result c.from_residual.ensures.1) memory_undamaged is

pub returns-in_err-bytes-clause-not_last : goal.returns-in_err-bytes-clause-not_last
returns-in_err-bytes-clause-not_last g c = λ is. not_err refusal.Memory refusal.LastGeneration c.from_residual.result (answered refusal.Memory c.from_residual.result c.from_residual.ensures.1) memory_numbered is

pub returns-in_err-bytes-clause-cause : goal.returns-in_err-bytes-clause-cause
returns-in_err-bytes-clause-cause g c = reason_memory _ _ c.from_residual.result refl (answered refusal.Memory c.from_residual.result c.from_residual.ensures.1)

pub returns-in_err-window-clause-honest : goal.returns-in_err-window-clause-honest
returns-in_err-window-clause-honest g c = λ h. h

pub returns-in_err-window-clause-time : goal.returns-in_err-window-clause-time
returns-in_err-window-clause-time g c = λ h. stood (g.D.Dir.history c.args.dir.now)

pub returns-in_err-window-clause-same : goal.returns-in_err-window-clause-same
returns-in_err-window-clause-same g c = λ h name. refl

pub returns-in_err-window-clause-opened : goal.returns-in_err-window-clause-opened
returns-in_err-window-clause-opened g c = λ other. refl

pub returns-in_err-window-clause-bytes : goal.returns-in_err-window-clause-bytes
returns-in_err-window-clause-bytes g c = λ h name seen named there small within. err_no_value refusal.Memory c.from_residual-in_err-window.result _ c.from_residual-in_err-window.ensures.1

pub returns-in_err-window-clause-whole : goal.returns-in_err-window-clause-whole
returns-in_err-window-clause-whole g c = λ h name seen named there small within is. not_err refusal.Memory refusal.Damaged c.from_residual-in_err-window.result (answered refusal.Memory c.from_residual-in_err-window.result c.from_residual-in_err-window.ensures.1) memory_undamaged is

pub returns-in_err-window-clause-not_last : goal.returns-in_err-window-clause-not_last
returns-in_err-window-clause-not_last g c = λ is. not_err refusal.Memory refusal.LastGeneration c.from_residual-in_err-window.result (answered refusal.Memory c.from_residual-in_err-window.result c.from_residual-in_err-window.ensures.1) memory_numbered is

pub returns-in_err-window-clause-cause : goal.returns-in_err-window-clause-cause
returns-in_err-window-clause-cause g c = reason_memory _ _ c.from_residual-in_err-window.result refl (answered refusal.Memory c.from_residual-in_err-window.result c.from_residual-in_err-window.ensures.1)

pub returns-in_err-read_places-clause-honest : goal.returns-in_err-read_places-clause-honest
returns-in_err-read_places-clause-honest g c = c.in_err-read_places.ensures.reads.honest

pub returns-in_err-read_places-clause-time : goal.returns-in_err-read_places-clause-time
returns-in_err-read_places-clause-time g c = c.in_err-read_places.ensures.reads.time

pub returns-in_err-read_places-clause-same : goal.returns-in_err-read_places-clause-same
returns-in_err-read_places-clause-same g c = c.in_err-read_places.ensures.reads.same

pub returns-in_err-read_places-clause-opened : goal.returns-in_err-read_places-clause-opened
returns-in_err-read_places-clause-opened g c = c.in_err-read_places.ensures.reads.stays_open

pub returns-in_err-read_places-clause-bytes : goal.returns-in_err-read_places-clause-bytes
returns-in_err-read_places-clause-bytes g c = λ h name seen named there small within. err_no_value (piece_error c.in_err-read_places.field-0.0) c.from_residual-in_err-read_places.result _ c.from_residual-in_err-read_places.ensures.1

pub returns-in_err-read_places-clause-whole : goal.returns-in_err-read_places-clause-whole
returns-in_err-read_places-clause-whole g c = λ h name seen named there small within is. c.in_err-read_places.ensures.reads.whole h name seen named there (small, within) (was_short c.in_err-read_places.field-0.0 (err_same (piece_error c.in_err-read_places.field-0.0) refusal.Damaged c.from_residual-in_err-read_places.result (answered (piece_error c.in_err-read_places.field-0.0) c.from_residual-in_err-read_places.result c.from_residual-in_err-read_places.ensures.1) is))

pub returns-in_err-read_places-clause-not_last : goal.returns-in_err-read_places-clause-not_last
returns-in_err-read_places-clause-not_last g c = λ is. copy_numbered c.in_err-read_places.field-0.0 (err_same (piece_error c.in_err-read_places.field-0.0) refusal.LastGeneration c.from_residual-in_err-read_places.result (answered (piece_error c.in_err-read_places.field-0.0) c.from_residual-in_err-read_places.result c.from_residual-in_err-read_places.ensures.1) is)

pub returns-in_err-read_places-clause-cause : goal.returns-in_err-read_places-clause-cause
returns-in_err-read_places-clause-cause g c = reason_copy _ _ _ c.in_err-read_places.field-0.0 c.from_residual-in_err-read_places.result refl c.in_err-read_places.ensures.reads.cause (answered (piece_error c.in_err-read_places.field-0.0) c.from_residual-in_err-read_places.result c.from_residual-in_err-read_places.ensures.1)

pub returns-clause-honest : goal.returns-clause-honest
returns-clause-honest g c = c.in_ok-read_places.ensures.reads.honest

pub returns-clause-time : goal.returns-clause-time
returns-clause-time g c = c.in_ok-read_places.ensures.reads.time

pub returns-clause-same : goal.returns-clause-same
returns-clause-same g c = c.in_ok-read_places.ensures.reads.same

pub returns-clause-opened : goal.returns-clause-opened
returns-clause-opened g c = c.in_ok-read_places.ensures.reads.stays_open

pub returns-clause-whole : goal.returns-clause-whole
returns-clause-whole g c = λ h name seen named there small within is. ok_no_err _ _ is

pub returns-clause-not_last : goal.returns-clause-not_last
returns-clause-not_last g c = λ is. ok_no_err _ _ is

pub returns-clause-cause : goal.returns-clause-cause
returns-clause-cause g c = reason_ok _ _ _ refusal.Fault c.in_ok-read_places.ensures.reads.cause.passed
