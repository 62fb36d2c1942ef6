use Rattle.std.proofs.Common.{refl}
use Rattle.sink_series.specs.Faults.{fault_of}
use Rattle.sink_series.proofs.Caused.{told, no_value, refused_cause, refused_never}
use Rattle.sink_series.proofs.files.next_number.Goals as goal

pub returns-in_err-found-clause-next : goal.returns-in_err-found-clause-next
returns-in_err-found-clause-next g c = λ honest. no_value (fault_of c.in_err-found.field-0.0) c.from_residual.result _ (told (fault_of c.in_err-found.field-0.0) c.from_residual.result c.from_residual.ensures.1)

pub returns-in_err-found-clause-range : goal.returns-in_err-found-clause-range
returns-in_err-found-clause-range g c = no_value (fault_of c.in_err-found.field-0.0) c.from_residual.result _ (told (fault_of c.in_err-found.field-0.0) c.from_residual.result c.from_residual.ensures.1)

pub returns-in_err-found-clause-cause : goal.returns-in_err-found-clause-cause
returns-in_err-found-clause-cause g c = refused_cause _ _ _ _ c.in_err-found.field-0.0 c.from_residual.result c.in_err-found.ensures.device.cause refl refl (told (fault_of c.in_err-found.field-0.0) c.from_residual.result c.from_residual.ensures.1)

pub returns-in_err-found-clause-never_failed : goal.returns-in_err-found-clause-never_failed
returns-in_err-found-clause-never_failed g c = refused_never c.in_err-found.field-0.0 c.from_residual.result (told (fault_of c.in_err-found.field-0.0) c.from_residual.result c.from_residual.ensures.1)
