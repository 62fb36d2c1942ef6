use Rattle.std.proofs.Common.{ℕ, List, Ok, Err, Some, None, refl, ap, subst, ◌∙◌}
use Rattle.disk_files.specs.Disk.{reads}
use Rattle.disk_files.specs.Moments.{now}
use Rattle.chunk_journal.specs.Meaning.{EndsUnsealed, IsDamaged}
use Rattle.journal_files.specs.Found.{IsMeant, IsSo}
use Rattle.journal_files.specs.Faults.{dir_error}
use Rattle.journal_files.specs.declared.error.JournalError.TheVariants as refusal
use Rattle.journal_files.proofs.AllRead.{so_of, meant_of}
use Rattle.file_pieces.proofs.ReadOn.{elapsed}
use Rattle.journal_files.proofs.Reasons.{answered, reason_ok, reason_dir, reason_err, dir_undamaged, dir_numbered}
use Rattle.journal_files.proofs.Renewing.{is_some_name}
use Rattle.journal_files.proofs.Wanting.{reason_memory, reason_quiet, no_ok, not_err, err_no_value, err_was, ok_no_err, some_no_none, stood, memory_undamaged, memory_numbered}
use Rattle.journal_files.proofs.Tags.{replayed_short, replayed_unclaimed}
use Rattle.journal_files.proofs.opening.read_generation.Goals as goal

pub returns-in-Some-clause-meant : goal.returns-in-Some-clause-meant
returns-in-Some-clause-meant g c = λ honest.
    let old = now (g.D.Dir.history c.args.dir.now) in
    let mid = now (g.D.Dir.history c.open.new.self) in
    let name = c.deref.ensures.value ∙ c.in_ok-name.ensures ∙ c.generations.ensures c.args.number in
    let there = c.in_ok-file.ensures.device.honest honest in
    let outlined = c.in-Some.outlined in
    subst (λ (n : List ℕ). IsMeant (reads old n) outlined.chunks outlined.places) name
    (meant_of old mid c.deref.result.now (c.in_ok-file.ensures.same honest) (c.in_ok-file.ensures.ok honest) c.in_ok-outline.outline outlined.chunks outlined.places outlined.used
    (λ bytes is. c.in_ok-outline.ensures.all there c.deref.result.now bytes c.in_ok-file.ensures.opened is)
    (λ bytes is. c.in_ok-outline.ensures.small there c.deref.result.now bytes c.in_ok-file.ensures.opened is)
    (λ seen after. rw c.in-Some.is at (c.in_ok-outlined.ensures.outlined seen after)))

pub returns-in-Some-clause-time : goal.returns-in-Some-clause-time
returns-in-Some-clause-time g c = λ honest.
    let there = c.in_ok-file.ensures.device.honest honest in
    elapsed (g.D.Dir.history c.args.dir.now) (g.D.Dir.history c.open.new.self) (g.D.Dir.history c.feed_file.new.dir) (c.in_ok-file.ensures.device.time honest) (c.in_ok-outline.ensures.time there) (c.in_ok-outline.ensures.same there)

pub returns-clause-time : goal.returns-clause-time
returns-clause-time g c = λ honest.
    let there = c.in_ok-file.ensures.device.honest honest in
    elapsed (g.D.Dir.history c.args.dir.now) (g.D.Dir.history c.open.new.self) (g.D.Dir.history c.feed_file.new.dir) (c.in_ok-file.ensures.device.time honest) (c.in_ok-outline.ensures.time there) (c.in_ok-outline.ensures.same there)

pub returns-in-Some-clause-tags : goal.returns-in-Some-clause-tags
returns-in-Some-clause-tags g c =
    let heard = c.in_ok-outline.ensures.heard in
    let means = rw c.in-Some.is at (c.in_ok-outlined.ensures.outlined heard.seen heard.after) in
    replayed_short heard.seen c.in-Some.outlined.chunks c.in-Some.outlined.used means.replayed

pub returns-in-Some-clause-unclaimed : goal.returns-in-Some-clause-unclaimed
returns-in-Some-clause-unclaimed g c =
    let heard = c.in_ok-outline.ensures.heard in
    let means = rw c.in-Some.is at (c.in_ok-outlined.ensures.outlined heard.seen heard.after) in
    replayed_unclaimed heard.seen c.in-Some.outlined.chunks c.in-Some.outlined.used means.replayed

pub returns-clause-unsealed : goal.returns-clause-unsealed
returns-clause-unsealed g c = λ honest _.
    let old = now (g.D.Dir.history c.args.dir.now) in
    let mid = now (g.D.Dir.history c.open.new.self) in
    let name = c.deref.ensures.value ∙ c.in_ok-name.ensures ∙ c.generations.ensures c.args.number in
    let there = c.in_ok-file.ensures.device.honest honest in
    subst (λ (n : List ℕ). IsSo (reads old n) EndsUnsealed) name
    (so_of old mid c.deref.result.now (c.in_ok-file.ensures.same honest) (c.in_ok-file.ensures.ok honest) EndsUnsealed
    (λ bytes is. c.in_ok-outlined.ensures.unsealed bytes (c.in_ok-outline.ensures.all there c.deref.result.now bytes c.in_ok-file.ensures.opened is) (ap Ok c.in-None.is)))

pub returns-in_err-outline-clause-damaged : goal.returns-in_err-outline-clause-damaged
returns-in_err-outline-clause-damaged g c = λ honest damaged.
    let old = now (g.D.Dir.history c.args.dir.now) in
    let mid = now (g.D.Dir.history c.open.new.self) in
    let name = c.deref.ensures.value ∙ c.in_ok-name.ensures ∙ c.generations.ensures c.args.number in
    let there = c.in_ok-file.ensures.device.honest honest in
    let answer = answered c.in_err-outline.field-0.0 c.from_residual-in_err-outline.result c.from_residual-in_err-outline.ensures.1 in
    let e = err_was c.in_err-outline.field-0.0 refusal.Damaged c.from_residual-in_err-outline.result answer damaged in
    subst (λ (n : List ℕ). IsSo (reads old n) IsDamaged) name
    (so_of old mid c.deref.result.now (c.in_ok-file.ensures.same honest) (c.in_ok-file.ensures.ok honest) IsDamaged
    (λ bytes is. c.in_err-outline.ensures.damaged there c.deref.result.now bytes c.in_ok-file.ensures.opened is e))

pub returns-in_err-outlined-clause-damaged : goal.returns-in_err-outlined-clause-damaged
returns-in_err-outlined-clause-damaged g c = λ honest damaged.
    let old = now (g.D.Dir.history c.args.dir.now) in
    let mid = now (g.D.Dir.history c.open.new.self) in
    let name = c.deref.ensures.value ∙ c.in_ok-name.ensures ∙ c.generations.ensures c.args.number in
    let there = c.in_ok-file.ensures.device.honest honest in
    let answer = answered c.in_err-outlined.field-0.0 c.from_residual-in_err-outlined.result c.from_residual-in_err-outlined.ensures.1 in
    let e = err_was c.in_err-outlined.field-0.0 refusal.Damaged c.from_residual-in_err-outlined.result answer damaged in
    subst (λ (n : List ℕ). IsSo (reads old n) IsDamaged) name
    (so_of old mid c.deref.result.now (c.in_ok-file.ensures.same honest) (c.in_ok-file.ensures.ok honest) IsDamaged
    (λ bytes is. c.in_err-outlined.ensures.damaged bytes (c.in_ok-outline.ensures.all there c.deref.result.now bytes c.in_ok-file.ensures.opened is) e))

pub returns-in_err-name-clause-meant : goal.returns-in_err-name-clause-meant
returns-in_err-name-clause-meant g c = λ honest. err_no_value refusal.Memory c.from_residual.result _ c.from_residual.ensures.1

pub returns-in_err-name-clause-unsealed : goal.returns-in_err-name-clause-unsealed
returns-in_err-name-clause-unsealed g c = λ honest is. no_ok refusal.Memory None c.from_residual.result _ (answered refusal.Memory c.from_residual.result c.from_residual.ensures.1) is

pub returns-in_err-name-clause-open : goal.returns-in_err-name-clause-open
returns-in_err-name-clause-open g c = err_no_value refusal.Memory c.from_residual.result _ c.from_residual.ensures.1

pub returns-in_err-name-clause-tags : goal.returns-in_err-name-clause-tags
returns-in_err-name-clause-tags g c = err_no_value refusal.Memory c.from_residual.result _ c.from_residual.ensures.1

pub returns-in_err-name-clause-unclaimed : goal.returns-in_err-name-clause-unclaimed
returns-in_err-name-clause-unclaimed g c = err_no_value refusal.Memory c.from_residual.result _ c.from_residual.ensures.1

pub returns-in_err-name-clause-damaged : goal.returns-in_err-name-clause-damaged
returns-in_err-name-clause-damaged g c = λ honest is. absurd (not_err refusal.Memory refusal.Damaged c.from_residual.result (answered refusal.Memory c.from_residual.result c.from_residual.ensures.1) memory_undamaged is)

pub returns-in_err-name-clause-not_last : goal.returns-in_err-name-clause-not_last
returns-in_err-name-clause-not_last g c = not_err refusal.Memory refusal.LastGeneration c.from_residual.result (answered refusal.Memory c.from_residual.result c.from_residual.ensures.1) memory_numbered

pub returns-in_err-name-clause-cause : goal.returns-in_err-name-clause-cause
returns-in_err-name-clause-cause g c = reason_memory _ _ c.from_residual.result refl (answered refusal.Memory c.from_residual.result c.from_residual.ensures.1)

pub returns-in_err-file-clause-meant : goal.returns-in_err-file-clause-meant
returns-in_err-file-clause-meant g c = λ honest. err_no_value (dir_error c.in_err-file.field-0.0) c.from_residual-in_err-file.result _ c.from_residual-in_err-file.ensures.1

pub returns-in_err-file-clause-unsealed : goal.returns-in_err-file-clause-unsealed
returns-in_err-file-clause-unsealed g c = λ honest is. no_ok (dir_error c.in_err-file.field-0.0) None c.from_residual-in_err-file.result _ (answered (dir_error c.in_err-file.field-0.0) c.from_residual-in_err-file.result c.from_residual-in_err-file.ensures.1) is

pub returns-in_err-file-clause-open : goal.returns-in_err-file-clause-open
returns-in_err-file-clause-open g c = err_no_value (dir_error c.in_err-file.field-0.0) c.from_residual-in_err-file.result _ c.from_residual-in_err-file.ensures.1

pub returns-in_err-file-clause-tags : goal.returns-in_err-file-clause-tags
returns-in_err-file-clause-tags g c = err_no_value (dir_error c.in_err-file.field-0.0) c.from_residual-in_err-file.result _ c.from_residual-in_err-file.ensures.1

pub returns-in_err-file-clause-unclaimed : goal.returns-in_err-file-clause-unclaimed
returns-in_err-file-clause-unclaimed g c = err_no_value (dir_error c.in_err-file.field-0.0) c.from_residual-in_err-file.result _ c.from_residual-in_err-file.ensures.1

pub returns-in_err-file-clause-damaged : goal.returns-in_err-file-clause-damaged
returns-in_err-file-clause-damaged g c = λ honest is. absurd (not_err (dir_error c.in_err-file.field-0.0) refusal.Damaged c.from_residual-in_err-file.result (answered (dir_error c.in_err-file.field-0.0) c.from_residual-in_err-file.result c.from_residual-in_err-file.ensures.1) (dir_undamaged c.in_err-file.field-0.0) is)

pub returns-in_err-file-clause-not_last : goal.returns-in_err-file-clause-not_last
returns-in_err-file-clause-not_last g c = not_err (dir_error c.in_err-file.field-0.0) refusal.LastGeneration c.from_residual-in_err-file.result (answered (dir_error c.in_err-file.field-0.0) c.from_residual-in_err-file.result c.from_residual-in_err-file.ensures.1) (dir_numbered c.in_err-file.field-0.0)

pub returns-in_err-file-clause-cause : goal.returns-in_err-file-clause-cause
returns-in_err-file-clause-cause g c = reason_dir _ _ _ c.in_err-file.field-0.0 c.from_residual-in_err-file.result refl c.in_err-file.ensures.device.cause (answered (dir_error c.in_err-file.field-0.0) c.from_residual-in_err-file.result c.from_residual-in_err-file.ensures.1)

pub returns-in_err-outline-clause-meant : goal.returns-in_err-outline-clause-meant
returns-in_err-outline-clause-meant g c = λ honest. err_no_value c.in_err-outline.field-0.0 c.from_residual-in_err-outline.result _ c.from_residual-in_err-outline.ensures.1

pub returns-in_err-outline-clause-unsealed : goal.returns-in_err-outline-clause-unsealed
returns-in_err-outline-clause-unsealed g c = λ honest is. no_ok c.in_err-outline.field-0.0 None c.from_residual-in_err-outline.result _ (answered c.in_err-outline.field-0.0 c.from_residual-in_err-outline.result c.from_residual-in_err-outline.ensures.1) is

pub returns-in_err-outline-clause-open : goal.returns-in_err-outline-clause-open
returns-in_err-outline-clause-open g c = err_no_value c.in_err-outline.field-0.0 c.from_residual-in_err-outline.result _ c.from_residual-in_err-outline.ensures.1

pub returns-in_err-outline-clause-tags : goal.returns-in_err-outline-clause-tags
returns-in_err-outline-clause-tags g c = err_no_value c.in_err-outline.field-0.0 c.from_residual-in_err-outline.result _ c.from_residual-in_err-outline.ensures.1

pub returns-in_err-outline-clause-unclaimed : goal.returns-in_err-outline-clause-unclaimed
returns-in_err-outline-clause-unclaimed g c = err_no_value c.in_err-outline.field-0.0 c.from_residual-in_err-outline.result _ c.from_residual-in_err-outline.ensures.1

pub returns-in_err-outline-clause-not_last : goal.returns-in_err-outline-clause-not_last
returns-in_err-outline-clause-not_last g c = not_err c.in_err-outline.field-0.0 refusal.LastGeneration c.from_residual-in_err-outline.result (answered c.in_err-outline.field-0.0 c.from_residual-in_err-outline.result c.from_residual-in_err-outline.ensures.1) (λ e. c.in_err-outline.ensures.not_last (ap Err e))

pub returns-in_err-outline-clause-cause : goal.returns-in_err-outline-clause-cause
returns-in_err-outline-clause-cause g c = reason_err _ _ _ c.in_err-outline.field-0.0 refusal.Fault c.from_residual-in_err-outline.result c.in_ok-file.ensures.device.cause.passed c.in_err-outline.ensures.cause (answered c.in_err-outline.field-0.0 c.from_residual-in_err-outline.result c.from_residual-in_err-outline.ensures.1)

pub returns-in_err-outlined-clause-meant : goal.returns-in_err-outlined-clause-meant
returns-in_err-outlined-clause-meant g c = λ honest. err_no_value c.in_err-outlined.field-0.0 c.from_residual-in_err-outlined.result _ c.from_residual-in_err-outlined.ensures.1

pub returns-in_err-outlined-clause-unsealed : goal.returns-in_err-outlined-clause-unsealed
returns-in_err-outlined-clause-unsealed g c = λ honest is. no_ok c.in_err-outlined.field-0.0 None c.from_residual-in_err-outlined.result _ (answered c.in_err-outlined.field-0.0 c.from_residual-in_err-outlined.result c.from_residual-in_err-outlined.ensures.1) is

pub returns-in_err-outlined-clause-open : goal.returns-in_err-outlined-clause-open
returns-in_err-outlined-clause-open g c = err_no_value c.in_err-outlined.field-0.0 c.from_residual-in_err-outlined.result _ c.from_residual-in_err-outlined.ensures.1

pub returns-in_err-outlined-clause-tags : goal.returns-in_err-outlined-clause-tags
returns-in_err-outlined-clause-tags g c = err_no_value c.in_err-outlined.field-0.0 c.from_residual-in_err-outlined.result _ c.from_residual-in_err-outlined.ensures.1

pub returns-in_err-outlined-clause-unclaimed : goal.returns-in_err-outlined-clause-unclaimed
returns-in_err-outlined-clause-unclaimed g c = err_no_value c.in_err-outlined.field-0.0 c.from_residual-in_err-outlined.result _ c.from_residual-in_err-outlined.ensures.1

pub returns-in_err-outlined-clause-not_last : goal.returns-in_err-outlined-clause-not_last
returns-in_err-outlined-clause-not_last g c = not_err c.in_err-outlined.field-0.0 refusal.LastGeneration c.from_residual-in_err-outlined.result (answered c.in_err-outlined.field-0.0 c.from_residual-in_err-outlined.result c.from_residual-in_err-outlined.ensures.1) (λ e. c.in_err-outlined.ensures.not_last (ap Err e))

pub returns-in_err-outlined-clause-cause : goal.returns-in_err-outlined-clause-cause
returns-in_err-outlined-clause-cause g c = reason_quiet _ _ c.in_err-outlined.field-0.0 c.from_residual-in_err-outlined.result (c.in_ok-outline.ensures.cause.passed ∙ c.in_ok-file.ensures.device.cause.passed) (λ e. c.in_err-outlined.ensures.no_fault (ap Err e)) (answered c.in_err-outlined.field-0.0 c.from_residual-in_err-outlined.result c.from_residual-in_err-outlined.ensures.1)

pub returns-in_err-outline-clause-time : goal.returns-in_err-outline-clause-time
returns-in_err-outline-clause-time g c = λ honest.
    let there = c.in_ok-file.ensures.device.honest honest in
    elapsed (g.D.Dir.history c.args.dir.now) (g.D.Dir.history c.open.new.self) (g.D.Dir.history c.feed_file.new.dir) (c.in_ok-file.ensures.device.time honest) (c.in_err-outline.ensures.time there) (c.in_err-outline.ensures.same there)

pub returns-in_err-outlined-clause-time : goal.returns-in_err-outlined-clause-time
returns-in_err-outlined-clause-time g c = λ honest.
    let there = c.in_ok-file.ensures.device.honest honest in
    elapsed (g.D.Dir.history c.args.dir.now) (g.D.Dir.history c.open.new.self) (g.D.Dir.history c.feed_file.new.dir) (c.in_ok-file.ensures.device.time honest) (c.in_ok-outline.ensures.time there) (c.in_ok-outline.ensures.same there)

pub returns-in-Some-clause-cause : goal.returns-in-Some-clause-cause
returns-in-Some-clause-cause g c = reason_ok _ _ _ refusal.Fault (c.in_ok-outline.ensures.cause.passed ∙ c.in_ok-file.ensures.device.cause.passed)

pub returns-clause-cause : goal.returns-clause-cause
returns-clause-cause g c = reason_ok _ _ _ refusal.Fault (c.in_ok-outline.ensures.cause.passed ∙ c.in_ok-file.ensures.device.cause.passed)

pub feed_file-requires : goal.feed_file-requires
feed_file-requires g c = is_some_name _ _ c.in_ok-file.ensures.opened

pub returns-in_err-name-clause-honest : goal.returns-in_err-name-clause-honest
returns-in_err-name-clause-honest g c = λ honest. honest

pub returns-in_err-name-clause-time : goal.returns-in_err-name-clause-time
returns-in_err-name-clause-time g c = λ honest. stood (g.D.Dir.history c.args.dir.now)

pub returns-in_err-name-clause-same : goal.returns-in_err-name-clause-same
returns-in_err-name-clause-same g c = λ honest name. refl

pub returns-in_err-file-clause-honest : goal.returns-in_err-file-clause-honest
returns-in_err-file-clause-honest g c = c.in_err-file.ensures.device.honest

pub returns-in_err-file-clause-time : goal.returns-in_err-file-clause-time
returns-in_err-file-clause-time g c = c.in_err-file.ensures.device.time

pub returns-in_err-file-clause-same : goal.returns-in_err-file-clause-same
returns-in_err-file-clause-same g c = c.in_err-file.ensures.same

pub returns-in_err-outline-clause-honest : goal.returns-in_err-outline-clause-honest
returns-in_err-outline-clause-honest g c = λ honest. c.in_err-outline.ensures.honest (c.in_ok-file.ensures.device.honest honest)

pub returns-in_err-outline-clause-same : goal.returns-in_err-outline-clause-same
returns-in_err-outline-clause-same g c = λ honest name. c.in_err-outline.ensures.same (c.in_ok-file.ensures.device.honest honest) name ∙ c.in_ok-file.ensures.same honest name

pub returns-in_err-outlined-clause-honest : goal.returns-in_err-outlined-clause-honest
returns-in_err-outlined-clause-honest g c = λ honest. c.in_ok-outline.ensures.honest (c.in_ok-file.ensures.device.honest honest)

pub returns-in_err-outlined-clause-same : goal.returns-in_err-outlined-clause-same
returns-in_err-outlined-clause-same g c = λ honest name. c.in_ok-outline.ensures.same (c.in_ok-file.ensures.device.honest honest) name ∙ c.in_ok-file.ensures.same honest name

pub returns-in-Some-clause-honest : goal.returns-in-Some-clause-honest
returns-in-Some-clause-honest g c = λ honest. c.in_ok-outline.ensures.honest (c.in_ok-file.ensures.device.honest honest)

pub returns-in-Some-clause-same : goal.returns-in-Some-clause-same
returns-in-Some-clause-same g c = λ honest name. c.in_ok-outline.ensures.same (c.in_ok-file.ensures.device.honest honest) name ∙ c.in_ok-file.ensures.same honest name

pub returns-clause-honest : goal.returns-clause-honest
returns-clause-honest g c = λ honest. c.in_ok-outline.ensures.honest (c.in_ok-file.ensures.device.honest honest)

pub returns-clause-same : goal.returns-clause-same
returns-clause-same g c = λ honest name. c.in_ok-outline.ensures.same (c.in_ok-file.ensures.device.honest honest) name ∙ c.in_ok-file.ensures.same honest name

pub returns-in-Some-clause-damaged : goal.returns-in-Some-clause-damaged
returns-in-Some-clause-damaged g c = λ honest is. absurd (ok_no_err _ _ is)

pub returns-in-Some-clause-not_last : goal.returns-in-Some-clause-not_last
returns-in-Some-clause-not_last g c = λ is. ok_no_err _ _ is

pub returns-clause-damaged : goal.returns-clause-damaged
returns-clause-damaged g c = λ honest is. absurd (ok_no_err _ _ is)

pub returns-clause-not_last : goal.returns-clause-not_last
returns-clause-not_last g c = λ is. ok_no_err _ _ is

pub returns-in-Some-clause-unsealed : goal.returns-in-Some-clause-unsealed
returns-in-Some-clause-unsealed g c = λ honest is. some_no_none _ _ _ refl is

pub returns-in-Some-clause-open : goal.returns-in-Some-clause-open
returns-in-Some-clause-open g c = c.in_ok-outline.ensures.opened c.in_ok-file.file ∙ c.in_ok-file.ensures.opened ∙ ap Some (c.deref.ensures.value ∙ c.in_ok-name.ensures ∙ c.generations.ensures c.args.number)

pub returns-clause-meant : goal.returns-clause-meant
returns-clause-meant g c = λ honest. tt

pub returns-clause-open : goal.returns-clause-open
returns-clause-open g c = tt

pub returns-clause-tags : goal.returns-clause-tags
returns-clause-tags g c = tt

pub returns-clause-unclaimed : goal.returns-clause-unclaimed
returns-clause-unclaimed g c = tt
