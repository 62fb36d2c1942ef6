use Rattle.std.proofs.Common.{Ok, Err, [], ap, refl, sym, ◌∙◌, arith, inl}
use Rattle.disk_files.specs.Moments.{now}
use Rattle.disk_files.proofs.Moments.{started}
use Rattle.journal_files.specs.Faults.{dir_error}
use Rattle.file_pieces.specs.Adding.{IsLeftOf}
use Rattle.journal_files.specs.Pieces.{IsUnfinished}
use Rattle.journal_files.specs.declared.error.JournalError.TheVariants as refusal
use Rattle.journal_files.proofs.Beginning.{others_first}
use Rattle.journal_files.proofs.GivenUp.{given_up, new_young, new_given_up, not_made, others_stay, new_elsewhere, other_file, reason_given, given_as, copy_rises}
use Rattle.journal_files.proofs.Reasons.{answered, reason_ok, reason_dir, reason_copy, was_short, copy_remembered, copy_numbered, dir_numbered, dir_undamaged, dir_memory}
use Rattle.journal_files.proofs.Steps.{any_err}
use Rattle.journal_files.proofs.Filled.{fill_honest, fill_opened, fill_room, fill_cause, fill_any, fill_ok, fill_whole, fill_moments}
use Rattle.journal_files.proofs.Renewing.{is_some_name}
use Rattle.journal_files.proofs.Wanting.{reason_memory, err_no_ok, err_no_value, err_same, ok_no_err, same_err, memory_undamaged, memory_numbered, not_err, memory_no_fault, damaged_no_fault, last_no_fault}
use Rattle.journal_files.proofs.Written.{make_first, left_now, not_begun}
use Rattle.journal_files.proofs.pieces.make.Goals as goal

pub returns-in_err-room-clause-moments : goal.returns-in_err-room-clause-moments
returns-in_err-room-clause-moments g c =
    λ honest bytes gives. started (g.D.Dir.history c.args.dir.now) _ (left_now (IsUnfinished c.args.name.now bytes (now (g.D.Dir.history c.args.dir.now))) (g.D.Dir.history c.args.dir.now) (inl (λ other. refl)))

pub returns-in_err-file-clause-moments : goal.returns-in_err-file-clause-moments
returns-in_err-file-clause-moments g c =
    λ honest bytes gives. make_first c.args.name.now bytes (g.D.Dir.history c.args.dir.now) (g.D.Dir.history c.create.new.self) c.create.result (c.create.ensures.device.time honest) (c.create.ensures.ok honest) (c.create.ensures.err honest)

pub returns-in_err-room-clause-left : goal.returns-in_err-room-clause-left
returns-in_err-room-clause-left g c = λ honest bytes gives. any_err _ (inl (λ q. refl))

pub returns-in_err-file-clause-left : goal.returns-in_err-file-clause-left
returns-in_err-file-clause-left g c = λ honest bytes gives. any_err _ (not_made (g.D.Dir.fault_count c.args.dir.now) (g.D.Dir.fault_count c.create.new.self) c.args.name.now (now (g.D.Dir.history c.args.dir.now)) (now (g.D.Dir.history c.create.new.self)) (c.in_err-file.ensures.err honest))

pub returns-in_err-file-clause-elsewhere : goal.returns-in_err-file-clause-elsewhere
returns-in_err-file-clause-elsewhere g c = λ honest other differ.
    others_first c.args.name.now [] other (now (g.D.Dir.history c.args.dir.now)) (now (g.D.Dir.history c.create.new.self)) differ (not_begun c.args.name.now [] (now (g.D.Dir.history c.args.dir.now)) (now (g.D.Dir.history c.create.new.self)) (c.in_err-file.ensures.err honest))

pub returns-in_err-file-clause-kept : goal.returns-in_err-file-clause-kept
returns-in_err-file-clause-kept g c = λ other own is differ. c.create.ensures.others other (is_some_name _ _ is) ∙ is

pub returns-in_err-file-clause-cause : goal.returns-in_err-file-clause-cause
returns-in_err-file-clause-cause g c =
    reason_dir (g.D.Dir.fault_count c.args.dir.now) (g.D.Dir.fault_count c.args.dir.now) (g.D.Dir.fault_count c.create.new.self) c.in_err-file.field-0.0 c.from_residual-in_err-file.result refl c.in_err-file.ensures.device.cause
    (answered (dir_error c.in_err-file.field-0.0) c.from_residual-in_err-file.result c.from_residual-in_err-file.ensures.1)

pub returns-in_err-file-clause-not_last : goal.returns-in_err-file-clause-not_last
returns-in_err-file-clause-not_last g c = λ last.
    dir_numbered c.in_err-file.field-0.0 (err_same (dir_error c.in_err-file.field-0.0) refusal.LastGeneration c.from_residual-in_err-file.result (answered (dir_error c.in_err-file.field-0.0) c.from_residual-in_err-file.result c.from_residual-in_err-file.ensures.1) last)

pub give_up-requires : goal.give_up-requires
give_up-requires g c = record { «open» = is_some_name _ _ (fill_opened g.D.Dir.is_honest g.D.Dir.history g.D.Dir.opened g.D.Dir.bytes_left g.D.Dir.fault_count c.in_ok-file.file c.args.pieces.now c.args.name.now c.args.dir.now c.create.new.self c.fill.new.dir (Err c.in-Err.refused) c.args.from c.in-Err.ensures c.in_ok-file.file ∙ c.in_ok-file.ensures.opened) }

pub returns-in-Err-clause-honest : goal.returns-in-Err-clause-honest
returns-in-Err-clause-honest g c = λ honest.
    c.give_up.ensures.honest (fill_honest g.D.Dir.is_honest g.D.Dir.history g.D.Dir.opened g.D.Dir.bytes_left g.D.Dir.fault_count c.in_ok-file.file c.args.pieces.now c.args.name.now c.args.dir.now c.create.new.self c.fill.new.dir (Err c.in-Err.refused) c.args.from c.in-Err.ensures (c.in_ok-file.ensures.device.honest honest))

pub returns-in-Err-clause-left : goal.returns-in-Err-clause-left
returns-in-Err-clause-left g c = λ honest bytes gives.
    let made = c.in_ok-file.ensures.device.honest honest in
    let filled = fill_honest g.D.Dir.is_honest g.D.Dir.history g.D.Dir.opened g.D.Dir.bytes_left g.D.Dir.fault_count c.in_ok-file.file c.args.pieces.now c.args.name.now c.args.dir.now c.create.new.self c.fill.new.dir (Err c.in-Err.refused) c.args.from c.in-Err.ensures made in
    let named = fill_opened g.D.Dir.is_honest g.D.Dir.history g.D.Dir.opened g.D.Dir.bytes_left g.D.Dir.fault_count c.in_ok-file.file c.args.pieces.now c.args.name.now c.args.dir.now c.create.new.self c.fill.new.dir (Err c.in-Err.refused) c.args.from c.in-Err.ensures c.in_ok-file.file ∙ c.in_ok-file.ensures.opened in
    let any = fill_any g.D.Dir.is_honest g.D.Dir.history g.D.Dir.opened g.D.Dir.bytes_left g.D.Dir.fault_count c.in_ok-file.file c.args.pieces.now c.args.name.now c.args.dir.now c.create.new.self c.fill.new.dir (Err c.in-Err.refused) made c.in_ok-file.ensures.opened (c.in_ok-file.ensures.ok honest) c.args.from c.in-Err.ensures in
    let cause = fill_cause g.D.Dir.is_honest g.D.Dir.history g.D.Dir.opened g.D.Dir.bytes_left g.D.Dir.fault_count c.in_ok-file.file c.args.pieces.now c.args.name.now c.args.dir.now c.create.new.self c.fill.new.dir (Err c.in-Err.refused) c.args.from c.in-Err.ensures in
    let whole = fill_whole g.D.Dir.is_honest g.D.Dir.history g.D.Dir.opened g.D.Dir.bytes_left g.D.Dir.fault_count c.in_ok-file.file c.args.pieces.now c.args.name.now c.args.dir.now c.create.new.self c.fill.new.dir (Err c.in-Err.refused) made c.in_ok-file.ensures.opened (c.in_ok-file.ensures.ok honest) c.in_ok-file.ensures.others bytes c.args.from c.in-Err.ensures gives in
    new_given_up (g.D.Dir.fault_count c.args.dir.now) (g.D.Dir.fault_count c.fill.new.dir) (g.D.Dir.fault_count c.give_up.new.dir) c.args.name.now any.bytes (now (g.D.Dir.history c.args.dir.now)) (now (g.D.Dir.history c.fill.new.dir)) (now (g.D.Dir.history c.give_up.new.dir)) any.new (copy_rises (g.D.Dir.fault_count c.args.dir.now) (g.D.Dir.fault_count c.create.new.self) (g.D.Dir.fault_count c.fill.new.dir) c.in-Err.refused c.in_ok-file.ensures.device.cause.passed cause whole)
    c.give_up.ensures.answer.later (c.give_up.ensures.gone filled c.args.name.now named)

pub returns-in-Err-clause-moments : goal.returns-in-Err-clause-moments
returns-in-Err-clause-moments g c = λ honest bytes gives.
    let made = c.in_ok-file.ensures.device.honest honest in
    let filled = fill_honest g.D.Dir.is_honest g.D.Dir.history g.D.Dir.opened g.D.Dir.bytes_left g.D.Dir.fault_count c.in_ok-file.file c.args.pieces.now c.args.name.now c.args.dir.now c.create.new.self c.fill.new.dir (Err c.in-Err.refused) c.args.from c.in-Err.ensures made in
    let named = fill_opened g.D.Dir.is_honest g.D.Dir.history g.D.Dir.opened g.D.Dir.bytes_left g.D.Dir.fault_count c.in_ok-file.file c.args.pieces.now c.args.name.now c.args.dir.now c.create.new.self c.fill.new.dir (Err c.in-Err.refused) c.args.from c.in-Err.ensures c.in_ok-file.file ∙ c.in_ok-file.ensures.opened in
    let any = fill_any g.D.Dir.is_honest g.D.Dir.history g.D.Dir.opened g.D.Dir.bytes_left g.D.Dir.fault_count c.in_ok-file.file c.args.pieces.now c.args.name.now c.args.dir.now c.create.new.self c.fill.new.dir (Err c.in-Err.refused) made c.in_ok-file.ensures.opened (c.in_ok-file.ensures.ok honest) c.args.from c.in-Err.ensures in
    let so_far = fill_moments g.D.Dir.is_honest g.D.Dir.history g.D.Dir.opened g.D.Dir.bytes_left g.D.Dir.fault_count c.in_ok-file.file c.args.pieces.now c.args.name.now c.args.dir.now c.create.new.self c.fill.new.dir (Err c.in-Err.refused) made c.in_ok-file.ensures.opened (c.in_ok-file.ensures.ok honest) c.in_ok-file.ensures.others bytes c.args.from c.in-Err.ensures gives
    (make_first c.args.name.now bytes (g.D.Dir.history c.args.dir.now) (g.D.Dir.history c.create.new.self) c.create.result (c.create.ensures.device.time honest) (c.create.ensures.ok honest) (c.create.ensures.err honest)) in
    given_up (IsLeftOf (IsUnfinished c.args.name.now bytes (now (g.D.Dir.history c.args.dir.now)))) (g.D.Dir.fault_count c.fill.new.dir) (g.D.Dir.fault_count c.give_up.new.dir) c.args.name.now (g.D.Dir.history c.args.dir.now) (g.D.Dir.history c.fill.new.dir) (g.D.Dir.history c.give_up.new.dir) so_far (c.give_up.ensures.time filled)
    (new_young c.args.name.now any.bytes (now (g.D.Dir.history c.args.dir.now)) (now (g.D.Dir.history c.fill.new.dir)) any.new) (c.give_up.ensures.gone filled c.args.name.now named)

pub returns-in-Err-clause-elsewhere : goal.returns-in-Err-clause-elsewhere
returns-in-Err-clause-elsewhere g c = λ honest other differ.
    let made = c.in_ok-file.ensures.device.honest honest in
    let filled = fill_honest g.D.Dir.is_honest g.D.Dir.history g.D.Dir.opened g.D.Dir.bytes_left g.D.Dir.fault_count c.in_ok-file.file c.args.pieces.now c.args.name.now c.args.dir.now c.create.new.self c.fill.new.dir (Err c.in-Err.refused) c.args.from c.in-Err.ensures made in
    let named = fill_opened g.D.Dir.is_honest g.D.Dir.history g.D.Dir.opened g.D.Dir.bytes_left g.D.Dir.fault_count c.in_ok-file.file c.args.pieces.now c.args.name.now c.args.dir.now c.create.new.self c.fill.new.dir (Err c.in-Err.refused) c.args.from c.in-Err.ensures c.in_ok-file.file ∙ c.in_ok-file.ensures.opened in
    let any = fill_any g.D.Dir.is_honest g.D.Dir.history g.D.Dir.opened g.D.Dir.bytes_left g.D.Dir.fault_count c.in_ok-file.file c.args.pieces.now c.args.name.now c.args.dir.now c.create.new.self c.fill.new.dir (Err c.in-Err.refused) made c.in_ok-file.ensures.opened (c.in_ok-file.ensures.ok honest) c.args.from c.in-Err.ensures in
    others_stay (g.D.Dir.fault_count c.fill.new.dir) (g.D.Dir.fault_count c.give_up.new.dir) c.args.name.now other (now (g.D.Dir.history c.fill.new.dir)) (now (g.D.Dir.history c.give_up.new.dir)) differ (c.give_up.ensures.gone filled c.args.name.now named) ∙ new_elsewhere c.args.name.now any.bytes other (now (g.D.Dir.history c.args.dir.now)) (now (g.D.Dir.history c.fill.new.dir)) differ any.new

pub returns-in-Err-clause-kept : goal.returns-in-Err-clause-kept
returns-in-Err-clause-kept g c = λ other own is differ.
    let named = fill_opened g.D.Dir.is_honest g.D.Dir.history g.D.Dir.opened g.D.Dir.bytes_left g.D.Dir.fault_count c.in_ok-file.file c.args.pieces.now c.args.name.now c.args.dir.now c.create.new.self c.fill.new.dir (Err c.in-Err.refused) c.args.from c.in-Err.ensures c.in_ok-file.file ∙ c.in_ok-file.ensures.opened in
    let still = fill_opened g.D.Dir.is_honest g.D.Dir.history g.D.Dir.opened g.D.Dir.bytes_left g.D.Dir.fault_count c.in_ok-file.file c.args.pieces.now c.args.name.now c.args.dir.now c.create.new.self c.fill.new.dir (Err c.in-Err.refused) c.args.from c.in-Err.ensures other ∙ c.in_ok-file.ensures.others other (is_some_name _ _ is) ∙ is in
    c.give_up.ensures.others other (other_file (g.D.Dir.opened c.fill.new.dir) c.in_ok-file.file other c.args.name.now own named still differ) ∙ still

pub returns-in-Err-clause-cause : goal.returns-in-Err-clause-cause
returns-in-Err-clause-cause g c =
    reason_given {T = Unit {0}} (g.D.Dir.fault_count c.args.dir.now) (g.D.Dir.fault_count c.fill.new.dir) (g.D.Dir.fault_count c.give_up.new.dir) c.from.result c.give_up.result
    (reason_copy (g.D.Dir.fault_count c.args.dir.now) (g.D.Dir.fault_count c.create.new.self) (g.D.Dir.fault_count c.fill.new.dir) c.in-Err.refused (Err c.from.result) c.in_ok-file.ensures.device.cause.passed (fill_cause g.D.Dir.is_honest g.D.Dir.history g.D.Dir.opened g.D.Dir.bytes_left g.D.Dir.fault_count c.in_ok-file.file c.args.pieces.now c.args.name.now c.args.dir.now c.create.new.self c.fill.new.dir (Err c.in-Err.refused) c.args.from c.in-Err.ensures) (ap Err c.from.ensures)) c.give_up.ensures.answer

pub returns-in-Err-clause-whole : goal.returns-in-Err-clause-whole
returns-in-Err-clause-whole g c = λ honest bytes gives short.
    let made = c.in_ok-file.ensures.device.honest honest in
    let was = given_as (g.D.Dir.fault_count c.fill.new.dir) (g.D.Dir.fault_count c.give_up.new.dir) c.from.result c.give_up.result refusal.Damaged c.give_up.ensures.answer (same_err c.give_up.result refusal.Damaged short) damaged_no_fault in
    fill_whole g.D.Dir.is_honest g.D.Dir.history g.D.Dir.opened g.D.Dir.bytes_left g.D.Dir.fault_count c.in_ok-file.file c.args.pieces.now c.args.name.now c.args.dir.now c.create.new.self c.fill.new.dir (Err c.in-Err.refused) made c.in_ok-file.ensures.opened (c.in_ok-file.ensures.ok honest) c.in_ok-file.ensures.others bytes c.args.from c.in-Err.ensures gives
    (was_short c.in-Err.refused (sym c.from.ensures ∙ was))

pub returns-in-Err-clause-memory : goal.returns-in-Err-clause-memory
returns-in-Err-clause-memory g c = λ honest memory.
    let was = given_as (g.D.Dir.fault_count c.fill.new.dir) (g.D.Dir.fault_count c.give_up.new.dir) c.from.result c.give_up.result refusal.Memory c.give_up.ensures.answer (same_err c.give_up.result refusal.Memory memory) memory_no_fault in
    absurd (copy_remembered c.in-Err.refused (sym c.from.ensures ∙ was))

pub returns-in-Err-clause-not_last : goal.returns-in-Err-clause-not_last
returns-in-Err-clause-not_last g c = λ last.
    let was = given_as (g.D.Dir.fault_count c.fill.new.dir) (g.D.Dir.fault_count c.give_up.new.dir) c.from.result c.give_up.result refusal.LastGeneration c.give_up.ensures.answer (same_err c.give_up.result refusal.LastGeneration last) last_no_fault in
    absurd (copy_numbered c.in-Err.refused (sym c.from.ensures ∙ was))

pub returns-in-Ok-clause-elsewhere : goal.returns-in-Ok-clause-elsewhere
returns-in-Ok-clause-elsewhere g c = λ honest other differ.
    let any = fill_any g.D.Dir.is_honest g.D.Dir.history g.D.Dir.opened g.D.Dir.bytes_left g.D.Dir.fault_count c.in_ok-file.file c.args.pieces.now c.args.name.now c.args.dir.now c.create.new.self c.fill.new.dir (Ok c.in-Ok.field-0) (c.in_ok-file.ensures.device.honest honest) c.in_ok-file.ensures.opened (c.in_ok-file.ensures.ok honest) c.args.from c.in-Ok.ensures in
    new_elsewhere c.args.name.now any.bytes other (now (g.D.Dir.history c.args.dir.now)) (now (g.D.Dir.history c.fill.new.dir)) differ any.new

pub returns-in-Ok-clause-kept : goal.returns-in-Ok-clause-kept
returns-in-Ok-clause-kept g c = λ other own is differ. fill_opened g.D.Dir.is_honest g.D.Dir.history g.D.Dir.opened g.D.Dir.bytes_left g.D.Dir.fault_count c.in_ok-file.file c.args.pieces.now c.args.name.now c.args.dir.now c.create.new.self c.fill.new.dir (Ok c.in-Ok.field-0) c.args.from c.in-Ok.ensures other ∙ c.in_ok-file.ensures.others other (is_some_name _ _ is) ∙ is

pub returns-in-Ok-clause-honest : goal.returns-in-Ok-clause-honest
returns-in-Ok-clause-honest g c =
    λ honest. fill_honest g.D.Dir.is_honest g.D.Dir.history g.D.Dir.opened g.D.Dir.bytes_left g.D.Dir.fault_count c.in_ok-file.file c.args.pieces.now c.args.name.now c.args.dir.now c.create.new.self c.fill.new.dir (Ok c.in-Ok.field-0) c.args.from c.in-Ok.ensures (c.in_ok-file.ensures.device.honest honest)

pub returns-in-Ok-clause-ok : goal.returns-in-Ok-clause-ok
returns-in-Ok-clause-ok g c =
    λ honest bytes gives.
    let after = c.in_ok-file.ensures.device.honest honest in
    fill_ok g.D.Dir.is_honest g.D.Dir.history g.D.Dir.opened g.D.Dir.bytes_left g.D.Dir.fault_count c.in_ok-file.file c.args.pieces.now c.args.name.now c.args.dir.now c.create.new.self c.fill.new.dir (Ok c.in-Ok.field-0) after c.in_ok-file.ensures.opened (c.in_ok-file.ensures.ok honest) c.in_ok-file.ensures.others bytes c.args.from c.in-Ok.ensures gives

pub returns-in-Ok-clause-moments : goal.returns-in-Ok-clause-moments
returns-in-Ok-clause-moments g c =
    λ honest bytes gives.
    let after = c.in_ok-file.ensures.device.honest honest in
    fill_moments g.D.Dir.is_honest g.D.Dir.history g.D.Dir.opened g.D.Dir.bytes_left g.D.Dir.fault_count c.in_ok-file.file c.args.pieces.now c.args.name.now c.args.dir.now c.create.new.self c.fill.new.dir (Ok c.in-Ok.field-0) after c.in_ok-file.ensures.opened (c.in_ok-file.ensures.ok honest) c.in_ok-file.ensures.others bytes c.args.from c.in-Ok.ensures gives
    (make_first c.args.name.now bytes (g.D.Dir.history c.args.dir.now) (g.D.Dir.history c.create.new.self) c.create.result (c.create.ensures.device.time honest) (c.create.ensures.ok honest) (c.create.ensures.err honest))

pub returns-in-Ok-clause-any : goal.returns-in-Ok-clause-any
returns-in-Ok-clause-any g c =
    λ honest.
    let after = c.in_ok-file.ensures.device.honest honest in
    fill_any g.D.Dir.is_honest g.D.Dir.history g.D.Dir.opened g.D.Dir.bytes_left g.D.Dir.fault_count c.in_ok-file.file c.args.pieces.now c.args.name.now c.args.dir.now c.create.new.self c.fill.new.dir (Ok c.in-Ok.field-0) after c.in_ok-file.ensures.opened (c.in_ok-file.ensures.ok honest) c.args.from c.in-Ok.ensures

pub returns-in-Ok-clause-opened : goal.returns-in-Ok-clause-opened
returns-in-Ok-clause-opened g c =
    fill_opened g.D.Dir.is_honest g.D.Dir.history g.D.Dir.opened g.D.Dir.bytes_left g.D.Dir.fault_count c.in_ok-file.file c.args.pieces.now c.args.name.now c.args.dir.now c.create.new.self c.fill.new.dir (Ok c.in-Ok.field-0) c.args.from c.in-Ok.ensures c.in_ok-file.file ∙ c.in_ok-file.ensures.opened

pub returns-in-Ok-clause-others : goal.returns-in-Ok-clause-others
returns-in-Ok-clause-others g c =
    λ other some. fill_opened g.D.Dir.is_honest g.D.Dir.history g.D.Dir.opened g.D.Dir.bytes_left g.D.Dir.fault_count c.in_ok-file.file c.args.pieces.now c.args.name.now c.args.dir.now c.create.new.self c.fill.new.dir (Ok c.in-Ok.field-0) c.args.from c.in-Ok.ensures other ∙ c.in_ok-file.ensures.others other some

pub returns-in-Ok-clause-room : goal.returns-in-Ok-clause-room
returns-in-Ok-clause-room g c =
    fill_room g.D.Dir.is_honest g.D.Dir.history g.D.Dir.opened g.D.Dir.bytes_left g.D.Dir.fault_count c.in_ok-file.file c.args.pieces.now c.args.name.now c.args.dir.now c.create.new.self c.fill.new.dir (Ok c.in-Ok.field-0) c.args.from c.in-Ok.ensures c.args.more (omega (arith, c.in_ok-file.ensures.room, c.in_ok-room.ensures))

pub returns-in_err-room-clause-honest : goal.returns-in_err-room-clause-honest
returns-in_err-room-clause-honest g c = λ honest. honest

pub returns-in_err-room-clause-ok : goal.returns-in_err-room-clause-ok
returns-in_err-room-clause-ok g c = λ honest bytes gives. err_no_ok refusal.Memory c.from_residual.result _ c.from_residual.ensures.1

pub returns-in_err-room-clause-whole : goal.returns-in_err-room-clause-whole
returns-in_err-room-clause-whole g c = λ honest bytes gives is. not_err refusal.Memory refusal.Damaged c.from_residual.result (answered refusal.Memory c.from_residual.result c.from_residual.ensures.1) memory_undamaged is

pub returns-in_err-room-clause-not_last : goal.returns-in_err-room-clause-not_last
returns-in_err-room-clause-not_last g c = λ is. not_err refusal.Memory refusal.LastGeneration c.from_residual.result (answered refusal.Memory c.from_residual.result c.from_residual.ensures.1) memory_numbered is

pub returns-in_err-room-clause-any : goal.returns-in_err-room-clause-any
returns-in_err-room-clause-any g c = λ honest. err_no_ok refusal.Memory c.from_residual.result _ c.from_residual.ensures.1

pub returns-in_err-room-clause-elsewhere : goal.returns-in_err-room-clause-elsewhere
returns-in_err-room-clause-elsewhere g c = λ honest other differ. refl

pub returns-in_err-room-clause-memory : goal.returns-in_err-room-clause-memory
returns-in_err-room-clause-memory g c = λ honest is name. refl

pub returns-in_err-room-clause-opened : goal.returns-in_err-room-clause-opened
returns-in_err-room-clause-opened g c = err_no_value refusal.Memory c.from_residual.result _ c.from_residual.ensures.1

pub returns-in_err-room-clause-others : goal.returns-in_err-room-clause-others
returns-in_err-room-clause-others g c = err_no_ok refusal.Memory c.from_residual.result _ c.from_residual.ensures.1

pub returns-in_err-room-clause-kept : goal.returns-in_err-room-clause-kept
returns-in_err-room-clause-kept g c = λ other own is differ. is

pub returns-in_err-room-clause-room : goal.returns-in_err-room-clause-room
returns-in_err-room-clause-room g c = err_no_value refusal.Memory c.from_residual.result _ c.from_residual.ensures.1

pub returns-in_err-room-clause-cause : goal.returns-in_err-room-clause-cause
returns-in_err-room-clause-cause g c = reason_memory _ _ c.from_residual.result refl (answered refusal.Memory c.from_residual.result c.from_residual.ensures.1)

pub returns-in_err-file-clause-honest : goal.returns-in_err-file-clause-honest
returns-in_err-file-clause-honest g c = c.in_err-file.ensures.device.honest

pub returns-in_err-file-clause-ok : goal.returns-in_err-file-clause-ok
returns-in_err-file-clause-ok g c = λ honest bytes gives. err_no_ok (dir_error c.in_err-file.field-0.0) c.from_residual-in_err-file.result _ c.from_residual-in_err-file.ensures.1

pub returns-in_err-file-clause-whole : goal.returns-in_err-file-clause-whole
returns-in_err-file-clause-whole g c = λ honest bytes gives is. dir_undamaged c.in_err-file.field-0.0 (err_same (dir_error c.in_err-file.field-0.0) refusal.Damaged c.from_residual-in_err-file.result (answered (dir_error c.in_err-file.field-0.0) c.from_residual-in_err-file.result c.from_residual-in_err-file.ensures.1) is)

pub returns-in_err-file-clause-any : goal.returns-in_err-file-clause-any
returns-in_err-file-clause-any g c = λ honest. err_no_ok (dir_error c.in_err-file.field-0.0) c.from_residual-in_err-file.result _ c.from_residual-in_err-file.ensures.1

pub returns-in_err-file-clause-opened : goal.returns-in_err-file-clause-opened
returns-in_err-file-clause-opened g c = err_no_value (dir_error c.in_err-file.field-0.0) c.from_residual-in_err-file.result _ c.from_residual-in_err-file.ensures.1

pub returns-in_err-file-clause-others : goal.returns-in_err-file-clause-others
returns-in_err-file-clause-others g c = err_no_ok (dir_error c.in_err-file.field-0.0) c.from_residual-in_err-file.result _ c.from_residual-in_err-file.ensures.1

pub returns-in_err-file-clause-room : goal.returns-in_err-file-clause-room
returns-in_err-file-clause-room g c = err_no_value (dir_error c.in_err-file.field-0.0) c.from_residual-in_err-file.result _ c.from_residual-in_err-file.ensures.1

pub returns-in_err-file-clause-memory : goal.returns-in_err-file-clause-memory
returns-in_err-file-clause-memory g c = λ honest is. c.in_err-file.ensures.memory honest (dir_memory c.in_err-file.field-0.0 (err_same (dir_error c.in_err-file.field-0.0) refusal.Memory c.from_residual-in_err-file.result (answered (dir_error c.in_err-file.field-0.0) c.from_residual-in_err-file.result c.from_residual-in_err-file.ensures.1) is))

pub returns-in-Err-clause-ok : goal.returns-in-Err-clause-ok
returns-in-Err-clause-ok g c = λ honest bytes gives. tt

pub returns-in-Err-clause-any : goal.returns-in-Err-clause-any
returns-in-Err-clause-any g c = λ honest. tt

pub returns-in-Err-clause-opened : goal.returns-in-Err-clause-opened
returns-in-Err-clause-opened g c = tt

pub returns-in-Err-clause-others : goal.returns-in-Err-clause-others
returns-in-Err-clause-others g c = tt

pub returns-in-Err-clause-room : goal.returns-in-Err-clause-room
returns-in-Err-clause-room g c = tt

pub returns-in-Ok-clause-left : goal.returns-in-Ok-clause-left
returns-in-Ok-clause-left g c = λ honest bytes gives. tt

pub returns-in-Ok-clause-whole : goal.returns-in-Ok-clause-whole
returns-in-Ok-clause-whole g c = λ honest bytes gives is. ok_no_err _ _ is

pub returns-in-Ok-clause-not_last : goal.returns-in-Ok-clause-not_last
returns-in-Ok-clause-not_last g c = λ is. ok_no_err _ _ is

pub returns-in-Ok-clause-memory : goal.returns-in-Ok-clause-memory
returns-in-Ok-clause-memory g c = λ honest is. absurd (ok_no_err _ _ is)

pub returns-in-Ok-clause-cause : goal.returns-in-Ok-clause-cause
returns-in-Ok-clause-cause g c = reason_ok _ _ _ refusal.Fault ((fill_cause g.D.Dir.is_honest g.D.Dir.history g.D.Dir.opened g.D.Dir.bytes_left g.D.Dir.fault_count c.in_ok-file.file c.args.pieces.now c.args.name.now c.args.dir.now c.create.new.self c.fill.new.dir (Ok c.in-Ok.field-0) c.args.from c.in-Ok.ensures).passed ∙ c.in_ok-file.ensures.device.cause.passed)
