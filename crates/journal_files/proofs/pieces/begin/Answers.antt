use Rattle.std.proofs.Common.{◌≡◌, ℕ, ◌+◌, ◌<◌, ◌≤◌, List, Some, Err, length, arith, refl, ap, subst, sym, ◌∙◌, inl}
use Rattle.std.specs.List.{flat_map}
use Rattle.disk_files.specs.Moments.{now}
use Rattle.disk_files.proofs.Moments.{started}
use Rattle.chunk_journal.specs.Journal.{journal_bytes}
use Rattle.chunk_journal.specs.Meaning.{chunk_records}
use Rattle.disk_files.specs.Faults.{Rises}
use Rattle.disk_files.specs.declared.dir.DirError.TheVariants as dir
use Rattle.journal_files.specs.Folders.{journal_name, OpensWithin}
use Rattle.journal_files.specs.Leftovers.{IsGivenUp}
use Rattle.journal_files.specs.declared.error.JournalError.TheVariants as refusal
use Rattle.journal_files.proofs.Beginning.{can_open, making, sealing, ends, new_more, others_whole}
use Rattle.journal_files.proofs.Begun.{gives, new_reads}
use Rattle.journal_files.proofs.Reasons.{answered, reason_err, reason_dir, reason_ok}
use Rattle.journal_files.proofs.Wanting.{reason_memory, not_err, err_no_ok, err_no_value, err_was, same_err, ok_no_err, memory_undamaged, memory_numbered, memory_no_fault, damaged_no_fault, last_no_fault, no_fault}
use Rattle.journal_files.proofs.GivenUp.{given_up, new_young, new_given_up, others_stay, new_elsewhere, other_file, reason_given, given_as, rises_so, fault_so}
use Rattle.journal_files.proofs.Renewing.{is_some_name}
use Rattle.journal_files.proofs.Steps.{any_err}
use Rattle.journal_files.proofs.Strays.{begun_no_gap}
use Rattle.journal_files.proofs.pieces.begin.Goals as goal

pub returns-in_err-told-clause-moments : goal.returns-in_err-told-clause-moments
returns-in_err-told-clause-moments g c = λ honest t before none m source. started _ _ before

pub returns-in_err-prepared-clause-moments : goal.returns-in_err-prepared-clause-moments
returns-in_err-prepared-clause-moments g c = λ honest t before none m source. started _ _ before

pub returns-in_err-file-clause-moments : goal.returns-in_err-file-clause-moments
returns-in_err-file-clause-moments g c = λ honest t before none m source.
    let s = c.args.chunks.now in
    let bytes = journal_bytes (flat_map chunk_records s.chunks) in
    let can = can_open s c.in_ok-told.ensures.told c.in_ok-told.ensures.records c.in_ok-told.ensures.next in
    let name = c.deref.ensures.value ∙ c.in_ok-prepared.ensures.name in
    let give = gives (g.D.Dir.opened c.args.dir.now) (now (g.D.Dir.history c.args.dir.now)) c.args.path.now c.args.number c.deref.result.now c.args.places.now s c.deref-2.result.now c.in_ok-told.told.pieces.items c.args.from name c.deref-2.ensures.value c.in_ok-told.ensures.bytes c.in_ok-told.ensures.within source in
    making c.args.path.now c.args.number s can c.deref.result.now bytes c.requires.first c.ranges.number.fits name refl t m (g.D.Dir.history c.args.dir.now) (g.D.Dir.history c.make.new.dir) none before (c.make.ensures.moments honest bytes give)

pub returns-in_err-file-clause-whole : goal.returns-in_err-file-clause-whole
returns-in_err-file-clause-whole g c = λ honest source short.
    let s = c.args.chunks.now in
    let bytes = journal_bytes (flat_map chunk_records s.chunks) in
    let name = c.deref.ensures.value ∙ c.in_ok-prepared.ensures.name in
    let give = gives (g.D.Dir.opened c.args.dir.now) (now (g.D.Dir.history c.args.dir.now)) c.args.path.now c.args.number c.deref.result.now c.args.places.now s c.deref-2.result.now c.in_ok-told.told.pieces.items c.args.from name c.deref-2.ensures.value c.in_ok-told.ensures.bytes c.in_ok-told.ensures.within source in
    let answer = answered c.in_err-file.field-0.0 c.from_residual-in_err-file.result c.from_residual-in_err-file.ensures.1 in
    c.in_err-file.ensures.whole honest bytes give (err_was c.in_err-file.field-0.0 refusal.Damaged c.from_residual-in_err-file.result answer short)

pub returns-in_err-file-clause-memory : goal.returns-in_err-file-clause-memory
returns-in_err-file-clause-memory g c = λ honest memory.
    let answer = answered c.in_err-file.field-0.0 c.from_residual-in_err-file.result c.from_residual-in_err-file.ensures.1 in
    c.in_err-file.ensures.memory honest (err_was c.in_err-file.field-0.0 refusal.Memory c.from_residual-in_err-file.result answer memory)

pub returns-in_err-file-clause-not_last : goal.returns-in_err-file-clause-not_last
returns-in_err-file-clause-not_last g c = λ last.
    let answer = answered c.in_err-file.field-0.0 c.from_residual-in_err-file.result c.from_residual-in_err-file.ensures.1 in
    c.in_err-file.ensures.not_last (err_was c.in_err-file.field-0.0 refusal.LastGeneration c.from_residual-in_err-file.result answer last)

pub returns-in_err-file-clause-cause : goal.returns-in_err-file-clause-cause
returns-in_err-file-clause-cause g c =
    reason_err (g.D.Dir.fault_count c.args.dir.now) (g.D.Dir.fault_count c.args.dir.now) (g.D.Dir.fault_count c.make.new.dir) c.in_err-file.field-0.0 refusal.Fault c.from_residual-in_err-file.result refl c.in_err-file.ensures.cause
    (answered c.in_err-file.field-0.0 c.from_residual-in_err-file.result c.from_residual-in_err-file.ensures.1)

pub returns-in_err-told-clause-gap : goal.returns-in_err-told-clause-gap
returns-in_err-told-clause-gap g c = λ honest none all. begun_no_gap c.args.path.now c.args.number (now (g.D.Dir.history c.args.dir.now)) (now (g.D.Dir.history c.args.dir.now)) c.ranges.number.fits none all (λ other differ. refl)

pub returns-in_err-told-clause-left : goal.returns-in_err-told-clause-left
returns-in_err-told-clause-left g c = λ honest source. any_err _ (inl (λ q. refl))

pub returns-in_err-prepared-clause-gap : goal.returns-in_err-prepared-clause-gap
returns-in_err-prepared-clause-gap g c = λ honest none all. begun_no_gap c.args.path.now c.args.number (now (g.D.Dir.history c.args.dir.now)) (now (g.D.Dir.history c.args.dir.now)) c.ranges.number.fits none all (λ other differ. refl)

pub returns-in_err-prepared-clause-left : goal.returns-in_err-prepared-clause-left
returns-in_err-prepared-clause-left g c = λ honest source. any_err _ (inl (λ q. refl))

pub returns-in_err-file-clause-elsewhere : goal.returns-in_err-file-clause-elsewhere
returns-in_err-file-clause-elsewhere g c = λ honest other differ.
    let name = c.deref.ensures.value ∙ c.in_ok-prepared.ensures.name in
    c.in_err-file.ensures.elsewhere honest other (λ e. differ (e ∙ name))

pub returns-in_err-file-clause-gap : goal.returns-in_err-file-clause-gap
returns-in_err-file-clause-gap g c = λ honest none all.
    let name = c.deref.ensures.value ∙ c.in_ok-prepared.ensures.name in
    begun_no_gap c.args.path.now c.args.number (now (g.D.Dir.history c.args.dir.now)) (now (g.D.Dir.history c.make.new.dir)) c.ranges.number.fits none all (λ other differ. c.in_err-file.ensures.elsewhere honest other (λ e. differ (e ∙ name)))

pub returns-in_err-file-clause-left : goal.returns-in_err-file-clause-left
returns-in_err-file-clause-left g c = λ honest source.
    let s = c.args.chunks.now in
    let bytes = journal_bytes (flat_map chunk_records s.chunks) in
    let name = c.deref.ensures.value ∙ c.in_ok-prepared.ensures.name in
    let give = gives (g.D.Dir.opened c.args.dir.now) (now (g.D.Dir.history c.args.dir.now)) c.args.path.now c.args.number c.deref.result.now c.args.places.now s c.deref-2.result.now c.in_ok-told.told.pieces.items c.args.from name c.deref-2.ensures.value c.in_ok-told.ensures.bytes c.in_ok-told.ensures.within source in
    any_err _ (subst (λ (n : List ℕ). IsGivenUp (g.D.Dir.fault_count c.args.dir.now) (g.D.Dir.fault_count c.make.new.dir) n (now (g.D.Dir.history c.args.dir.now)) (now (g.D.Dir.history c.make.new.dir))) name (c.in_err-file.ensures.left honest bytes give))

pub returns-in_err-file-clause-kept : goal.returns-in_err-file-clause-kept
returns-in_err-file-clause-kept g c = λ other own is differ.
    let name = c.deref.ensures.value ∙ c.in_ok-prepared.ensures.name in
    c.in_err-file.ensures.kept other own is (λ e. differ (e ∙ name))

pub give_up-requires : goal.give_up-requires
give_up-requires g c = record { «open» = is_some_name _ _ (c.in-Err.ensures.opened c.in_ok-file.file ∙ c.in_ok-file.ensures.opened) }

pub returns-in-Err-clause-honest : goal.returns-in-Err-clause-honest
returns-in-Err-clause-honest g c = λ honest. c.give_up.ensures.honest (c.in-Err.ensures.honest (c.in_ok-file.ensures.honest honest))

pub returns-in-Err-clause-left : goal.returns-in-Err-clause-left
returns-in-Err-clause-left g c = λ honest source.
    let name = c.deref.ensures.value ∙ c.in_ok-prepared.ensures.name in
    let after = c.in_ok-file.ensures.honest honest in
    let sealed = c.in-Err.ensures.honest after in
    let named = c.in-Err.ensures.opened c.in_ok-file.file ∙ c.in_ok-file.ensures.opened in
    let any = c.in_ok-file.ensures.any honest in
    let some = c.in-Err.ensures.err after c.deref.result.now c.in_ok-file.ensures.opened in
    let has = new_more c.deref.result.now any.bytes c.deref-3.result.now (now (g.D.Dir.history c.args.dir.now)) (now (g.D.Dir.history c.make.new.dir)) (now (g.D.Dir.history c.seal_with.new.dir)) any.new some in
    let rises = subst (λ (n : ℕ). Rises n (g.D.Dir.fault_count c.seal_with.new.dir)) c.in_ok-file.ensures.cause.passed (rises_so (g.D.Dir.fault_count c.make.new.dir) (g.D.Dir.fault_count c.seal_with.new.dir) c.in-Err.refused (same_err c.in-Err.refused dir.Fault c.in-Err.ensures.only) c.in-Err.ensures.cause) in
    subst (λ (n : List ℕ). IsGivenUp (g.D.Dir.fault_count c.args.dir.now) (g.D.Dir.fault_count c.give_up.new.dir) n (now (g.D.Dir.history c.args.dir.now)) (now (g.D.Dir.history c.give_up.new.dir))) name
    (new_given_up (g.D.Dir.fault_count c.args.dir.now) (g.D.Dir.fault_count c.seal_with.new.dir) (g.D.Dir.fault_count c.give_up.new.dir) c.deref.result.now _ (now (g.D.Dir.history c.args.dir.now)) (now (g.D.Dir.history c.seal_with.new.dir)) (now (g.D.Dir.history c.give_up.new.dir)) has rises c.give_up.ensures.answer.later (c.give_up.ensures.gone sealed c.deref.result.now named))

pub returns-in-Err-clause-moments : goal.returns-in-Err-clause-moments
returns-in-Err-clause-moments g c = λ honest t before none m source.
    let s = c.args.chunks.now in
    let bytes = journal_bytes (flat_map chunk_records s.chunks) in
    let can = can_open s c.in_ok-told.ensures.told c.in_ok-told.ensures.records c.in_ok-told.ensures.next in
    let name = c.deref.ensures.value ∙ c.in_ok-prepared.ensures.name in
    let seal = c.deref-3.ensures.value ∙ c.in_ok-told.ensures.seal in
    let give = gives (g.D.Dir.opened c.args.dir.now) (now (g.D.Dir.history c.args.dir.now)) c.args.path.now c.args.number c.deref.result.now c.args.places.now s c.deref-2.result.now c.in_ok-told.told.pieces.items c.args.from name c.deref-2.ensures.value c.in_ok-told.ensures.bytes c.in_ok-told.ensures.within source in
    let after = c.in_ok-file.ensures.honest honest in
    let sealed = c.in-Err.ensures.honest after in
    let named = c.in-Err.ensures.opened c.in_ok-file.file ∙ c.in_ok-file.ensures.opened in
    let any = c.in_ok-file.ensures.any honest in
    let some = c.in-Err.ensures.err after c.deref.result.now c.in_ok-file.ensures.opened in
    let has = new_more c.deref.result.now any.bytes c.deref-3.result.now (now (g.D.Dir.history c.args.dir.now)) (now (g.D.Dir.history c.make.new.dir)) (now (g.D.Dir.history c.seal_with.new.dir)) any.new some in
    let so_far = sealing c.args.path.now c.args.number s can c.deref.result.now bytes c.requires.first c.ranges.number.fits name refl t m (g.D.Dir.history c.args.dir.now) (g.D.Dir.history c.make.new.dir) none before (c.make.ensures.moments honest bytes give)
    c.in_ok-file.file c.in_ok-told.told.places c.in_ok-told.ensures.places c.deref-3.result.now seal (c.in_ok-file.ensures.ok honest bytes give) (g.D.Dir.history c.seal_with.new.dir) (c.seal_with.ensures.moments after c.deref.result.now c.in_ok-file.ensures.opened) in
    given_up (OpensWithin c.args.path.now t) (g.D.Dir.fault_count c.seal_with.new.dir) (g.D.Dir.fault_count c.give_up.new.dir) c.deref.result.now (g.D.Dir.history c.args.dir.now) (g.D.Dir.history c.seal_with.new.dir) (g.D.Dir.history c.give_up.new.dir) so_far (c.give_up.ensures.time sealed)
    (new_young c.deref.result.now _ (now (g.D.Dir.history c.args.dir.now)) (now (g.D.Dir.history c.seal_with.new.dir)) has) (c.give_up.ensures.gone sealed c.deref.result.now named)

pub returns-in-Err-clause-elsewhere : goal.returns-in-Err-clause-elsewhere
returns-in-Err-clause-elsewhere g c = λ honest other differ.
    let name = c.deref.ensures.value ∙ c.in_ok-prepared.ensures.name in
    let after = c.in_ok-file.ensures.honest honest in
    let sealed = c.in-Err.ensures.honest after in
    let named = c.in-Err.ensures.opened c.in_ok-file.file ∙ c.in_ok-file.ensures.opened in
    let any = c.in_ok-file.ensures.any honest in
    let some = c.in-Err.ensures.err after c.deref.result.now c.in_ok-file.ensures.opened in
    let has = new_more c.deref.result.now any.bytes c.deref-3.result.now (now (g.D.Dir.history c.args.dir.now)) (now (g.D.Dir.history c.make.new.dir)) (now (g.D.Dir.history c.seal_with.new.dir)) any.new some in
    others_stay (g.D.Dir.fault_count c.seal_with.new.dir) (g.D.Dir.fault_count c.give_up.new.dir) c.deref.result.now other (now (g.D.Dir.history c.seal_with.new.dir)) (now (g.D.Dir.history c.give_up.new.dir)) (λ e. differ (e ∙ name)) (c.give_up.ensures.gone sealed c.deref.result.now named)
    ∙ new_elsewhere c.deref.result.now _ other (now (g.D.Dir.history c.args.dir.now)) (now (g.D.Dir.history c.seal_with.new.dir)) (λ e. differ (e ∙ name)) has

pub returns-in-Err-clause-gap : goal.returns-in-Err-clause-gap
returns-in-Err-clause-gap g c = λ honest none all.
    begun_no_gap c.args.path.now c.args.number (now (g.D.Dir.history c.args.dir.now)) (now (g.D.Dir.history c.give_up.new.dir)) c.ranges.number.fits none all (returns-in-Err-clause-elsewhere g c honest)

pub returns-in-Err-clause-kept : goal.returns-in-Err-clause-kept
returns-in-Err-clause-kept g c = λ other own is differ.
    let name = c.deref.ensures.value ∙ c.in_ok-prepared.ensures.name in
    let named = c.in-Err.ensures.opened c.in_ok-file.file ∙ c.in_ok-file.ensures.opened in
    let still = c.in-Err.ensures.opened other ∙ c.in_ok-file.ensures.others other (is_some_name _ _ is) ∙ is in
    c.give_up.ensures.others other (other_file (g.D.Dir.opened c.seal_with.new.dir) c.in_ok-file.file other c.deref.result.now own named still (λ e. differ (e ∙ name))) ∙ still

pub returns-in-Err-clause-cause : goal.returns-in-Err-clause-cause
returns-in-Err-clause-cause g c =
    reason_given {T = Unit {0}} (g.D.Dir.fault_count c.args.dir.now) (g.D.Dir.fault_count c.seal_with.new.dir) (g.D.Dir.fault_count c.give_up.new.dir) c.from.result c.give_up.result
    (reason_dir (g.D.Dir.fault_count c.args.dir.now) (g.D.Dir.fault_count c.make.new.dir) (g.D.Dir.fault_count c.seal_with.new.dir) c.in-Err.refused (Err c.from.result) c.in_ok-file.ensures.cause.passed c.in-Err.ensures.cause (ap Err c.from.ensures)) c.give_up.ensures.answer

pub returns-in-Err-clause-memory : goal.returns-in-Err-clause-memory
returns-in-Err-clause-memory g c = λ honest memory.
    let was = given_as (g.D.Dir.fault_count c.seal_with.new.dir) (g.D.Dir.fault_count c.give_up.new.dir) c.from.result c.give_up.result refusal.Memory c.give_up.ensures.answer (same_err c.give_up.result refusal.Memory memory) memory_no_fault in
    let fault = fault_so c.in-Err.refused c.from.result (same_err c.in-Err.refused dir.Fault c.in-Err.ensures.only) c.from.ensures in
    no_fault c.from.result refusal.Memory was fault memory_no_fault

pub returns-in-Err-clause-whole : goal.returns-in-Err-clause-whole
returns-in-Err-clause-whole g c = λ honest source short.
    let was = given_as (g.D.Dir.fault_count c.seal_with.new.dir) (g.D.Dir.fault_count c.give_up.new.dir) c.from.result c.give_up.result refusal.Damaged c.give_up.ensures.answer (same_err c.give_up.result refusal.Damaged short) damaged_no_fault in
    let fault = fault_so c.in-Err.refused c.from.result (same_err c.in-Err.refused dir.Fault c.in-Err.ensures.only) c.from.ensures in
    no_fault c.from.result refusal.Damaged was fault damaged_no_fault

pub returns-in-Err-clause-not_last : goal.returns-in-Err-clause-not_last
returns-in-Err-clause-not_last g c = λ last.
    let was = given_as (g.D.Dir.fault_count c.seal_with.new.dir) (g.D.Dir.fault_count c.give_up.new.dir) c.from.result c.give_up.result refusal.LastGeneration c.give_up.ensures.answer (same_err c.give_up.result refusal.LastGeneration last) last_no_fault in
    let fault = fault_so c.in-Err.refused c.from.result (same_err c.in-Err.refused dir.Fault c.in-Err.ensures.only) c.from.ensures in
    no_fault c.from.result refusal.LastGeneration was fault last_no_fault

pub returns-in-Ok-clause-gap : goal.returns-in-Ok-clause-gap
returns-in-Ok-clause-gap g c = λ honest none all.
    let name = c.deref.ensures.value ∙ c.in_ok-prepared.ensures.name in
    let after = c.in_ok-file.ensures.honest honest in
    let any = c.in_ok-file.ensures.any honest in
    begun_no_gap c.args.path.now c.args.number (now (g.D.Dir.history c.args.dir.now)) (now (g.D.Dir.history c.seal_with.new.dir)) c.ranges.number.fits none all
    (λ other differ. others_whole c.deref.result.now any.bytes c.deref-3.result.now other (now (g.D.Dir.history c.args.dir.now)) (now (g.D.Dir.history c.make.new.dir)) (now (g.D.Dir.history c.seal_with.new.dir)) (λ e. differ (e ∙ name)) any.new (c.in-Ok.ensures.ok after c.deref.result.now c.in_ok-file.ensures.opened))

pub returns-in-Ok-clause-kept : goal.returns-in-Ok-clause-kept
returns-in-Ok-clause-kept g c = λ other own is differ. c.in-Ok.ensures.opened other ∙ c.in_ok-file.ensures.others other (is_some_name _ _ is) ∙ is

pub returns-in-Ok-clause-ok : goal.returns-in-Ok-clause-ok
returns-in-Ok-clause-ok g c = λ honest none source.
    let s = c.args.chunks.now in
    let bytes = journal_bytes (flat_map chunk_records s.chunks) in
    let can = can_open s c.in_ok-told.ensures.told c.in_ok-told.ensures.records c.in_ok-told.ensures.next in
    let name = c.deref.ensures.value ∙ c.in_ok-prepared.ensures.name in
    let seal = c.deref-3.ensures.value ∙ c.in_ok-told.ensures.seal in
    let give = gives (g.D.Dir.opened c.args.dir.now) (now (g.D.Dir.history c.args.dir.now)) c.args.path.now c.args.number c.deref.result.now c.args.places.now s c.deref-2.result.now c.in_ok-told.told.pieces.items c.args.from name c.deref-2.ensures.value c.in_ok-told.ensures.bytes c.in_ok-told.ensures.within source in
    let after = c.in_ok-file.ensures.honest honest in
    let len : c.in_ok-prepared.prepared.len ≡ length bytes + length c.deref-3.result.now = omega (arith, c.in_ok-prepared.ensures.len, c.in_ok-told.ensures.len, ap length c.deref-3.ensures.value) in
    ends c.args.path.now c.args.number s can c.deref.result.now bytes c.requires.first c.ranges.number.fits name refl _ (now (g.D.Dir.history c.args.dir.now)) (now (g.D.Dir.history c.make.new.dir)) (now (g.D.Dir.history c.seal_with.new.dir)) c.deref-3.result.now c.in_ok-prepared.ensures.path refl len c.in_ok-told.ensures.places seal none
    (c.in_ok-file.ensures.ok honest bytes give) (c.in-Ok.ensures.ok after c.deref.result.now c.in_ok-file.ensures.opened)

pub returns-in-Ok-clause-there : goal.returns-in-Ok-clause-there
returns-in-Ok-clause-there g c = λ honest.
    let name = c.deref.ensures.value ∙ c.in_ok-prepared.ensures.name in
    let after = c.in_ok-file.ensures.honest honest in
    let any = c.in_ok-file.ensures.any honest in
    new_reads c.args.path.now c.args.number c.deref.result.now any.bytes c.deref-3.result.now (now (g.D.Dir.history c.args.dir.now)) (now (g.D.Dir.history c.make.new.dir)) (now (g.D.Dir.history c.seal_with.new.dir)) name any.new (c.in-Ok.ensures.ok after c.deref.result.now c.in_ok-file.ensures.opened)

pub returns-in-Ok-clause-elsewhere : goal.returns-in-Ok-clause-elsewhere
returns-in-Ok-clause-elsewhere g c = λ honest other differ.
    let name = c.deref.ensures.value ∙ c.in_ok-prepared.ensures.name in
    let after = c.in_ok-file.ensures.honest honest in
    let any = c.in_ok-file.ensures.any honest in
    others_whole c.deref.result.now any.bytes c.deref-3.result.now other (now (g.D.Dir.history c.args.dir.now)) (now (g.D.Dir.history c.make.new.dir)) (now (g.D.Dir.history c.seal_with.new.dir)) (λ e. differ (e ∙ name)) any.new (c.in-Ok.ensures.ok after c.deref.result.now c.in_ok-file.ensures.opened)

pub returns-in-Ok-clause-moments : goal.returns-in-Ok-clause-moments
returns-in-Ok-clause-moments g c = λ honest t before none m source.
    let s = c.args.chunks.now in
    let bytes = journal_bytes (flat_map chunk_records s.chunks) in
    let can = can_open s c.in_ok-told.ensures.told c.in_ok-told.ensures.records c.in_ok-told.ensures.next in
    let name = c.deref.ensures.value ∙ c.in_ok-prepared.ensures.name in
    let seal = c.deref-3.ensures.value ∙ c.in_ok-told.ensures.seal in
    let give = gives (g.D.Dir.opened c.args.dir.now) (now (g.D.Dir.history c.args.dir.now)) c.args.path.now c.args.number c.deref.result.now c.args.places.now s c.deref-2.result.now c.in_ok-told.told.pieces.items c.args.from name c.deref-2.ensures.value c.in_ok-told.ensures.bytes c.in_ok-told.ensures.within source in
    let after = c.in_ok-file.ensures.honest honest in
    sealing c.args.path.now c.args.number s can c.deref.result.now bytes c.requires.first c.ranges.number.fits name refl t m (g.D.Dir.history c.args.dir.now) (g.D.Dir.history c.make.new.dir) none before (c.make.ensures.moments honest bytes give)
    c.in_ok-file.file c.in_ok-told.told.places c.in_ok-told.ensures.places c.deref-3.result.now seal (c.in_ok-file.ensures.ok honest bytes give) (g.D.Dir.history c.seal_with.new.dir) (c.seal_with.ensures.moments after c.deref.result.now c.in_ok-file.ensures.opened)

pub returns-in-Ok-clause-state : goal.returns-in-Ok-clause-state
returns-in-Ok-clause-state g c =
    (can_open c.args.chunks.now c.in_ok-told.ensures.told c.in_ok-told.ensures.records c.in_ok-told.ensures.next).leads

pub returns-in_err-told-clause-ok : goal.returns-in_err-told-clause-ok
returns-in_err-told-clause-ok g c = λ honest none source. err_no_value refusal.Memory c.from_residual.result _ c.from_residual.ensures.1

pub returns-in_err-told-clause-path : goal.returns-in_err-told-clause-path
returns-in_err-told-clause-path g c = err_no_value refusal.Memory c.from_residual.result _ c.from_residual.ensures.1

pub returns-in_err-told-clause-number : goal.returns-in_err-told-clause-number
returns-in_err-told-clause-number g c = err_no_value refusal.Memory c.from_residual.result _ c.from_residual.ensures.1

pub returns-in_err-told-clause-open : goal.returns-in_err-told-clause-open
returns-in_err-told-clause-open g c = err_no_value refusal.Memory c.from_residual.result _ c.from_residual.ensures.1

pub returns-in_err-told-clause-whole : goal.returns-in_err-told-clause-whole
returns-in_err-told-clause-whole g c = λ honest source is. not_err refusal.Memory refusal.Damaged c.from_residual.result (answered refusal.Memory c.from_residual.result c.from_residual.ensures.1) memory_undamaged is

pub returns-in_err-told-clause-not_last : goal.returns-in_err-told-clause-not_last
returns-in_err-told-clause-not_last g c = λ is. not_err refusal.Memory refusal.LastGeneration c.from_residual.result (answered refusal.Memory c.from_residual.result c.from_residual.ensures.1) memory_numbered is

pub returns-in_err-told-clause-cause : goal.returns-in_err-told-clause-cause
returns-in_err-told-clause-cause g c = reason_memory _ _ c.from_residual.result refl (answered refusal.Memory c.from_residual.result c.from_residual.ensures.1)

pub returns-in_err-told-clause-memory : goal.returns-in_err-told-clause-memory
returns-in_err-told-clause-memory g c = λ honest is name. refl

pub returns-in_err-told-clause-elsewhere : goal.returns-in_err-told-clause-elsewhere
returns-in_err-told-clause-elsewhere g c = λ honest name differ. refl

pub returns-in_err-told-clause-kept : goal.returns-in_err-told-clause-kept
returns-in_err-told-clause-kept g c = λ other name is differ. is

pub returns-in_err-prepared-clause-ok : goal.returns-in_err-prepared-clause-ok
returns-in_err-prepared-clause-ok g c = λ honest none source. err_no_value refusal.Memory c.from_residual-in_err-prepared.result _ c.from_residual-in_err-prepared.ensures.1

pub returns-in_err-prepared-clause-path : goal.returns-in_err-prepared-clause-path
returns-in_err-prepared-clause-path g c = err_no_value refusal.Memory c.from_residual-in_err-prepared.result _ c.from_residual-in_err-prepared.ensures.1

pub returns-in_err-prepared-clause-number : goal.returns-in_err-prepared-clause-number
returns-in_err-prepared-clause-number g c = err_no_value refusal.Memory c.from_residual-in_err-prepared.result _ c.from_residual-in_err-prepared.ensures.1

pub returns-in_err-prepared-clause-open : goal.returns-in_err-prepared-clause-open
returns-in_err-prepared-clause-open g c = err_no_value refusal.Memory c.from_residual-in_err-prepared.result _ c.from_residual-in_err-prepared.ensures.1

pub returns-in_err-prepared-clause-whole : goal.returns-in_err-prepared-clause-whole
returns-in_err-prepared-clause-whole g c = λ honest source is. not_err refusal.Memory refusal.Damaged c.from_residual-in_err-prepared.result (answered refusal.Memory c.from_residual-in_err-prepared.result c.from_residual-in_err-prepared.ensures.1) memory_undamaged is

pub returns-in_err-prepared-clause-not_last : goal.returns-in_err-prepared-clause-not_last
returns-in_err-prepared-clause-not_last g c = λ is. not_err refusal.Memory refusal.LastGeneration c.from_residual-in_err-prepared.result (answered refusal.Memory c.from_residual-in_err-prepared.result c.from_residual-in_err-prepared.ensures.1) memory_numbered is

pub returns-in_err-prepared-clause-cause : goal.returns-in_err-prepared-clause-cause
returns-in_err-prepared-clause-cause g c = reason_memory _ _ c.from_residual-in_err-prepared.result refl (answered refusal.Memory c.from_residual-in_err-prepared.result c.from_residual-in_err-prepared.ensures.1)

pub returns-in_err-prepared-clause-memory : goal.returns-in_err-prepared-clause-memory
returns-in_err-prepared-clause-memory g c = λ honest is name. refl

pub returns-in_err-prepared-clause-elsewhere : goal.returns-in_err-prepared-clause-elsewhere
returns-in_err-prepared-clause-elsewhere g c = λ honest name differ. refl

pub returns-in_err-prepared-clause-kept : goal.returns-in_err-prepared-clause-kept
returns-in_err-prepared-clause-kept g c = λ other name is differ. is

pub returns-in_err-file-clause-ok : goal.returns-in_err-file-clause-ok
returns-in_err-file-clause-ok g c = λ honest none source. err_no_value c.in_err-file.field-0.0 c.from_residual-in_err-file.result _ c.from_residual-in_err-file.ensures.1

pub returns-in_err-file-clause-path : goal.returns-in_err-file-clause-path
returns-in_err-file-clause-path g c = err_no_value c.in_err-file.field-0.0 c.from_residual-in_err-file.result _ c.from_residual-in_err-file.ensures.1

pub returns-in_err-file-clause-number : goal.returns-in_err-file-clause-number
returns-in_err-file-clause-number g c = err_no_value c.in_err-file.field-0.0 c.from_residual-in_err-file.result _ c.from_residual-in_err-file.ensures.1

pub returns-in_err-file-clause-open : goal.returns-in_err-file-clause-open
returns-in_err-file-clause-open g c = err_no_value c.in_err-file.field-0.0 c.from_residual-in_err-file.result _ c.from_residual-in_err-file.ensures.1

pub returns-in-Ok-clause-cause : goal.returns-in-Ok-clause-cause
returns-in-Ok-clause-cause g c = reason_ok _ _ _ refusal.Fault (c.in-Ok.ensures.cause.passed ∙ c.in_ok-file.ensures.cause.passed)

pub tell_chunks-requires : goal.tell_chunks-requires
tell_chunks-requires g c = c.requires.tags

pub make-requires-clause-source : goal.make-requires-clause-source
make-requires-clause-source g c = c.requires.source

pub make-requires-clause-some : goal.make-requires-clause-some
make-requires-clause-some g c = subst (λ (b : List ℕ). 0 < length b) (sym c.deref_mut.ensures.value) c.in_ok-prepared.ensures.some

pub seal_with-requires-clause-open : goal.seal_with-requires-clause-open
seal_with-requires-clause-open g c = is_some_name _ _ c.in_ok-file.ensures.opened

pub seal_with-requires-clause-room : goal.seal_with-requires-clause-room
seal_with-requires-clause-room g c = subst (λ (n : ℕ). n ≤ g.D.Dir.bytes_left c.make.new.dir c.in_ok-file.file) (c.len.ensures ∙ sym c.deref-3.ensures.len) c.in_ok-file.ensures.room

pub returns-in_err-told-clause-honest : goal.returns-in_err-told-clause-honest
returns-in_err-told-clause-honest g c = λ honest. honest

pub returns-in_err-told-clause-there : goal.returns-in_err-told-clause-there
returns-in_err-told-clause-there g c = λ honest. err_no_ok refusal.Memory c.from_residual.result _ c.from_residual.ensures.1

pub returns-in_err-told-clause-state : goal.returns-in_err-told-clause-state
returns-in_err-told-clause-state g c = err_no_ok refusal.Memory c.from_residual.result _ c.from_residual.ensures.1

pub returns-in_err-told-clause-others : goal.returns-in_err-told-clause-others
returns-in_err-told-clause-others g c = err_no_ok refusal.Memory c.from_residual.result _ c.from_residual.ensures.1

pub returns-in_err-prepared-clause-honest : goal.returns-in_err-prepared-clause-honest
returns-in_err-prepared-clause-honest g c = λ honest. honest

pub returns-in_err-prepared-clause-there : goal.returns-in_err-prepared-clause-there
returns-in_err-prepared-clause-there g c = λ honest. err_no_ok refusal.Memory c.from_residual-in_err-prepared.result _ c.from_residual-in_err-prepared.ensures.1

pub returns-in_err-prepared-clause-state : goal.returns-in_err-prepared-clause-state
returns-in_err-prepared-clause-state g c = err_no_ok refusal.Memory c.from_residual-in_err-prepared.result _ c.from_residual-in_err-prepared.ensures.1

pub returns-in_err-prepared-clause-others : goal.returns-in_err-prepared-clause-others
returns-in_err-prepared-clause-others g c = err_no_ok refusal.Memory c.from_residual-in_err-prepared.result _ c.from_residual-in_err-prepared.ensures.1

pub returns-in_err-file-clause-honest : goal.returns-in_err-file-clause-honest
returns-in_err-file-clause-honest g c = c.in_err-file.ensures.honest

pub returns-in_err-file-clause-there : goal.returns-in_err-file-clause-there
returns-in_err-file-clause-there g c = λ honest. err_no_ok c.in_err-file.field-0.0 c.from_residual-in_err-file.result _ c.from_residual-in_err-file.ensures.1

pub returns-in_err-file-clause-state : goal.returns-in_err-file-clause-state
returns-in_err-file-clause-state g c = err_no_ok c.in_err-file.field-0.0 c.from_residual-in_err-file.result _ c.from_residual-in_err-file.ensures.1

pub returns-in_err-file-clause-others : goal.returns-in_err-file-clause-others
returns-in_err-file-clause-others g c = err_no_ok c.in_err-file.field-0.0 c.from_residual-in_err-file.result _ c.from_residual-in_err-file.ensures.1

pub returns-in-Err-clause-ok : goal.returns-in-Err-clause-ok
returns-in-Err-clause-ok g c = λ honest none source. tt

pub returns-in-Err-clause-there : goal.returns-in-Err-clause-there
returns-in-Err-clause-there g c = λ honest. tt

pub returns-in-Err-clause-state : goal.returns-in-Err-clause-state
returns-in-Err-clause-state g c = tt

pub returns-in-Err-clause-path : goal.returns-in-Err-clause-path
returns-in-Err-clause-path g c = tt

pub returns-in-Err-clause-number : goal.returns-in-Err-clause-number
returns-in-Err-clause-number g c = tt

pub returns-in-Err-clause-open : goal.returns-in-Err-clause-open
returns-in-Err-clause-open g c = tt

pub returns-in-Err-clause-others : goal.returns-in-Err-clause-others
returns-in-Err-clause-others g c = tt

pub returns-in-Ok-clause-honest : goal.returns-in-Ok-clause-honest
returns-in-Ok-clause-honest g c = λ honest. c.in-Ok.ensures.honest (c.in_ok-file.ensures.honest honest)

pub returns-in-Ok-clause-left : goal.returns-in-Ok-clause-left
returns-in-Ok-clause-left g c = λ honest source. tt

pub returns-in-Ok-clause-whole : goal.returns-in-Ok-clause-whole
returns-in-Ok-clause-whole g c = λ honest source is. ok_no_err _ _ is

pub returns-in-Ok-clause-not_last : goal.returns-in-Ok-clause-not_last
returns-in-Ok-clause-not_last g c = λ is. ok_no_err _ _ is

pub returns-in-Ok-clause-memory : goal.returns-in-Ok-clause-memory
returns-in-Ok-clause-memory g c = λ honest is. absurd (ok_no_err _ _ is)

pub returns-in-Ok-clause-path : goal.returns-in-Ok-clause-path
returns-in-Ok-clause-path g c = c.in_ok-prepared.ensures.path

pub returns-in-Ok-clause-number : goal.returns-in-Ok-clause-number
returns-in-Ok-clause-number g c = refl

pub returns-in-Ok-clause-open : goal.returns-in-Ok-clause-open
returns-in-Ok-clause-open g c =
    let name = c.deref.ensures.value ∙ c.in_ok-prepared.ensures.name in
    c.in-Ok.ensures.opened c.in_ok-file.file ∙ c.in_ok-file.ensures.opened ∙ ap Some (name ∙ ap (λ (p : List ℕ). journal_name p c.args.number) (sym c.in_ok-prepared.ensures.path))

pub returns-in-Ok-clause-others : goal.returns-in-Ok-clause-others
returns-in-Ok-clause-others g c = λ other some. c.in-Ok.ensures.opened other ∙ c.in_ok-file.ensures.others other some
