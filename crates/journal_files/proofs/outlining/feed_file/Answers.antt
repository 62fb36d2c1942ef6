use Rattle.std.proofs.Common.{rules, ℕ, ◌≡◌, ◌+◌, ◌≤◌, ◌<◌, ◌^◌, ◌++◌, length, drop, subst, refl, ◌∙◌, arith}
use Rattle.journal_files.specs.Faults.{dir_error}
use Rattle.journal_files.specs.declared.error.JournalError.TheVariants as refusal
use Rattle.file_pieces.proofs.ReadOn.{elapsed}
use Rattle.journal_files.proofs.Heard.{Feeds, stays_some, damaged_there, same_on, feeds_on, all_fed, some_left}
use Rattle.journal_files.proofs.Reasons.{answered, reason_ok, reason_err, reason_dir, dir_undamaged, dir_numbered}
use Rattle.journal_files.proofs.Wanting.{reason_memory, not_err, err_no_ok, err_no_value, err_same, err_was, ok_no_err, memory_undamaged, memory_numbered}
use Rattle.journal_files.proofs.outlining.feed_file.Goals as goal

pub returns-in_err-len-clause-cause : goal.returns-in_err-len-clause-cause
returns-in_err-len-clause-cause g c =
    reason_dir (g.D.Dir.fault_count c.args.dir.now) (g.D.Dir.fault_count c.args.dir.now) (g.D.Dir.fault_count c.length.new.self) c.in_err-len.field-0.0 c.from_residual.result refl c.in_err-len.ensures.device.cause
    (answered (dir_error c.in_err-len.field-0.0) c.from_residual.result c.from_residual.ensures.1)

pub feed_part-requires-clause-open : goal.feed_part-requires-clause-open
feed_part-requires-clause-open g c =
    stays_some g.D.Dir.is_honest g.D.Dir.history g.D.Dir.opened g.D.Dir.fault_count c.args.file c.in_ok-len.len c.loop-done.done c.loop-done.outline c.args.dir.now c.loop-done.dir c.loop-done.invariant.2 c.requires

pub returns-in_err-feed_part-clause-honest : goal.returns-in_err-feed_part-clause-honest
returns-in_err-feed_part-clause-honest g c = λ h. c.feed_part.ensures.honest (c.loop-done.invariant.2.is_honest h)

pub returns-in_err-feed_part-clause-time : goal.returns-in_err-feed_part-clause-time
returns-in_err-feed_part-clause-time g c = λ h.
    let so = c.loop-done.invariant.2 in
    elapsed (g.D.Dir.history c.args.dir.now) (g.D.Dir.history c.loop-done.dir) (g.D.Dir.history c.feed_part.new.dir) (so.time h) (c.feed_part.ensures.time (so.is_honest h)) (c.feed_part.ensures.same (so.is_honest h))

pub returns-in_err-feed_part-clause-same : goal.returns-in_err-feed_part-clause-same
returns-in_err-feed_part-clause-same g c = λ h.
    let so = c.loop-done.invariant.2 in
    same_on g.D.Dir.is_honest g.D.Dir.history g.D.Dir.opened g.D.Dir.fault_count c.args.file c.in_ok-len.len c.loop-done.done c.loop-done.outline c.args.dir.now c.loop-done.dir so c.feed_part.new.dir h (c.feed_part.ensures.same (so.is_honest h))

pub returns-in_err-feed_part-clause-damaged : goal.returns-in_err-feed_part-clause-damaged
returns-in_err-feed_part-clause-damaged g c = λ h name bytes named there is.
    let next = length c.split_at_mut-part.result.0.now in
    let within : c.loop-done.done + next ≤ c.in_ok-len.len = omega (arith, c.split_at_mut-part.ensures.front_len, c.min-next.ensures, c.loop-done-test.true) in
    let small : c.in_ok-len.len < 2 ^ 64 = search rules in
    let answer = answered c.in_err-feed_part.field-0.0 c.from_residual-in_err-feed_part.result c.from_residual-in_err-feed_part.ensures.1 in
    let e = err_was c.in_err-feed_part.field-0.0 refusal.Damaged c.from_residual-in_err-feed_part.result answer is in
    damaged_there g.D.Dir.is_honest g.D.Dir.history g.D.Dir.opened g.D.Dir.fault_count c.args.file c.in_ok-len.len c.loop-done.done c.loop-done.outline c.args.dir.now c.loop-done.dir c.loop-done.invariant.2 next within small
    (λ still other seen all there_named there_reads has after. c.in_err-feed_part.ensures.damaged still other seen all there_named there_reads has after e) h name bytes named there

pub returns-in_err-feed_part-clause-cause : goal.returns-in_err-feed_part-clause-cause
returns-in_err-feed_part-clause-cause g c =
    reason_err (g.D.Dir.fault_count c.args.dir.now) (g.D.Dir.fault_count c.loop-done.dir) (g.D.Dir.fault_count c.feed_part.new.dir) c.in_err-feed_part.field-0.0 refusal.Fault c.from_residual-in_err-feed_part.result c.loop-done.invariant.2.quiet c.in_err-feed_part.ensures.cause
    (answered c.in_err-feed_part.field-0.0 c.from_residual-in_err-feed_part.result c.from_residual-in_err-feed_part.ensures.1)

pub loop-done-preserved : goal.loop-done-preserved
loop-done-preserved g c =
    let next = length c.split_at_mut-part.result.0.now in
    let is : next ≡ c.min-next.result = omega (arith, c.split_at_mut-part.ensures.front_len, c.min-next.ensures) in
    let within : c.loop-done.done + next ≤ c.in_ok-len.len = omega (arith, is, c.min-next.ensures, c.loop-done-test.true) in
    let small : c.in_ok-len.len < 2 ^ 64 = search rules in
    let some : 0 < c.in_ok-len.len = omega (arith, c.loop-done-test.true) in
    let filled : 0 < length c.loop-done.buffer.items = c.loop-done.invariant.1 some in
    let room : 0 < c.loop-done.buffer.len = search (rules, filled) in
    let any : 0 < length c.feed_part.new.part = omega (arith, c.feed_part.ensures.len, is, c.min-next.ensures, c.loop-done-test.true, room, c.len.ensures) in
    let so = c.in_ok-feed_part.ensures in (
      omega (arith, within, is),
      λ _. some_left c.loop-done.buffer.len c.feed_part.new.part c.split_at_mut-part.result.1.now (drop (length (c.feed_part.new.part ++ c.split_at_mut-part.result.1.now)) c.loop-done.buffer.items) room any,
      subst (λ (n : ℕ). Feeds g.D.Dir.is_honest g.D.Dir.history g.D.Dir.opened g.D.Dir.fault_count c.args.file c.in_ok-len.len (c.loop-done.done + n) c.feed_part.new.outline c.args.dir.now c.feed_part.new.dir) is
          (feeds_on g.D.Dir.is_honest g.D.Dir.history g.D.Dir.opened g.D.Dir.fault_count c.args.file c.in_ok-len.len c.loop-done.done c.loop-done.outline c.args.dir.now c.loop-done.dir c.loop-done.invariant.2 next c.feed_part.new.dir c.feed_part.new.outline within small
          so.honest so.time so.same so.opened so.cause.passed so.heard so.fed so.all),
    )

pub returns-clause-all : goal.returns-clause-all
returns-clause-all g c =
    let whole : c.in_ok-len.len ≤ c.loop-done.done = omega (arith, c.loop-done-test.false) in
    all_fed g.D.Dir.is_honest g.D.Dir.history g.D.Dir.opened g.D.Dir.fault_count c.args.file c.in_ok-len.len c.loop-done.done c.loop-done.outline c.args.dir.now c.loop-done.dir c.loop-done.invariant.2 whole

pub returns-clause-small : goal.returns-clause-small
returns-clause-small g c = λ h name bytes named there.
    let small : c.in_ok-len.len < 2 ^ 64 = search rules in
    omega (arith, small, c.loop-done.invariant.2.all h name bytes named there)

pub returns-clause-cause : goal.returns-clause-cause
returns-clause-cause g c = reason_ok (g.D.Dir.fault_count c.args.dir.now) (g.D.Dir.fault_count c.loop-done.dir) c.loop-done.outline refusal.Fault c.loop-done.invariant.2.quiet

pub returns-in_err-len-clause-honest : goal.returns-in_err-len-clause-honest
returns-in_err-len-clause-honest g c = c.in_err-len.ensures.device.honest

pub returns-in_err-len-clause-time : goal.returns-in_err-len-clause-time
returns-in_err-len-clause-time g c = c.in_err-len.ensures.device.time

pub returns-in_err-len-clause-same : goal.returns-in_err-len-clause-same
returns-in_err-len-clause-same g c = c.in_err-len.ensures.same

pub returns-in_err-len-clause-opened : goal.returns-in_err-len-clause-opened
returns-in_err-len-clause-opened g c = c.in_err-len.ensures.opened

pub returns-in_err-len-clause-heard : goal.returns-in_err-len-clause-heard
returns-in_err-len-clause-heard g c = err_no_value (dir_error c.in_err-len.field-0.0) c.from_residual.result _ c.from_residual.ensures.1

pub returns-in_err-len-clause-all : goal.returns-in_err-len-clause-all
returns-in_err-len-clause-all g c = λ h name bytes named there. err_no_value (dir_error c.in_err-len.field-0.0) c.from_residual.result _ c.from_residual.ensures.1

pub returns-in_err-len-clause-small : goal.returns-in_err-len-clause-small
returns-in_err-len-clause-small g c = λ h name bytes named there. err_no_ok (dir_error c.in_err-len.field-0.0) c.from_residual.result _ c.from_residual.ensures.1

pub returns-in_err-len-clause-damaged : goal.returns-in_err-len-clause-damaged
returns-in_err-len-clause-damaged g c = λ h name bytes named there is. absurd (dir_undamaged c.in_err-len.field-0.0 (err_same (dir_error c.in_err-len.field-0.0) refusal.Damaged c.from_residual.result (answered (dir_error c.in_err-len.field-0.0) c.from_residual.result c.from_residual.ensures.1) is))

pub returns-in_err-len-clause-not_last : goal.returns-in_err-len-clause-not_last
returns-in_err-len-clause-not_last g c = λ is. dir_numbered c.in_err-len.field-0.0 (err_same (dir_error c.in_err-len.field-0.0) refusal.LastGeneration c.from_residual.result (answered (dir_error c.in_err-len.field-0.0) c.from_residual.result c.from_residual.ensures.1) is)

pub returns-in_err-buffer-clause-honest : goal.returns-in_err-buffer-clause-honest
returns-in_err-buffer-clause-honest g c = c.in_ok-len.ensures.device.honest

pub returns-in_err-buffer-clause-time : goal.returns-in_err-buffer-clause-time
returns-in_err-buffer-clause-time g c = c.in_ok-len.ensures.device.time

pub returns-in_err-buffer-clause-same : goal.returns-in_err-buffer-clause-same
returns-in_err-buffer-clause-same g c = c.in_ok-len.ensures.same

pub returns-in_err-buffer-clause-opened : goal.returns-in_err-buffer-clause-opened
returns-in_err-buffer-clause-opened g c = c.in_ok-len.ensures.opened

pub returns-in_err-buffer-clause-heard : goal.returns-in_err-buffer-clause-heard
returns-in_err-buffer-clause-heard g c = err_no_value refusal.Memory c.from_residual-in_err-buffer.result _ c.from_residual-in_err-buffer.ensures.1

pub returns-in_err-buffer-clause-all : goal.returns-in_err-buffer-clause-all
returns-in_err-buffer-clause-all g c = λ h name bytes named there. err_no_value refusal.Memory c.from_residual-in_err-buffer.result _ c.from_residual-in_err-buffer.ensures.1

pub returns-in_err-buffer-clause-small : goal.returns-in_err-buffer-clause-small
returns-in_err-buffer-clause-small g c = λ h name bytes named there. err_no_ok refusal.Memory c.from_residual-in_err-buffer.result _ c.from_residual-in_err-buffer.ensures.1

pub returns-in_err-buffer-clause-damaged : goal.returns-in_err-buffer-clause-damaged
returns-in_err-buffer-clause-damaged g c = λ h name bytes named there is. absurd (not_err refusal.Memory refusal.Damaged c.from_residual-in_err-buffer.result (answered refusal.Memory c.from_residual-in_err-buffer.result c.from_residual-in_err-buffer.ensures.1) memory_undamaged is)

pub returns-in_err-buffer-clause-not_last : goal.returns-in_err-buffer-clause-not_last
returns-in_err-buffer-clause-not_last g c = λ is. not_err refusal.Memory refusal.LastGeneration c.from_residual-in_err-buffer.result (answered refusal.Memory c.from_residual-in_err-buffer.result c.from_residual-in_err-buffer.ensures.1) memory_numbered is

pub returns-in_err-buffer-clause-cause : goal.returns-in_err-buffer-clause-cause
returns-in_err-buffer-clause-cause g c = reason_memory _ _ c.from_residual-in_err-buffer.result c.in_ok-len.ensures.device.cause.passed (answered refusal.Memory c.from_residual-in_err-buffer.result c.from_residual-in_err-buffer.ensures.1)

pub returns-in_err-feed_part-clause-opened : goal.returns-in_err-feed_part-clause-opened
returns-in_err-feed_part-clause-opened g c = λ other. c.feed_part.ensures.opened other ∙ c.loop-done.invariant.2.stays_open other

pub returns-in_err-feed_part-clause-heard : goal.returns-in_err-feed_part-clause-heard
returns-in_err-feed_part-clause-heard g c = err_no_value c.in_err-feed_part.field-0.0 c.from_residual-in_err-feed_part.result _ c.from_residual-in_err-feed_part.ensures.1

pub returns-in_err-feed_part-clause-all : goal.returns-in_err-feed_part-clause-all
returns-in_err-feed_part-clause-all g c = λ h name bytes named there. err_no_value c.in_err-feed_part.field-0.0 c.from_residual-in_err-feed_part.result _ c.from_residual-in_err-feed_part.ensures.1

pub returns-in_err-feed_part-clause-small : goal.returns-in_err-feed_part-clause-small
returns-in_err-feed_part-clause-small g c = λ h name bytes named there. err_no_ok c.in_err-feed_part.field-0.0 c.from_residual-in_err-feed_part.result _ c.from_residual-in_err-feed_part.ensures.1

pub returns-in_err-feed_part-clause-not_last : goal.returns-in_err-feed_part-clause-not_last
returns-in_err-feed_part-clause-not_last g c = λ is. c.in_err-feed_part.ensures.not_last (err_was c.in_err-feed_part.field-0.0 refusal.LastGeneration c.from_residual-in_err-feed_part.result (answered c.in_err-feed_part.field-0.0 c.from_residual-in_err-feed_part.result c.from_residual-in_err-feed_part.ensures.1) is)

pub returns-clause-honest : goal.returns-clause-honest
returns-clause-honest g c = c.loop-done.invariant.2.is_honest

pub returns-clause-time : goal.returns-clause-time
returns-clause-time g c = c.loop-done.invariant.2.time

pub returns-clause-same : goal.returns-clause-same
returns-clause-same g c = c.loop-done.invariant.2.same

pub returns-clause-opened : goal.returns-clause-opened
returns-clause-opened g c = c.loop-done.invariant.2.stays_open

pub returns-clause-heard : goal.returns-clause-heard
returns-clause-heard g c = c.loop-done.invariant.2.heard

pub returns-clause-damaged : goal.returns-clause-damaged
returns-clause-damaged g c = λ h name bytes named there is. absurd (ok_no_err _ _ is)

pub returns-clause-not_last : goal.returns-clause-not_last
returns-clause-not_last g c = λ is. ok_no_err _ _ is
