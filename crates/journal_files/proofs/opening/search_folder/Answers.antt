use Rattle.std.proofs.Common.{◌≡◌, ℕ, ◌<◌, ◌≤◌, ◌^◌, true, false, List, Option, Ok, refl, ap, subst, sym, ◌∙◌, rules, arith}
use Rattle.std.specs.Prelude.{IsSome, IfSome, IsTrue, ◌↔◌}
use Rattle.std.specs.Ordering.{nat_cmp}
use Rattle.std.specs.BTreeSet.{contains}
use Rattle.disk_files.specs.Disk.{reads, read_of}
use Rattle.disk_files.specs.Moments.{now}
use Rattle.disk_files.specs.declared.dir.FileNo.{FileNo}
use Rattle.buffer_state.specs.State.{State}
use Rattle.buffer_state.specs.Steps.{reopened}
use Rattle.journal_files.specs.Faults.{dir_error}
use Rattle.journal_files.specs.Views.{HasShortTags}
use Rattle.journal_files.specs.Folders.{journal_name, Opens}
use Rattle.chunk_journal.specs.Meaning.{EndsUnsealed, IsDamaged}
use Rattle.journal_files.specs.Found.{IsMeant, IsFound, IsSo}
use Rattle.journal_files.specs.declared.error.JournalError.TheVariants as refusal
use Rattle.file_pieces.proofs.ReadOn.{elapsed}
use Rattle.journal_files.proofs.Reasons.{answered, reason_ok, reason_err, reason_dir, dir_undamaged, dir_numbered}
use Rattle.journal_files.proofs.Renewing.{is_some_name}
use Rattle.journal_files.proofs.Wanting.{reason_quiet, err_no_value, err_same, err_was, same_err, ok_no_err, last_no_fault, last_undamaged}
use Rattle.journal_files.proofs.Searched.{IsTaken, left_first, left_next, damaged_it, opens_it, opens_none, found_so, last_there, below_last, none_in, not_both}
use Rattle.journal_files.proofs.Sourced.{found_source, finds_so}
use Rattle.journal_files.proofs.opening.search_folder.Goals as goal

pub returns-in-Some-2-clause-state : goal.returns-in-Some-2-clause-state
returns-in-Some-2-clause-state g c = λ honest.
    let so_far = c.loop-number.invariant in
    let number = c.in-Some.number in
    let name = journal_name c.args.path.now number in
    let below : number < 2 ^ 32 = search rules in
    let taken : IsTaken number c.loop-number.rest c.pop_last.new.self = record { member = c.in-Some.ensures.member; greatest = c.in-Some.ensures.greatest; others = c.in-Some.ensures.updates.0 } in
    let outlined = c.in-Some-2.meant.outlined in
    let meant = subst (λ (o : Option (List ℕ)). IsMeant o outlined.chunks outlined.places) (ap read_of (so_far.same honest name)) (rw c.in-Some-2.is at (c.in_ok-meant.ensures.meant (so_far.is_honest honest))) in
    subst (Opens c.args.path.now (reads (now (g.D.Dir.history c.args.dir.now)))) (sym c.found_so.ensures.chunks)
    (opens_it c.args.path.now (reads (now (g.D.Dir.history c.args.dir.now))) number c.loop-number.rest c.pop_last.new.self below (so_far.left honest) taken outlined.chunks outlined.places meant)

pub returns-in-Some-2-clause-source : goal.returns-in-Some-2-clause-source
returns-in-Some-2-clause-source g c = λ honest.
    let so_far = c.loop-number.invariant in
    let number = c.in-Some.number in
    let name = journal_name c.args.path.now number in
    let below : number < 2 ^ 32 = search rules in
    let disk = now (g.D.Dir.history c.args.dir.now) in
    let folder = reads disk in
    let outlined = c.in-Some-2.meant.outlined in
    let meant = subst (λ (o : Option (List ℕ)). IsMeant o outlined.chunks outlined.places) (ap read_of (so_far.same honest name)) (rw c.in-Some-2.is at (c.in_ok-meant.ensures.meant (so_far.is_honest honest))) in
    let there = λ (n : ℕ). subst (λ (m : List ℕ). IsTrue (contains nat_cmp c.in_ok-rest.rest n) ↔ ((1 ≤ n) × (n < 2 ^ 32) × IsSome (folder m))) (c.generations.ensures n) (c.in_ok-rest.ensures.numbers honest n) in
    let found : IsFound c.args.path.now folder c.greatest_of-greatest.result = found_so c.args.path.now folder c.in_ok-rest.rest c.greatest_of-greatest.result there c.greatest_of-greatest.ensures.there c.greatest_of-greatest.ensures.above in
    finds_so (g.D.Dir.opened c.read_generation.new.dir) disk c.args.path.now c.greatest_of-greatest.result c.found_so.result.greatest c.in-Some-2.meant.file c.found_so.result.file outlined.places c.found_so.result.places outlined.chunks c.found_so.result.chunks
    c.found_so.ensures.greatest c.found_so.ensures.file c.found_so.ensures.places c.found_so.ensures.chunks
    (found_source (g.D.Dir.opened c.read_generation.new.dir) disk c.args.path.now c.greatest_of-greatest.result number c.in-Some-2.meant.file outlined.places outlined.chunks found below (rw c.in-Some-2.is at c.in_ok-meant.ensures.open) meant)

pub loop-number-init : goal.loop-number-init
loop-number-init g c =
    let numbers = c.in_ok-rest.ensures in record {
      is_honest = λ honest. numbers.device.honest honest;
      time = λ honest. numbers.device.time honest;
      same = λ honest. numbers.same honest;
      quiet = numbers.device.cause.passed;
      left = λ honest.
          let folder = reads (now (g.D.Dir.history c.args.dir.now)) in
          let there = λ (n : ℕ). subst (λ (m : List ℕ). IsTrue (contains nat_cmp c.in_ok-rest.rest n) ↔ ((1 ≤ n) × (n < 2 ^ 32) × IsSome (folder m))) (c.generations.ensures n) (numbers.numbers honest n) in
          left_first c.args.path.now folder c.in_ok-rest.rest there;
    }

pub loop-number-preserved : goal.loop-number-preserved
loop-number-preserved g c =
    let so_far = c.loop-number.invariant in
    let read = c.in_ok-meant.ensures in record {
      is_honest = λ honest. read.honest (so_far.is_honest honest);
      time = λ honest.
          let still = so_far.is_honest honest in
          elapsed (g.D.Dir.history c.args.dir.now) (g.D.Dir.history c.loop-number.dir) (g.D.Dir.history c.read_generation.new.dir) (so_far.time honest) (read.time still) (read.same still);
      same = λ honest name. read.same (so_far.is_honest honest) name ∙ so_far.same honest name;
      quiet = read.cause.passed ∙ so_far.quiet;
      left = λ honest.
          let folder = reads (now (g.D.Dir.history c.args.dir.now)) in
          let number = c.in-Some.number in
          let name = journal_name c.args.path.now number in
          let below : number < 2 ^ 32 = search rules in
          let taken : IsTaken number c.loop-number.rest c.pop_last.new.self = record { member = c.in-Some.ensures.member; greatest = c.in-Some.ensures.greatest; others = c.in-Some.ensures.updates.0 } in
          let so = subst (λ (o : Option (List ℕ)). IsSo o EndsUnsealed) (ap read_of (so_far.same honest name)) (read.unsealed (so_far.is_honest honest) (ap Ok c.in_default-2.is)) in
          left_next c.args.path.now folder number c.loop-number.rest c.pop_last.new.self below (so_far.left honest) taken so;
    }

pub returns-in_err-meant-clause-damaged : goal.returns-in_err-meant-clause-damaged
returns-in_err-meant-clause-damaged g c = λ honest damaged.
    let so_far = c.loop-number.invariant in
    let folder = reads (now (g.D.Dir.history c.args.dir.now)) in
    let number = c.in-Some.number in
    let name = journal_name c.args.path.now number in
    let below : number < 2 ^ 32 = search rules in
    let taken : IsTaken number c.loop-number.rest c.pop_last.new.self = record { member = c.in-Some.ensures.member; greatest = c.in-Some.ensures.greatest; others = c.in-Some.ensures.updates.0 } in
    let answer = answered c.in_err-meant.field-0.0 c.from_residual-in_err-meant.result c.from_residual-in_err-meant.ensures.1 in
    let so = subst (λ (o : Option (List ℕ)). IsSo o IsDamaged) (ap read_of (so_far.same honest name)) (c.in_err-meant.ensures.damaged (so_far.is_honest honest) (err_was c.in_err-meant.field-0.0 refusal.Damaged c.from_residual-in_err-meant.result answer damaged)) in
    damaged_it c.args.path.now folder number c.loop-number.rest c.pop_last.new.self below (so_far.left honest) taken so

pub returns-in_err-meant-clause-unread : goal.returns-in_err-meant-clause-unread
returns-in_err-meant-clause-unread g c = λ honest some _.
    let folder = reads (now (g.D.Dir.history c.args.dir.now)) in
    let there = λ (n : ℕ). subst (λ (m : List ℕ). IsTrue (contains nat_cmp c.in_ok-rest.rest n) ↔ ((1 ≤ n) × (n < 2 ^ 32) × IsSome (folder m))) (c.generations.ensures n) (c.in_ok-rest.ensures.numbers honest n) in
    let less : c.greatest_of-greatest.result < 4294967295 = below_last c.greatest_of-greatest.result c.greatest_of-greatest.result refl c.greatest_of-greatest.type_inv c.if-greatest.false in
    let gone : contains nat_cmp c.in_ok-rest.rest 4294967295 ≡ false = c.greatest_of-greatest.ensures.above 4294967295 less in
    let here : contains nat_cmp c.in_ok-rest.rest 4294967295 ≡ true = (there 4294967295).1 (omega arith, omega arith, some) in
    absurd (not_both (contains nat_cmp c.in_ok-rest.rest 4294967295) gone here)

pub returns-in_err-meant-clause-last : goal.returns-in_err-meant-clause-last
returns-in_err-meant-clause-last g c = λ _ last.
    let answer = answered c.in_err-meant.field-0.0 c.from_residual-in_err-meant.result c.from_residual-in_err-meant.ensures.1 in
    absurd (c.in_err-meant.ensures.not_last (err_was c.in_err-meant.field-0.0 refusal.LastGeneration c.from_residual-in_err-meant.result answer last))

pub returns-clause-source : goal.returns-clause-source
returns-clause-source g c = λ _. ap (λ s. s.chunks) c.new.ensures

pub returns-in_err-rest-clause-honest : goal.returns-in_err-rest-clause-honest
returns-in_err-rest-clause-honest g c = c.in_err-rest.ensures.device.honest

pub returns-in_err-rest-clause-time : goal.returns-in_err-rest-clause-time
returns-in_err-rest-clause-time g c = c.in_err-rest.ensures.device.time

pub returns-in_err-rest-clause-same : goal.returns-in_err-rest-clause-same
returns-in_err-rest-clause-same g c = c.in_err-rest.ensures.same

pub returns-in_err-rest-clause-state : goal.returns-in_err-rest-clause-state
returns-in_err-rest-clause-state g c = λ honest. err_no_value (dir_error c.in_err-rest.field-0.0) c.from_residual.result _ c.from_residual.ensures.1

pub returns-in_err-rest-clause-greatest : goal.returns-in_err-rest-clause-greatest
returns-in_err-rest-clause-greatest g c = λ honest. err_no_value (dir_error c.in_err-rest.field-0.0) c.from_residual.result _ c.from_residual.ensures.1

pub returns-in_err-rest-clause-source : goal.returns-in_err-rest-clause-source
returns-in_err-rest-clause-source g c = λ honest. err_no_value (dir_error c.in_err-rest.field-0.0) c.from_residual.result _ c.from_residual.ensures.1

pub returns-in_err-rest-clause-open : goal.returns-in_err-rest-clause-open
returns-in_err-rest-clause-open g c = err_no_value (dir_error c.in_err-rest.field-0.0) c.from_residual.result _ c.from_residual.ensures.1

pub returns-in_err-rest-clause-tags : goal.returns-in_err-rest-clause-tags
returns-in_err-rest-clause-tags g c = err_no_value (dir_error c.in_err-rest.field-0.0) c.from_residual.result _ c.from_residual.ensures.1

pub returns-in_err-rest-clause-unclaimed : goal.returns-in_err-rest-clause-unclaimed
returns-in_err-rest-clause-unclaimed g c = err_no_value (dir_error c.in_err-rest.field-0.0) c.from_residual.result _ c.from_residual.ensures.1

pub returns-in_err-rest-clause-below : goal.returns-in_err-rest-clause-below
returns-in_err-rest-clause-below g c = err_no_value (dir_error c.in_err-rest.field-0.0) c.from_residual.result _ c.from_residual.ensures.1

pub returns-in_err-rest-clause-damaged : goal.returns-in_err-rest-clause-damaged
returns-in_err-rest-clause-damaged g c = λ honest is. absurd (dir_undamaged c.in_err-rest.field-0.0 (err_same (dir_error c.in_err-rest.field-0.0) refusal.Damaged c.from_residual.result (answered (dir_error c.in_err-rest.field-0.0) c.from_residual.result c.from_residual.ensures.1) is))

pub returns-in_err-rest-clause-last : goal.returns-in_err-rest-clause-last
returns-in_err-rest-clause-last g c = λ honest is. absurd (dir_numbered c.in_err-rest.field-0.0 (err_same (dir_error c.in_err-rest.field-0.0) refusal.LastGeneration c.from_residual.result (answered (dir_error c.in_err-rest.field-0.0) c.from_residual.result c.from_residual.ensures.1) is))

pub returns-in_err-rest-clause-unread : goal.returns-in_err-rest-clause-unread
returns-in_err-rest-clause-unread g c = λ honest some is. dir_undamaged c.in_err-rest.field-0.0 (err_same (dir_error c.in_err-rest.field-0.0) refusal.Damaged c.from_residual.result (answered (dir_error c.in_err-rest.field-0.0) c.from_residual.result c.from_residual.ensures.1) is)

pub returns-in_err-rest-clause-cause : goal.returns-in_err-rest-clause-cause
returns-in_err-rest-clause-cause g c = reason_dir (g.D.Dir.fault_count c.args.dir.now) (g.D.Dir.fault_count c.args.dir.now) (g.D.Dir.fault_count c.numbers.new.dir) c.in_err-rest.field-0.0 c.from_residual.result refl c.in_err-rest.ensures.device.cause (answered (dir_error c.in_err-rest.field-0.0) c.from_residual.result c.from_residual.ensures.1)

pub returns-then-greatest-clause-honest : goal.returns-then-greatest-clause-honest
returns-then-greatest-clause-honest g c = c.in_ok-rest.ensures.device.honest

pub returns-then-greatest-clause-time : goal.returns-then-greatest-clause-time
returns-then-greatest-clause-time g c = c.in_ok-rest.ensures.device.time

pub returns-then-greatest-clause-same : goal.returns-then-greatest-clause-same
returns-then-greatest-clause-same g c = c.in_ok-rest.ensures.same

pub returns-then-greatest-clause-state : goal.returns-then-greatest-clause-state
returns-then-greatest-clause-state g c = λ honest. tt

pub returns-then-greatest-clause-greatest : goal.returns-then-greatest-clause-greatest
returns-then-greatest-clause-greatest g c = λ honest. tt

pub returns-then-greatest-clause-source : goal.returns-then-greatest-clause-source
returns-then-greatest-clause-source g c = λ honest. tt

pub returns-then-greatest-clause-open : goal.returns-then-greatest-clause-open
returns-then-greatest-clause-open g c = tt

pub returns-then-greatest-clause-tags : goal.returns-then-greatest-clause-tags
returns-then-greatest-clause-tags g c = tt

pub returns-then-greatest-clause-unclaimed : goal.returns-then-greatest-clause-unclaimed
returns-then-greatest-clause-unclaimed g c = tt

pub returns-then-greatest-clause-below : goal.returns-then-greatest-clause-below
returns-then-greatest-clause-below g c = tt

pub returns-then-greatest-clause-damaged : goal.returns-then-greatest-clause-damaged
returns-then-greatest-clause-damaged g c = λ honest is. absurd (last_undamaged (same_err refusal.LastGeneration refusal.Damaged is))

pub returns-then-greatest-clause-unread : goal.returns-then-greatest-clause-unread
returns-then-greatest-clause-unread g c = λ honest some is. last_undamaged (same_err refusal.LastGeneration refusal.Damaged is)

pub returns-then-greatest-clause-last : goal.returns-then-greatest-clause-last
returns-then-greatest-clause-last g c = λ honest is.
    let folder = reads (now (g.D.Dir.history c.args.dir.now)) in
    let there = λ (n : ℕ). subst (λ (m : List ℕ). IsTrue (contains nat_cmp c.in_ok-rest.rest n) ↔ ((1 ≤ n) × (n < 2 ^ 32) × IsSome (folder m))) (c.generations.ensures n) (c.in_ok-rest.ensures.numbers honest n) in
    last_there c.args.path.now folder c.greatest_of-greatest.result (found_so c.args.path.now folder c.in_ok-rest.rest c.greatest_of-greatest.result there c.greatest_of-greatest.ensures.there c.greatest_of-greatest.ensures.above) c.if-greatest.true

pub returns-then-greatest-clause-cause : goal.returns-then-greatest-clause-cause
returns-then-greatest-clause-cause g c = reason_quiet _ _ refusal.LastGeneration _ c.in_ok-rest.ensures.device.cause.passed last_no_fault refl

pub returns-in_err-meant-clause-honest : goal.returns-in_err-meant-clause-honest
returns-in_err-meant-clause-honest g c = λ honest. c.in_err-meant.ensures.honest (c.loop-number.invariant.is_honest honest)

pub returns-in_err-meant-clause-time : goal.returns-in_err-meant-clause-time
returns-in_err-meant-clause-time g c = λ honest.
    let so_far = c.loop-number.invariant in
    let still = so_far.is_honest honest in
    elapsed (g.D.Dir.history c.args.dir.now) (g.D.Dir.history c.loop-number.dir) (g.D.Dir.history c.read_generation.new.dir) (so_far.time honest) (c.in_err-meant.ensures.time still) (c.in_err-meant.ensures.same still)

pub returns-in_err-meant-clause-same : goal.returns-in_err-meant-clause-same
returns-in_err-meant-clause-same g c = λ honest name. c.in_err-meant.ensures.same (c.loop-number.invariant.is_honest honest) name ∙ c.loop-number.invariant.same honest name

pub returns-in-Some-2-clause-honest : goal.returns-in-Some-2-clause-honest
returns-in-Some-2-clause-honest g c = λ honest. c.in_ok-meant.ensures.honest (c.loop-number.invariant.is_honest honest)

pub returns-in-Some-2-clause-time : goal.returns-in-Some-2-clause-time
returns-in-Some-2-clause-time g c = λ honest.
    let so_far = c.loop-number.invariant in
    let still = so_far.is_honest honest in
    elapsed (g.D.Dir.history c.args.dir.now) (g.D.Dir.history c.loop-number.dir) (g.D.Dir.history c.read_generation.new.dir) (so_far.time honest) (c.in_ok-meant.ensures.time still) (c.in_ok-meant.ensures.same still)

pub returns-in-Some-2-clause-same : goal.returns-in-Some-2-clause-same
returns-in-Some-2-clause-same g c = λ honest name. c.in_ok-meant.ensures.same (c.loop-number.invariant.is_honest honest) name ∙ c.loop-number.invariant.same honest name

pub returns-in_err-meant-clause-state : goal.returns-in_err-meant-clause-state
returns-in_err-meant-clause-state g c = λ honest. err_no_value c.in_err-meant.field-0.0 c.from_residual-in_err-meant.result _ c.from_residual-in_err-meant.ensures.1

pub returns-in_err-meant-clause-greatest : goal.returns-in_err-meant-clause-greatest
returns-in_err-meant-clause-greatest g c = λ honest. err_no_value c.in_err-meant.field-0.0 c.from_residual-in_err-meant.result _ c.from_residual-in_err-meant.ensures.1

pub returns-in_err-meant-clause-source : goal.returns-in_err-meant-clause-source
returns-in_err-meant-clause-source g c = λ honest. err_no_value c.in_err-meant.field-0.0 c.from_residual-in_err-meant.result _ c.from_residual-in_err-meant.ensures.1

pub returns-in_err-meant-clause-open : goal.returns-in_err-meant-clause-open
returns-in_err-meant-clause-open g c = err_no_value c.in_err-meant.field-0.0 c.from_residual-in_err-meant.result _ c.from_residual-in_err-meant.ensures.1

pub returns-in_err-meant-clause-tags : goal.returns-in_err-meant-clause-tags
returns-in_err-meant-clause-tags g c = err_no_value c.in_err-meant.field-0.0 c.from_residual-in_err-meant.result _ c.from_residual-in_err-meant.ensures.1

pub returns-in_err-meant-clause-unclaimed : goal.returns-in_err-meant-clause-unclaimed
returns-in_err-meant-clause-unclaimed g c = err_no_value c.in_err-meant.field-0.0 c.from_residual-in_err-meant.result _ c.from_residual-in_err-meant.ensures.1

pub returns-in_err-meant-clause-below : goal.returns-in_err-meant-clause-below
returns-in_err-meant-clause-below g c = err_no_value c.in_err-meant.field-0.0 c.from_residual-in_err-meant.result _ c.from_residual-in_err-meant.ensures.1

pub returns-in_err-meant-clause-cause : goal.returns-in_err-meant-clause-cause
returns-in_err-meant-clause-cause g c = reason_err (g.D.Dir.fault_count c.args.dir.now) (g.D.Dir.fault_count c.loop-number.dir) (g.D.Dir.fault_count c.read_generation.new.dir) c.in_err-meant.field-0.0 refusal.Fault c.from_residual-in_err-meant.result c.loop-number.invariant.quiet c.in_err-meant.ensures.cause (answered c.in_err-meant.field-0.0 c.from_residual-in_err-meant.result c.from_residual-in_err-meant.ensures.1)

pub returns-in-Some-2-clause-greatest : goal.returns-in-Some-2-clause-greatest
returns-in-Some-2-clause-greatest g c = λ honest.
    let folder = reads (now (g.D.Dir.history c.args.dir.now)) in
    let there = λ (n : ℕ). subst (λ (m : List ℕ). IsTrue (contains nat_cmp c.in_ok-rest.rest n) ↔ ((1 ≤ n) × (n < 2 ^ 32) × IsSome (folder m))) (c.generations.ensures n) (c.in_ok-rest.ensures.numbers honest n) in
    subst (IsFound c.args.path.now folder) (sym c.found_so.ensures.greatest) (found_so c.args.path.now folder c.in_ok-rest.rest c.greatest_of-greatest.result there c.greatest_of-greatest.ensures.there c.greatest_of-greatest.ensures.above)

pub returns-in-Some-2-clause-open : goal.returns-in-Some-2-clause-open
returns-in-Some-2-clause-open g c = subst (λ (o : Option FileNo). IfSome o (λ file. IsSome (g.D.Dir.opened c.read_generation.new.dir file))) (sym c.found_so.ensures.file) (is_some_name _ _ (rw c.in-Some-2.is at c.in_ok-meant.ensures.open))

pub returns-in-Some-2-clause-tags : goal.returns-in-Some-2-clause-tags
returns-in-Some-2-clause-tags g c = subst HasShortTags (sym c.found_so.ensures.chunks) (rw c.in-Some-2.is at c.in_ok-meant.ensures.tags)

pub returns-in-Some-2-clause-unclaimed : goal.returns-in-Some-2-clause-unclaimed
returns-in-Some-2-clause-unclaimed g c = subst (λ (s : State). reopened s ≡ s) (sym c.found_so.ensures.chunks) (rw c.in-Some-2.is at c.in_ok-meant.ensures.unclaimed)

pub returns-in-Some-2-clause-damaged : goal.returns-in-Some-2-clause-damaged
returns-in-Some-2-clause-damaged g c = λ honest is. absurd (ok_no_err _ _ is)

pub returns-in-Some-2-clause-last : goal.returns-in-Some-2-clause-last
returns-in-Some-2-clause-last g c = λ honest is. absurd (ok_no_err _ _ is)

pub returns-in-Some-2-clause-unread : goal.returns-in-Some-2-clause-unread
returns-in-Some-2-clause-unread g c = λ honest some is. ok_no_err _ _ is

pub returns-clause-damaged : goal.returns-clause-damaged
returns-clause-damaged g c = λ honest is. absurd (ok_no_err _ _ is)

pub returns-clause-last : goal.returns-clause-last
returns-clause-last g c = λ honest is. absurd (ok_no_err _ _ is)

pub returns-clause-unread : goal.returns-clause-unread
returns-clause-unread g c = λ honest some is. ok_no_err _ _ is

pub returns-in-Some-2-clause-cause : goal.returns-in-Some-2-clause-cause
returns-in-Some-2-clause-cause g c = reason_ok _ _ _ refusal.Fault (c.in_ok-meant.ensures.cause.passed ∙ c.loop-number.invariant.quiet)

pub returns-in-Some-2-clause-below : goal.returns-in-Some-2-clause-below
returns-in-Some-2-clause-below g c = below_last c.found_so.result.greatest c.greatest_of-greatest.result c.found_so.ensures.greatest c.greatest_of-greatest.type_inv c.if-greatest.false

pub returns-clause-honest : goal.returns-clause-honest
returns-clause-honest g c = c.loop-number.invariant.is_honest

pub returns-clause-time : goal.returns-clause-time
returns-clause-time g c = c.loop-number.invariant.time

pub returns-clause-same : goal.returns-clause-same
returns-clause-same g c = c.loop-number.invariant.same

pub returns-clause-state : goal.returns-clause-state
returns-clause-state g c = λ honest. opens_none c.args.path.now (reads (now (g.D.Dir.history c.args.dir.now))) c.loop-number.rest _ (c.loop-number.invariant.left honest) (none_in c.loop-number.rest c.in_default.ensures.variant.1) c.new.ensures

pub returns-clause-greatest : goal.returns-clause-greatest
returns-clause-greatest g c = λ honest.
    let folder = reads (now (g.D.Dir.history c.args.dir.now)) in
    let there = λ (n : ℕ). subst (λ (m : List ℕ). IsTrue (contains nat_cmp c.in_ok-rest.rest n) ↔ ((1 ≤ n) × (n < 2 ^ 32) × IsSome (folder m))) (c.generations.ensures n) (c.in_ok-rest.ensures.numbers honest n) in
    found_so c.args.path.now folder c.in_ok-rest.rest c.greatest_of-greatest.result there c.greatest_of-greatest.ensures.there c.greatest_of-greatest.ensures.above

pub returns-clause-open : goal.returns-clause-open
returns-clause-open g c = tt

pub returns-clause-tags : goal.returns-clause-tags
returns-clause-tags g c = subst HasShortTags (sym c.new.ensures) tt

pub returns-clause-unclaimed : goal.returns-clause-unclaimed
returns-clause-unclaimed g c = subst (λ (s : State). reopened s ≡ s) (sym c.new.ensures) refl

pub returns-clause-below : goal.returns-clause-below
returns-clause-below g c = below_last c.greatest_of-greatest.result c.greatest_of-greatest.result refl c.greatest_of-greatest.type_inv c.if-greatest.false

pub returns-clause-cause : goal.returns-clause-cause
returns-clause-cause g c = reason_ok _ _ _ refusal.Fault c.loop-number.invariant.quiet
