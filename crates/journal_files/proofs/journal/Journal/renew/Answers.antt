use Rattle.std.proofs.Common.{rules, refl, inl, ◌≡◌, ◌≢◌, ◌+◌, ◌<◌, ◌^◌, List, ℕ, Ok, Err, ap, subst, sym, ◌∙◌, arith, inr}
use Rattle.disk_files.specs.Disk.{Disk}
use Rattle.disk_files.specs.Moments.{now}
use Rattle.journal_files.specs.Calls.{Renews, LeavesOthers}
use Rattle.journal_files.specs.Faults.{dir_error}
use Rattle.journal_files.specs.declared.error.JournalError.TheVariants as refusal
use Rattle.journal_files.specs.Folders.{journal_name}
use Rattle.journal_files.specs.Views.{OpenJournal}
use Rattle.journal_files.specs.Disks.{HasNoGap}
use Rattle.disk_files.proofs.Moments.{started}
use Rattle.journal_files.proofs.Beginning.{of_all, kept_above}
use Rattle.journal_files.proofs.Begun.{next_no_stray}
use Rattle.journal_files.specs.Leftovers.{IsGivenUp}
use Rattle.journal_files.proofs.Afresh.{said_of}
use Rattle.journal_files.proofs.GivenUp.{at_most}
use Rattle.journal_files.proofs.Reasons.{answered, reason_err, reason_dir, dir_undamaged, dir_numbered, fault_only, fault_remembered}
use Rattle.journal_files.proofs.Wanting.{err_no_ok, err_was, err_same, same_err, ok_no_err, last_remembered, last_undamaged, last_no_fault}
use Rattle.journal_files.proofs.Onward.{onward, own_differs, still, none, all, source, beginning}
use Rattle.journal_files.proofs.Recovery.{recovers}
use Rattle.journal_files.proofs.Renewal.{removal_memory, renews_not, refuses_not}
use Rattle.journal_files.proofs.Renewing.{still_keeps, still_recovers, removing, removed_gone, two_files, is_some_name, others_beyond}
use Rattle.journal_files.proofs.Strays.{kept_no_gap, no_gap_of}
use Rattle.journal_files.proofs.journal.Journal.renew.Goals as goal

-- it is the last generation

pub returns-then-self-clause-renews : goal.returns-then-self-clause-renews
returns-then-self-clause-renews g c = λ honest t keeps means. record {
  ok = tt;
  whole = λ is. last_undamaged (same_err refusal.LastGeneration refusal.Damaged is);
  fault = λ is. absurd (last_no_fault (same_err refusal.LastGeneration refusal.Fault is));
  left = inl (λ q. refl);
  moments = started (g.D.Dir.history c.args.dir.now) _ (recovers c.args.self.now (now (g.D.Dir.history c.args.dir.now)) t keeps);
}

pub returns-then-self-clause-gap : goal.returns-then-self-clause-gap
returns-then-self-clause-gap g c = λ honest t keeps. kept_no_gap c.args.self.now (now (g.D.Dir.history c.args.dir.now)) t keeps

-- the next one isn't begun

pub returns-in_err-next-clause-renews : goal.returns-in_err-next-clause-renews
returns-in_err-next-clause-renews g c = λ honest t keeps means.
    let old = c.args.self.now in
    let path = old.path in
    let first = g.D.Dir.history c.args.dir.now in
    let begun = g.D.Dir.history c.begin.new.dir in
    let small : c.self.inside.len < 2 ^ 64 = search rules in
    let on = onward (g.D.Dir.opened c.args.dir.now) _ old c.deref.result.now c.deref.ensures.value c.self.view_is c.requires.open small (omega (arith, c.if-self.false, c.self.inside.number)) in
    let e = c.in_err-next.field-0.0 in
    let so_far = beginning on keeps c.args.chunks.now means first begun (c.begin.ensures.moments honest t) in
    renews_not old c.args.self.now c.args.chunks.now _ _ first begun t e c.from_residual.result (answered e c.from_residual.result c.from_residual.ensures.1)
    (λ short. c.in_err-next.ensures.whole honest (source on keeps c.args.chunks.now means) (ap Err short))
    (λ fault folder leaves. so_far.each begun.moment so_far.later (omega arith) folder leaves)
    (at_most old.path (old.number + 1) _ _ (now first) (now begun)
    (said_of (λ (p : List ℕ) (k : ℕ). IsGivenUp (g.D.Dir.fault_count c.args.dir.now) (g.D.Dir.fault_count c.begin.new.dir) (journal_name p k) (now first) (now begun)) on.path_is on.number_is
    (c.in_err-next.ensures.left honest (source on keeps c.args.chunks.now means)))) so_far

pub returns-in_err-next-clause-gap : goal.returns-in_err-next-clause-gap
returns-in_err-next-clause-gap g c = λ honest t keeps.
    let small : c.self.inside.len < 2 ^ 64 = search rules in
    let on = onward (g.D.Dir.opened c.args.dir.now) _ c.args.self.now c.deref.result.now c.deref.ensures.value c.self.view_is c.requires.open small (omega (arith, c.if-self.false, c.self.inside.number)) in
    subst (λ (p : List ℕ). HasNoGap p (now (g.D.Dir.history c.begin.new.dir))) on.path_is (c.begin.ensures.gap honest (none on keeps) (all on keeps))

pub returns-in_err-next-clause-refused : goal.returns-in_err-next-clause-refused
returns-in_err-next-clause-refused g c =
    let e = c.in_err-next.field-0.0 in
    refuses_not g.D.Dir.is_honest g.D.Dir.history c.args.self.now c.args.dir.now c.begin.new.dir e c.from_residual.result (answered e c.from_residual.result c.from_residual.ensures.1)
    (λ last. c.in_err-next.ensures.not_last (ap Err last)) (omega (arith, c.if-self.false, c.self.inside.number, ap (λ (j : OpenJournal). j.number) c.self.view_is))
    (λ honest is. c.in_err-next.ensures.memory honest (ap Err is))

pub returns-in_err-next-clause-others : goal.returns-in_err-next-clause-others
returns-in_err-next-clause-others g c =
    let old = c.args.self.now in
    let small : c.self.inside.len < 2 ^ 64 = search rules in
    let on = onward (g.D.Dir.opened c.args.dir.now) _ old c.deref.result.now c.deref.ensures.value c.self.view_is c.requires.open small (omega (arith, c.if-self.false, c.self.inside.number)) in
    let e = c.in_err-next.field-0.0 in
    record {
      honest = c.begin.ensures.honest;
      elsewhere = λ honest name own next. c.begin.ensures.elsewhere honest name (said_of (λ (p : List ℕ) (k : ℕ). name ≢ journal_name p k) (sym on.path_is) (sym on.number_is) next);
      path_is = refl;
      open_in = λ _. c.begin.ensures.kept old.file _ c.requires.open (own_differs on);
      cause = reason_err (g.D.Dir.fault_count c.args.dir.now) (g.D.Dir.fault_count c.args.dir.now) (g.D.Dir.fault_count c.begin.new.dir) e refusal.Fault c.from_residual.result refl c.in_err-next.ensures.cause (answered e c.from_residual.result c.from_residual.ensures.1);
    }

-- the older one isn't removed

pub returns-in_err-remove-clause-renews : goal.returns-in_err-remove-clause-renews
returns-in_err-remove-clause-renews g c = λ honest t keeps means.
    let old = c.args.self.now in
    let path = old.path in
    let first = g.D.Dir.history c.args.dir.now in
    let begun = g.D.Dir.history c.begin.new.dir in
    let small : c.self.inside.len < 2 ^ 64 = search rules in
    let on = onward (g.D.Dir.opened c.args.dir.now) _ old c.deref.result.now c.deref.ensures.value c.self.view_is c.requires.open small (omega (arith, c.if-self.false, c.self.inside.number)) in
    let e = c.in_err-remove.field-0.0 in
    let r = c.from_residual-in_err-remove.result in
    let end = g.D.Dir.history c.remove.new.self in
    let opened = still on (g.D.Dir.opened c.begin.new.dir) c.in_ok-next.ensures.others in
    let anew = c.in_ok-next.ensures.ok honest (none on keeps) (source on keeps c.args.chunks.now means) in
    let after = c.begin.ensures.honest honest in
    let left = c.in_err-remove.ensures.err after _ opened in
    let path_is = c.in_ok-next.ensures.path ∙ on.path_is in
    let number_is = c.in_ok-next.ensures.number ∙ on.number_is in
    let held = λ (disk : Disk). still_recovers old c.in_ok-next.next (now begun) disk path_is number_is keeps.last t c.args.chunks.now c.in_ok-next.ensures.state (of_all t c.args.chunks.now keeps.logged means) anew in
    renews_not old c.args.self.now c.args.chunks.now _ _ first end t (dir_error e) r (answered (dir_error e) r c.from_residual-in_err-remove.ensures.1)
    (dir_undamaged e) (λ fault. held (now end) left)
    (inr (inr (record {
      journal = c.in_ok-next.next;
      chunks = c.args.chunks.now;
      path_is = path_is;
      number_is = number_is;
      keeps = still_keeps old c.in_ok-next.next (now begun) (now end) path_is number_is keeps.last c.args.chunks.now anew left;
    })))
    (removing path t (journal_name path old.number) first begun end c.remove.result (beginning on keeps c.args.chunks.now means first begun (c.begin.ensures.moments honest t)) (c.remove.ensures.device.time after)
    held (c.remove.ensures.ok after _ opened) (c.remove.ensures.err after _ opened))

pub returns-in_err-remove-clause-gap : goal.returns-in_err-remove-clause-gap
returns-in_err-remove-clause-gap g c = λ honest t keeps.
    let small : c.self.inside.len < 2 ^ 64 = search rules in
    let on = onward (g.D.Dir.opened c.args.dir.now) _ c.args.self.now c.deref.result.now c.deref.ensures.value c.self.view_is c.requires.open small (omega (arith, c.if-self.false, c.self.inside.number)) in
    no_gap_of c.args.self.now.path (now (g.D.Dir.history c.remove.new.self)) (next_no_stray c.args.self.now (now (g.D.Dir.history c.args.dir.now)) (now (g.D.Dir.history c.begin.new.dir)) (now (g.D.Dir.history c.remove.new.self)) t c.deref.result.now (c.self.inside.number + 1) keeps on.path_is on.number_is on.last
    (c.in_ok-next.ensures.there honest) (c.in_ok-next.ensures.elsewhere honest) (c.in_err-remove.ensures.err (c.in_ok-next.ensures.honest honest) _ (still on (g.D.Dir.opened c.begin.new.dir) c.in_ok-next.ensures.others)))

pub returns-in_err-remove-clause-refused : goal.returns-in_err-remove-clause-refused
returns-in_err-remove-clause-refused g c =
    let e = c.in_err-remove.field-0.0 in
    let r = c.from_residual-in_err-remove.result in
    refuses_not g.D.Dir.is_honest g.D.Dir.history c.args.self.now c.args.dir.now c.remove.new.self (dir_error e) r (answered (dir_error e) r c.from_residual-in_err-remove.ensures.1)
    (dir_numbered e) (omega (arith, c.if-self.false, c.self.inside.number, ap (λ (j : OpenJournal). j.number) c.self.view_is))
    (λ honest is. absurd (removal_memory e c.in_err-remove.ensures.only is))

pub returns-in_err-remove-clause-others : goal.returns-in_err-remove-clause-others
returns-in_err-remove-clause-others g c =
    let small : c.self.inside.len < 2 ^ 64 = search rules in
    let on = onward (g.D.Dir.opened c.args.dir.now) _ c.args.self.now c.deref.result.now c.deref.ensures.value c.self.view_is c.requires.open small (omega (arith, c.if-self.false, c.self.inside.number)) in
    let e = c.in_err-remove.field-0.0 in
    let r = c.from_residual-in_err-remove.result in
    record {
      honest = λ honest. c.remove.ensures.device.honest (c.begin.ensures.honest honest);
      elsewhere = λ honest name own next. others_beyond (now (g.D.Dir.history c.args.dir.now)) (now (g.D.Dir.history c.begin.new.dir)) (now (g.D.Dir.history c.remove.new.self)) (journal_name c.args.self.now.path c.args.self.now.number) _ name
          (c.in_ok-next.ensures.elsewhere honest) (c.in_err-remove.ensures.err (c.begin.ensures.honest honest) _ (still on (g.D.Dir.opened c.begin.new.dir) c.in_ok-next.ensures.others)) own
          (said_of (λ (p : List ℕ) (k : ℕ). name ≢ journal_name p k) (sym on.path_is) (sym on.number_is) next);
      path_is = refl;
      open_in = λ not. absurd (not (answered (dir_error e) r c.from_residual-in_err-remove.ensures.1 ∙ ap Err (fault_only e c.in_err-remove.ensures.only)));
      cause = reason_dir (g.D.Dir.fault_count c.args.dir.now) (g.D.Dir.fault_count c.begin.new.dir) (g.D.Dir.fault_count c.remove.new.self) e r c.in_ok-next.ensures.cause.passed c.in_err-remove.ensures.device.cause
          (answered (dir_error e) r c.from_residual-in_err-remove.ensures.1);
    }

-- it is renewed

pub returns-clause-renews : goal.returns-clause-renews
returns-clause-renews g c = λ honest t keeps means.
    let old = c.args.self.now in
    let path = old.path in
    let first = g.D.Dir.history c.args.dir.now in
    let begun = g.D.Dir.history c.begin.new.dir in
    let small : c.self.inside.len < 2 ^ 64 = search rules in
    let on = onward (g.D.Dir.opened c.args.dir.now) _ old c.deref.result.now c.deref.ensures.value c.self.view_is c.requires.open small (omega (arith, c.if-self.false, c.self.inside.number)) in
    let end = g.D.Dir.history c.remove.new.self in
    let opened = still on (g.D.Dir.opened c.begin.new.dir) c.in_ok-next.ensures.others in
    let anew = c.in_ok-next.ensures.ok honest (none on keeps) (source on keeps c.args.chunks.now means) in
    let after = c.begin.ensures.honest honest in
    let path_is = c.in_ok-next.ensures.path ∙ on.path_is in
    let number_is = c.in_ok-next.ensures.number ∙ on.number_is in
    subst (λ (j : OpenJournal). Renews old j c.args.chunks.now (g.D.Dir.fault_count c.args.dir.now) (g.D.Dir.fault_count c.remove.new.self) first end t (Ok (tt {0}))) (sym c.next.view_is)
    (record {
      ok = still_keeps old c.in_ok-next.next (now begun) (now end) path_is number_is keeps.last c.args.chunks.now anew (inr (c.in_ok-remove.ensures.ok after _ opened));
      whole = λ is. ok_no_err _ _ is;
      fault = λ is. absurd (ok_no_err _ _ is);
      left = tt;
      moments = removing path t (journal_name path old.number) first begun end c.remove.result (beginning on keeps c.args.chunks.now means first begun (c.begin.ensures.moments honest t)) (c.remove.ensures.device.time after)
          (λ disk. still_recovers old c.in_ok-next.next (now begun) disk path_is number_is keeps.last t c.args.chunks.now c.in_ok-next.ensures.state (of_all t c.args.chunks.now keeps.logged means) anew)
          (c.remove.ensures.ok after _ opened) (c.remove.ensures.err after _ opened);
    })

pub returns-clause-gap : goal.returns-clause-gap
returns-clause-gap g c = λ honest t keeps.
    let small : c.self.inside.len < 2 ^ 64 = search rules in
    let on = onward (g.D.Dir.opened c.args.dir.now) _ c.args.self.now c.deref.result.now c.deref.ensures.value c.self.view_is c.requires.open small (omega (arith, c.if-self.false, c.self.inside.number)) in
    no_gap_of c.args.self.now.path (now (g.D.Dir.history c.remove.new.self)) (next_no_stray c.args.self.now (now (g.D.Dir.history c.args.dir.now)) (now (g.D.Dir.history c.begin.new.dir)) (now (g.D.Dir.history c.remove.new.self)) t c.deref.result.now (c.self.inside.number + 1) keeps on.path_is on.number_is on.last
    (c.in_ok-next.ensures.there honest) (c.in_ok-next.ensures.elsewhere honest) (inr (c.in_ok-remove.ensures.ok (c.in_ok-next.ensures.honest honest) _ (still on (g.D.Dir.opened c.begin.new.dir) c.in_ok-next.ensures.others))))

pub returns-clause-gone : goal.returns-clause-gone
returns-clause-gone g c = λ honest.
    let named = ap (λ (j : OpenJournal). g.D.Dir.opened c.args.dir.now j.file) c.self.view_is ∙ c.requires.open in
    removed_gone (journal_name c.args.self.now.path c.args.self.now.number) (now (g.D.Dir.history c.begin.new.dir)) (now (g.D.Dir.history c.remove.new.self))
    (c.in_ok-remove.ensures.ok (c.in_ok-next.ensures.honest honest) _ (c.in_ok-next.ensures.others c.self.inside.file (is_some_name _ _ named) ∙ named))

pub returns-clause-others : goal.returns-clause-others
returns-clause-others g c =
    let small : c.self.inside.len < 2 ^ 64 = search rules in
    let on = onward (g.D.Dir.opened c.args.dir.now) _ c.args.self.now c.deref.result.now c.deref.ensures.value c.self.view_is c.requires.open small (omega (arith, c.if-self.false, c.self.inside.number)) in
    let journal = c.args.self.now in
    let next = c.in_ok-next.next in
    let path_is = c.deref.ensures.value ∙ ap (λ (j : OpenJournal). j.path) c.self.view_is in
    let number_is : c.self.inside.number + 1 ≡ journal.number + 1 = ap (λ (j : OpenJournal). j.number + 1) c.self.view_is in
    let file_is = ap (λ (j : OpenJournal). j.file) c.self.view_is in
    let stays = c.in_ok-next.ensures.others journal.file (is_some_name _ _ c.requires.open) ∙ c.requires.open in
    let last : next.number < 2 ^ 32 = omega (arith, c.in_ok-next.ensures.number, c.if-self.false, c.self.inside.number) in
    subst (λ (j : OpenJournal). LeavesOthers g.D.Dir.is_honest g.D.Dir.history g.D.Dir.opened g.D.Dir.fault_count journal j c.args.dir.now c.remove.new.self (Ok (tt {0}))) (sym c.next.view_is)
    (record {
      honest = λ honest. c.remove.ensures.device.honest (c.begin.ensures.honest honest);
      elsewhere = λ honest name own next. others_beyond (now (g.D.Dir.history c.args.dir.now)) (now (g.D.Dir.history c.begin.new.dir)) (now (g.D.Dir.history c.remove.new.self)) (journal_name c.args.self.now.path c.args.self.now.number) _ name
          (c.in_ok-next.ensures.elsewhere honest) (inr (c.in_ok-remove.ensures.ok (c.begin.ensures.honest honest) _ (still on (g.D.Dir.opened c.begin.new.dir) c.in_ok-next.ensures.others))) own
          (said_of (λ (p : List ℕ) (k : ℕ). name ≢ journal_name p k) (sym on.path_is) (sym on.number_is) next);
      path_is = c.in_ok-next.ensures.path ∙ path_is;
      open_in = λ _. c.in_ok-remove.ensures.others next.file
          (λ same. two_files (g.D.Dir.opened c.begin.new.dir) journal next (c.in_ok-next.ensures.path ∙ path_is) (c.in_ok-next.ensures.number ∙ number_is) last stays c.in_ok-next.ensures.open (same ∙ file_is))
          ∙ c.in_ok-next.ensures.open;
      cause = record { later = omega (arith, c.in_ok-next.ensures.cause.passed, c.in_ok-remove.ensures.device.cause.passed); passed = c.in_ok-remove.ensures.device.cause.passed ∙ c.in_ok-next.ensures.cause.passed; failed = λ is. absurd (cc is); others = λ _. c.in_ok-remove.ensures.device.cause.passed ∙ c.in_ok-next.ensures.cause.passed };
    })

pub returns-then-self-clause-next : goal.returns-then-self-clause-next
returns-then-self-clause-next g c = tt

pub returns-then-self-clause-gone : goal.returns-then-self-clause-gone
returns-then-self-clause-gone g c = λ honest. tt

pub returns-then-self-clause-memory : goal.returns-then-self-clause-memory
returns-then-self-clause-memory g c = λ honest t keeps is. absurd (last_remembered (same_err refusal.LastGeneration refusal.Memory is))

pub returns-in_err-next-clause-next : goal.returns-in_err-next-clause-next
returns-in_err-next-clause-next g c = err_no_ok c.in_err-next.field-0.0 c.from_residual.result _ c.from_residual.ensures.1

pub returns-in_err-next-clause-gone : goal.returns-in_err-next-clause-gone
returns-in_err-next-clause-gone g c = λ honest. err_no_ok c.in_err-next.field-0.0 c.from_residual.result _ c.from_residual.ensures.1

pub returns-in_err-next-clause-memory : goal.returns-in_err-next-clause-memory
returns-in_err-next-clause-memory g c = λ honest t keeps is.
    kept_above c.args.self.now (now (g.D.Dir.history c.args.dir.now)) (now (g.D.Dir.history c.begin.new.dir)) t keeps
    (λ n above below. c.in_err-next.ensures.memory honest (err_was c.in_err-next.field-0.0 refusal.Memory c.from_residual.result (answered c.in_err-next.field-0.0 c.from_residual.result c.from_residual.ensures.1) is) (journal_name c.args.self.now.path n))

pub returns-in_err-remove-clause-next : goal.returns-in_err-remove-clause-next
returns-in_err-remove-clause-next g c = err_no_ok (dir_error c.in_err-remove.field-0.0) c.from_residual-in_err-remove.result _ c.from_residual-in_err-remove.ensures.1

pub returns-in_err-remove-clause-gone : goal.returns-in_err-remove-clause-gone
returns-in_err-remove-clause-gone g c = λ honest. err_no_ok (dir_error c.in_err-remove.field-0.0) c.from_residual-in_err-remove.result _ c.from_residual-in_err-remove.ensures.1

pub returns-in_err-remove-clause-memory : goal.returns-in_err-remove-clause-memory
returns-in_err-remove-clause-memory g c = λ honest t keeps is. absurd (fault_remembered c.in_err-remove.field-0.0 c.in_err-remove.ensures.only (err_same (dir_error c.in_err-remove.field-0.0) refusal.Memory c.from_residual-in_err-remove.result (answered (dir_error c.in_err-remove.field-0.0) c.from_residual-in_err-remove.result c.from_residual-in_err-remove.ensures.1) is))

pub returns-clause-memory : goal.returns-clause-memory
returns-clause-memory g c = λ honest t keeps is. absurd (ok_no_err _ _ is)
