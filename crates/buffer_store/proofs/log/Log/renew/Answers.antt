use Rattle.std.proofs.Common.{true, false, Ok, Err, inl, inr, refl, sym, ap, subst, ◌∙◌}
use Rattle.disk_files.specs.Moments.{now}
use Rattle.journal_files.specs.Disks.{Keeps}
use Rattle.journal_files.specs.Views.{OpenJournal}
use Rattle.journal_files.proofs.Steps.{kept}
use Rattle.buffer_store.specs.Logs.{Logged, Renews}
use Rattle.buffer_store.specs.declared.fault.BufferFault.{BufferFault}
use Rattle.buffer_store.proofs.Apart.{damaged_not_fault, damaged_not_last, errs_apart, fault_not_damaged, fault_not_last, last_not_damaged, last_not_fault, last_not_lost, lost_not_last, memory_not_damaged, memory_not_fault, memory_not_last, no_memory_not_last, no_memory_not_lost, not_both, ok_not_err, torn_not_last, torn_not_lost}
use Rattle.buffer_store.proofs.Logs.{at_err, reason_ok, reason_fault, reason_none}
use Rattle.buffer_store.proofs.log.Log.renew.Goals as goal

pub returns-in-Ok : goal.returns-in-Ok
returns-in-Ok g c =
    subst (λ (b : Logged g.row.D.Denot). Renews g.D.Dir.is_honest g.D.Dir.history g.D.Dir.fault_count b
    (record { dir = c.renew.new.dir; journal = c.renew.new.self; failed = c.self.inside.failed; staged = false; start = c.self.inside.start.value }) c.args.chunks.now (Ok (tt {0}))) c.self.view_is
    (record {
      only = tt;
      last = (λ q. absurd (ok_not_err _ _ q), λ le. absurd (ok_not_err _ _ (c.in-Ok.ensures.refused.last.1 le)));
      flags = record { fails = λ q. absurd (ok_not_err _ _ q); stays = λ _. refl };
      kept = tt;
      staged = refl;
      path = c.renew.ensures.others.path_is;
      number = c.in-Ok.ensures.next.number;
      start = refl;
      honest = c.renew.ensures.others.honest;
      elsewhere = c.renew.ensures.others.elsewhere;
      untouched = λ honest no torn. tt;
      cause = reason_ok (g.D.Dir.fault_count c.self.inside.dir) (g.D.Dir.fault_count c.renew.new.dir) (tt {0}) c.in-Ok.ensures.others.cause.passed;
      gone = c.in-Ok.ensures.gone;
      journal = tt;
      starts = c.in-Ok.ensures.next.state;
      done = λ honest t keeps means. (c.in-Ok.ensures.renews honest t keeps means).ok;
      refused = λ honest t keeps means no. tt;
      recovers = λ honest t keeps means q. absurd (ok_not_err _ _ q);
      gap = c.renew.ensures.gap;
      moments = λ honest t keeps means. (c.renew.ensures.renews honest t keeps means).moments;
      whole = λ honest t keeps means q. absurd (ok_not_err _ _ q);
      left = λ honest t keeps means. tt;
    })

pub returns-in-Err-Memory : goal.returns-in-Err-Memory
returns-in-Err-Memory g c =
    let is = c.in-Err-Memory.is ∙ ap Err c.in-Err-Memory.field-0-is in
    subst (λ (b : Logged g.row.D.Denot). Renews g.D.Dir.is_honest g.D.Dir.history g.D.Dir.fault_count b
    (record { dir = c.renew.new.dir; journal = c.renew.new.self; failed = c.self.inside.failed; staged = c.self.inside.staged; start = c.self.inside.start.value }) c.args.chunks.now (Err BufferFault.Memory)) c.self.view_is
    (record {
      only = inr (inl refl);
      last = (λ q. absurd (errs_apart _ _ memory_not_last q), λ le. absurd (not_both c.renew.result _ _ no_memory_not_last is (c.renew.ensures.refused.last.1 le)));
      flags = record { fails = λ q. absurd (errs_apart _ _ memory_not_fault q); stays = λ _. refl };
      kept = refl;
      staged = tt;
      path = c.renew.ensures.others.path_is;
      number = tt;
      start = refl;
      honest = c.renew.ensures.others.honest;
      elsewhere = c.renew.ensures.others.elsewhere;
      untouched = λ honest no torn. c.renew.ensures.refused.memory_same honest is;
      cause = reason_none (g.D.Dir.fault_count c.self.inside.dir) (g.D.Dir.fault_count c.renew.new.dir) BufferFault.Memory memory_not_fault (c.renew.ensures.others.cause.others (not_both c.renew.result _ _ no_memory_not_lost is));
      gone = λ honest. tt;
      journal = at_err c.renew.result _ is c.renew.ensures.refused.journal_is;
      starts = tt;
      done = λ honest t keeps means. tt;
      refused = λ honest t keeps means no. c.renew.ensures.memory honest t keeps is;
      recovers = λ honest t keeps means q. absurd (errs_apart _ _ memory_not_fault q);
      gap = c.renew.ensures.gap;
      moments = λ honest t keeps means. (c.renew.ensures.renews honest t keeps means).moments;
      whole = λ honest t keeps means q. absurd (errs_apart _ _ memory_not_damaged q);
      left = λ honest t keeps means. at_err c.renew.result _ is (c.renew.ensures.renews honest t keeps means).left;
    })

pub returns-in-Err-Fault : goal.returns-in-Err-Fault
returns-in-Err-Fault g c =
    let is = c.in-Err-Fault.is ∙ ap Err c.in-Err-Fault.field-0-is in
    subst (λ (b : Logged g.row.D.Denot). Renews g.D.Dir.is_honest g.D.Dir.history g.D.Dir.fault_count b
    (record { dir = c.renew.new.dir; journal = c.renew.new.self; failed = true; staged = c.self.inside.staged; start = c.self.inside.start.value }) c.args.chunks.now (Err BufferFault.Fault)) c.self.view_is
    (record {
      only = inr (inr (inl refl));
      last = (λ q. absurd (errs_apart _ _ fault_not_last q), λ le. absurd (not_both c.renew.result _ _ lost_not_last is (c.renew.ensures.refused.last.1 le)));
      flags = record { fails = λ _. refl; stays = λ no. absurd (no refl) };
      kept = refl;
      staged = tt;
      path = c.renew.ensures.others.path_is;
      number = tt;
      start = refl;
      honest = c.renew.ensures.others.honest;
      elsewhere = c.renew.ensures.others.elsewhere;
      untouched = λ honest no torn. absurd (no refl);
      cause = reason_fault (g.D.Dir.fault_count c.self.inside.dir) (g.D.Dir.fault_count c.renew.new.dir) c.renew.ensures.others.cause.later (c.renew.ensures.others.cause.failed is);
      gone = λ honest. tt;
      journal = at_err c.renew.result _ is c.renew.ensures.refused.journal_is;
      starts = tt;
      done = λ honest t keeps means. tt;
      refused = λ honest t keeps means no. absurd (no refl);
      recovers = λ honest t keeps means q. (c.renew.ensures.renews honest t keeps means).fault is;
      gap = c.renew.ensures.gap;
      moments = λ honest t keeps means. (c.renew.ensures.renews honest t keeps means).moments;
      whole = λ honest t keeps means q. absurd (errs_apart _ _ fault_not_damaged q);
      left = λ honest t keeps means. at_err c.renew.result _ is (c.renew.ensures.renews honest t keeps means).left;
    })

pub returns-in-Err-Damaged : goal.returns-in-Err-Damaged
returns-in-Err-Damaged g c =
    let is = c.in-Err-Damaged.is ∙ ap Err c.in-Err-Damaged.field-0-is in
    subst (λ (b : Logged g.row.D.Denot). Renews g.D.Dir.is_honest g.D.Dir.history g.D.Dir.fault_count b
    (record { dir = c.renew.new.dir; journal = c.renew.new.self; failed = c.self.inside.failed; staged = c.self.inside.staged; start = c.self.inside.start.value }) c.args.chunks.now (Err BufferFault.Damaged)) c.self.view_is
    (record {
      only = inr (inr (inr refl));
      last = (λ q. absurd (errs_apart _ _ damaged_not_last q), λ le. absurd (not_both c.renew.result _ _ torn_not_last is (c.renew.ensures.refused.last.1 le)));
      flags = record { fails = λ q. absurd (errs_apart _ _ damaged_not_fault q); stays = λ _. refl };
      kept = refl;
      staged = tt;
      path = c.renew.ensures.others.path_is;
      number = tt;
      start = refl;
      honest = c.renew.ensures.others.honest;
      elsewhere = c.renew.ensures.others.elsewhere;
      untouched = λ honest no torn. absurd (torn refl);
      cause = reason_none (g.D.Dir.fault_count c.self.inside.dir) (g.D.Dir.fault_count c.renew.new.dir) BufferFault.Damaged damaged_not_fault (c.renew.ensures.others.cause.others (not_both c.renew.result _ _ torn_not_lost is));
      gone = λ honest. tt;
      journal = at_err c.renew.result _ is c.renew.ensures.refused.journal_is;
      starts = tt;
      done = λ honest t keeps means. tt;
      refused = λ honest t keeps means no. absurd ((c.renew.ensures.renews honest t keeps means).whole is);
      recovers = λ honest t keeps means q. absurd (errs_apart _ _ damaged_not_fault q);
      gap = c.renew.ensures.gap;
      moments = λ honest t keeps means. (c.renew.ensures.renews honest t keeps means).moments;
      whole = λ honest t keeps means q. (c.renew.ensures.renews honest t keeps means).whole is;
      left = λ honest t keeps means. at_err c.renew.result _ is (c.renew.ensures.renews honest t keeps means).left;
    })

pub returns-in-Err-LastGeneration : goal.returns-in-Err-LastGeneration
returns-in-Err-LastGeneration g c =
    let is = c.in-Err-LastGeneration.is ∙ ap Err c.in-Err-LastGeneration.field-0-is in
    subst (λ (b : Logged g.row.D.Denot). Renews g.D.Dir.is_honest g.D.Dir.history g.D.Dir.fault_count b
    (record { dir = c.renew.new.dir; journal = c.renew.new.self; failed = c.self.inside.failed; staged = c.self.inside.staged; start = c.self.inside.start.value }) c.args.chunks.now (Err BufferFault.LastSerial)) c.self.view_is
    (record {
      only = inl refl;
      last = (λ q. c.renew.ensures.refused.last.0 is, λ le. refl);
      flags = record { fails = λ q. absurd (errs_apart _ _ last_not_fault q); stays = λ _. refl };
      kept = refl;
      staged = tt;
      path = c.renew.ensures.others.path_is;
      number = tt;
      start = refl;
      honest = c.renew.ensures.others.honest;
      elsewhere = c.renew.ensures.others.elsewhere;
      untouched = λ honest no torn. c.renew.ensures.refused.unchanged honest is;
      cause = reason_none (g.D.Dir.fault_count c.self.inside.dir) (g.D.Dir.fault_count c.renew.new.dir) BufferFault.LastSerial last_not_fault (c.renew.ensures.others.cause.others (not_both c.renew.result _ _ last_not_lost is));
      gone = λ honest. tt;
      journal = at_err c.renew.result _ is c.renew.ensures.refused.journal_is;
      starts = tt;
      done = λ honest t keeps means. tt;
      refused = λ honest t keeps means no. subst (λ (j : OpenJournal). Keeps j (now (g.D.Dir.history c.renew.new.dir)) t) (sym (at_err c.renew.result _ is c.renew.ensures.refused.journal_is))
          (kept c.self.inside.journal (now (g.D.Dir.history c.self.inside.dir)) (now (g.D.Dir.history c.renew.new.dir)) t keeps (c.renew.ensures.refused.unchanged honest is));
      recovers = λ honest t keeps means q. absurd (errs_apart _ _ last_not_fault q);
      gap = c.renew.ensures.gap;
      moments = λ honest t keeps means. (c.renew.ensures.renews honest t keeps means).moments;
      whole = λ honest t keeps means q. absurd (errs_apart _ _ last_not_damaged q);
      left = λ honest t keeps means. at_err c.renew.result _ is (c.renew.ensures.renews honest t keeps means).left;
    })
