use Rattle.std.proofs.Common.{◌≡◌, inl, inr, None, ℕ, ◌+◌, ◌<◌, ◌^◌, List, Err, refl, ap, arith, subst, sym, ◌∙◌}
use Rattle.journal_files.specs.declared.error.JournalError.TheVariants as refusal
use Rattle.journal_files.specs.Faults.{dir_error}
use Rattle.journal_files.proofs.Reasons.{answered, reason_dir, reason_err, reason_ok, fault_only}
use Rattle.journal_files.proofs.Wanting.{err_no_value}
use Rattle.disk_files.specs.Disk.{reads, read_of}
use Rattle.disk_files.specs.Moments.{LeavesOnly, now}
use Rattle.journal_files.specs.Folders.{journal_name}
use Rattle.journal_files.specs.Disks.{HasNoGap}
use Rattle.file_pieces.specs.Adding.{IsLeftOf}
use Rattle.journal_files.specs.Pieces.{AreOlder, ChangesBelow, IsGoneBut}
use Rattle.journal_files.proofs.Beginning.{of_folder}
use Rattle.journal_files.proofs.Afresh.{afresh, all, beginning, none, said_of}
use Rattle.journal_files.proofs.Fresh.{is_next, own_is_above, opened_alone}
use Rattle.journal_files.proofs.GivenUp.{given_up_behind, left_next}
use Rattle.journal_files.proofs.OlderFiles.{still_older}
use Rattle.journal_files.proofs.OneWay.{one_way}
use Rattle.journal_files.proofs.OpeningMoments.{quiet, looked as looked_twice, keeps_still, no_gap_still, whole_still, removed_so}
use Rattle.journal_files.proofs.Sourced.{still_open}
use Rattle.journal_files.proofs.Strays.{same_gap}
use Rattle.journal_files.proofs.Unopened.{if_err, search_refused, call_refused, begin_refused}
use Rattle.journal_files.proofs.journal.Journal.open.Goals as goal

-- the folder was searched in vain

pub returns-in_err-found-clause-leaves : goal.returns-in_err-found-clause-leaves
returns-in_err-found-clause-leaves g c = λ honest.
    let found = c.find.ensures in
    record {
      honest = found.honest honest;
      elsewhere = λ name _. found.same honest name;
      gap = λ stray. same_gap c.args.path.now (now (g.D.Dir.history c.args.dir.now)) (now (g.D.Dir.history c.find.new.dir)) (found.same honest) stray;
      moments = λ stray t before. quiet c.args.path.now t (g.D.Dir.history c.args.dir.now) (g.D.Dir.history c.find.new.dir) before (found.time honest) (found.same honest);
    }

pub returns-in_err-found-clause-refused : goal.returns-in_err-found-clause-refused
returns-in_err-found-clause-refused g c = λ honest.
    let found = c.in_err-found.ensures in
    let e = c.in_err-found.field-0.0 in
    if_err _ e c.from_residual.result (answered e c.from_residual.result c.from_residual.ensures.1)
    (search_refused c.args.path.now _ _ _ _ c.answers_one_way.ensures (g.met.D.Dir.reads_stay c.args.dir.now honest) e (λ is. found.damaged honest (ap Err is)) (λ is. found.last honest (ap Err is))
    (λ there is. found.unread honest there (ap Err is)) (found.same honest) (λ stray. inl (λ q. ap read_of (found.same honest q))))

-- the older generations aren't opened

pub returns-in_err-older-clause-leaves : goal.returns-in_err-older-clause-leaves
returns-in_err-older-clause-leaves g c = λ honest.
    let found = c.in_ok-found.ensures in
    let mid = found.honest honest in
    record {
      honest = c.open.ensures.honest mid;
      elsewhere = λ name _. c.open.ensures.same mid name ∙ found.same honest name;
      gap = λ stray. same_gap c.args.path.now (now (g.D.Dir.history c.args.dir.now)) (now (g.D.Dir.history c.open.new.dir)) (λ name. c.open.ensures.same mid name ∙ found.same honest name) stray;
      moments = λ stray t before. looked_twice c.args.path.now t (g.D.Dir.history c.args.dir.now) (g.D.Dir.history c.find.new.dir) (g.D.Dir.history c.open.new.dir) before (c.find.ensures.time honest) (c.find.ensures.same honest) (c.open.ensures.time mid) (c.open.ensures.same mid);
    }

pub returns-in_err-older-clause-refused : goal.returns-in_err-older-clause-refused
returns-in_err-older-clause-refused g c = λ honest.
    let mid = c.in_ok-found.ensures.honest honest in
    let e = c.in_err-older.field-0.0 in
    let same = λ (name : List ℕ). c.open.ensures.same mid name ∙ c.in_ok-found.ensures.same honest name in
    if_err _ (dir_error e) c.from_residual-in_err-older.result (answered (dir_error e) c.from_residual-in_err-older.result c.from_residual-in_err-older.ensures.1)
    (call_refused c.args.path.now _ _ _ _ e (λ _. same) (λ stray. inl (λ q. ap read_of (same q))))

-- the next generation isn't begun

pub begin-requires-clause-source : goal.begin-requires-clause-source
begin-requires-clause-source g c = still_open (g.D.Dir.opened c.find.new.dir) (g.D.Dir.opened c.open.new.dir) c.in_ok-older.ensures.others c.in_ok-found.found.file c.in_ok-found.ensures.open

pub returns-in_err-journal-clause-leaves : goal.returns-in_err-journal-clause-leaves
returns-in_err-journal-clause-leaves g c = λ honest.
    let found = c.in_ok-found.ensures in
    let older = c.in_ok-older.ensures in
    let mid = found.honest honest in
    let ready = older.honest mid in
    let path = c.args.path.now in
    let greatest = c.in_ok-found.found.greatest in
    let first = g.D.Dir.history c.args.dir.now in
    let looked = g.D.Dir.history c.open.new.dir in
    let begun = g.D.Dir.history c.begin.new.dir in
    let small : greatest + 1 < 2 ^ 32 = omega (arith, found.below) in
    let on = afresh (g.D.Dir.opened c.find.new.dir) (g.D.Dir.opened c.open.new.dir) c.in_ok-older.ensures.others (now (g.D.Dir.history c.args.dir.now)) (now (g.D.Dir.history c.find.new.dir)) (now (g.D.Dir.history c.open.new.dir)) c.args.path.now
    c.in_ok-found.found.greatest c.in_ok-found.found.file c.in_ok-found.found.places c.in_ok-found.found.chunks (found.same honest) (older.same mid) found.below (found.greatest honest)
    (found.source honest) in
    record {
      honest = c.begin.ensures.honest ready;
      elsewhere = λ name differs. c.begin.ensures.elsewhere ready name (differs (greatest + 1) small) ∙ on.same name;
      gap = λ stray. c.begin.ensures.gap ready (none on stray) (all on stray);
      moments = λ stray t before.
          let m = of_folder path (reads (now first)) t c.in_ok-found.found.chunks (one_way c.answers_one_way.ensures path (reads (now first))) (before (reads (now first)) (g.met.D.Dir.reads_stay c.args.dir.now honest))
          (found.state honest) found.unclaimed in
          beginning path t first (g.D.Dir.history c.find.new.dir) looked begun before (c.find.ensures.time honest) (c.find.ensures.same honest) (c.open.ensures.time mid) (c.open.ensures.same mid)
          (λ then. c.begin.ensures.moments ready t then (none on stray) m on.source);
    }

pub returns-in_err-journal-clause-refused : goal.returns-in_err-journal-clause-refused
returns-in_err-journal-clause-refused g c = λ honest.
    let found = c.in_ok-found.ensures in
    let older = c.in_ok-older.ensures in
    let mid = found.honest honest in
    let ready = older.honest mid in
    let path = c.args.path.now in
    let greatest = c.in_ok-found.found.greatest in
    let first = g.D.Dir.history c.args.dir.now in
    let looked = g.D.Dir.history c.open.new.dir in
    let begun = g.D.Dir.history c.begin.new.dir in
    let small : greatest + 1 < 2 ^ 32 = omega (arith, found.below) in
    let on = afresh (g.D.Dir.opened c.find.new.dir) (g.D.Dir.opened c.open.new.dir) c.in_ok-older.ensures.others (now (g.D.Dir.history c.args.dir.now)) (now (g.D.Dir.history c.find.new.dir)) (now (g.D.Dir.history c.open.new.dir)) c.args.path.now
    c.in_ok-found.found.greatest c.in_ok-found.found.file c.in_ok-found.found.places c.in_ok-found.found.chunks (found.same honest) (older.same mid) found.below (found.greatest honest)
    (found.source honest) in
    let e = c.in_err-journal.field-0.0 in
    let next = is_next path (now first) greatest (greatest + 1) refl (found.greatest honest) in
    let answer = answered e c.from_residual-in_err-journal.result c.from_residual-in_err-journal.ensures.1 in
    if_err _ e c.from_residual-in_err-journal.result answer
    (begin_refused path _ _ _ _ e (λ short. c.begin.ensures.whole ready on.source (c.in_err-journal.was ∙ ap Err short))
    (λ last. c.begin.ensures.not_last (c.in_err-journal.was ∙ ap Err last))
    (λ memory name. c.begin.ensures.memory ready (c.in_err-journal.was ∙ ap Err memory) name ∙ on.same name)
    (λ stray. left_next path (greatest + 1) _ _ (now first) (now begun) next
    (given_up_behind (g.D.Dir.fault_count c.args.dir.now) (g.D.Dir.fault_count c.open.new.dir) (g.D.Dir.fault_count c.begin.new.dir) _ (now first) (now looked) (now begun)
    (older.cause.passed ∙ found.cause.passed) on.same (c.in_err-journal.ensures.left ready on.source))))

pub returns-in_err-journal-clause-cause : goal.returns-in_err-journal-clause-cause
returns-in_err-journal-clause-cause g c =
    let answer = answered c.in_err-journal.field-0.0 c.from_residual-in_err-journal.result c.from_residual-in_err-journal.ensures.1 in
    reason_err (g.D.Dir.fault_count c.args.dir.now) (g.D.Dir.fault_count c.open.new.dir) (g.D.Dir.fault_count c.begin.new.dir) c.in_err-journal.field-0.0 refusal.Fault c.from_residual-in_err-journal.result
    (c.in_ok-older.ensures.cause.passed ∙ c.in_ok-found.ensures.cause.passed) c.in_err-journal.ensures.cause answer

-- the older generations aren't removed

pub remove-requires : goal.remove-requires
remove-requires g c =
    let greatest = c.in_ok-found.found.greatest in
    let files = still_older c.args.path.now (greatest + 1) (g.D.Dir.opened c.open.new.dir) (g.D.Dir.opened c.begin.new.dir) c.in_ok-older.older.files c.in_ok-older.ensures.files c.in_ok-journal.ensures.others in
    record {
      files = subst (λ (p : List ℕ). AreOlder p c.in_ok-older.older.number (g.D.Dir.opened c.begin.new.dir) c.in_ok-older.older.files) (sym c.in_ok-older.ensures.path)
          (subst (λ (k : ℕ). AreOlder c.args.path.now k (g.D.Dir.opened c.begin.new.dir) c.in_ok-older.older.files) (sym c.in_ok-older.ensures.number) files);
    }

pub returns-in_err-remove-clause-leaves : goal.returns-in_err-remove-clause-leaves
returns-in_err-remove-clause-leaves g c = λ honest.
    let found = c.in_ok-found.ensures in
    let older = c.in_ok-older.ensures in
    let mid = found.honest honest in
    let ready = older.honest mid in
    let path = c.args.path.now in
    let greatest = c.in_ok-found.found.greatest in
    let first = g.D.Dir.history c.args.dir.now in
    let looked = g.D.Dir.history c.open.new.dir in
    let begun = g.D.Dir.history c.begin.new.dir in
    let small : greatest + 1 < 2 ^ 32 = omega (arith, found.below) in
    let on = afresh (g.D.Dir.opened c.find.new.dir) (g.D.Dir.opened c.open.new.dir) c.in_ok-older.ensures.others (now (g.D.Dir.history c.args.dir.now)) (now (g.D.Dir.history c.find.new.dir)) (now (g.D.Dir.history c.open.new.dir)) c.args.path.now
    c.in_ok-found.found.greatest c.in_ok-found.found.file c.in_ok-found.found.places c.in_ok-found.found.chunks (found.same honest) (older.same mid) found.below (found.greatest honest)
    (found.source honest) in
    let journal = c.in_ok-journal.ensures in
    let whole = journal.honest ready in
    let keeps = λ (stray : HasNoGap path (now first)). journal.ok ready (none on stray) on.source in
    let end = now (g.D.Dir.history c.remove.new.dir) in
    let below = said_of (λ (p : List ℕ) (k : ℕ). ChangesBelow p k (now begun) end) older.path older.number (c.remove.ensures.elsewhere whole) in
    let removing = said_of (λ (p : List ℕ) (k : ℕ). LeavesOnly begun (g.D.Dir.history c.remove.new.dir) (IsLeftOf (ChangesBelow p k (now begun)))) older.path older.number (c.remove.ensures.moments whole) in
    record {
      honest = c.remove.ensures.honest whole;
      elsewhere = λ name differs. below name (λ n lt. differs n (omega (arith, lt, small))) ∙ journal.elsewhere ready name (differs (greatest + 1) small) ∙ older.same mid name ∙ found.same honest name;
      gap = λ stray. no_gap_still path (greatest + 1) c.in_ok-journal.journal (now begun) c.in_ok-found.found.chunks journal.path journal.number (keeps stray) end below;
      moments = λ stray t before.
          let m = of_folder path (reads (now first)) t c.in_ok-found.found.chunks (one_way c.answers_one_way.ensures path (reads (now first))) (before (reads (now first)) (g.met.D.Dir.reads_stay c.args.dir.now honest))
          (found.state honest) found.unclaimed in
          removed_so path (greatest + 1) c.in_ok-journal.journal (now begun) c.in_ok-found.found.chunks journal.path journal.number (keeps stray) t journal.state m first begun (g.D.Dir.history c.remove.new.dir) refl
          (beginning path t first (g.D.Dir.history c.find.new.dir) looked begun before (c.find.ensures.time honest) (c.find.ensures.same honest) (c.open.ensures.time mid) (c.open.ensures.same mid)
          (λ then. c.begin.ensures.moments ready t then (none on stray) m on.source)) removing;
    }

pub returns-in_err-remove-clause-refused : goal.returns-in_err-remove-clause-refused
returns-in_err-remove-clause-refused g c = λ honest.
    let found = c.in_ok-found.ensures in
    let older = c.in_ok-older.ensures in
    let mid = found.honest honest in
    let ready = older.honest mid in
    let path = c.args.path.now in
    let greatest = c.in_ok-found.found.greatest in
    let first = g.D.Dir.history c.args.dir.now in
    let looked = g.D.Dir.history c.open.new.dir in
    let begun = g.D.Dir.history c.begin.new.dir in
    let small : greatest + 1 < 2 ^ 32 = omega (arith, found.below) in
    let on = afresh (g.D.Dir.opened c.find.new.dir) (g.D.Dir.opened c.open.new.dir) c.in_ok-older.ensures.others (now (g.D.Dir.history c.args.dir.now)) (now (g.D.Dir.history c.find.new.dir)) (now (g.D.Dir.history c.open.new.dir)) c.args.path.now
    c.in_ok-found.found.greatest c.in_ok-found.found.file c.in_ok-found.found.places c.in_ok-found.found.chunks (found.same honest) (older.same mid) found.below (found.greatest honest)
    (found.source honest) in
    let journal = c.in_ok-journal.ensures in
    let whole = journal.honest ready in
    let keeps = λ (stray : HasNoGap path (now first)). journal.ok ready (none on stray) on.source in
    let end = now (g.D.Dir.history c.remove.new.dir) in
    let below = said_of (λ (p : List ℕ) (k : ℕ). ChangesBelow p k (now begun) end) older.path older.number (c.remove.ensures.elsewhere whole) in
    let e = c.in_err-remove.field-0.0 in
    if_err _ (dir_error e) c.from_residual-in_err-remove.result (answered (dir_error e) c.from_residual-in_err-remove.result c.from_residual-in_err-remove.ensures.1)
    (call_refused path _ _ _ _ e (λ not. absurd (not (fault_only e c.in_err-remove.ensures.only)))
    (λ stray. inr (
      greatest + 1,
      is_next path (now first) greatest (greatest + 1) refl (found.greatest honest),
      inr (inr (whole_still path (greatest + 1) c.in_ok-journal.journal (now begun) c.in_ok-found.found.chunks journal.path journal.number (keeps stray) end below)),
    )))

pub returns-in_err-remove-clause-cause : goal.returns-in_err-remove-clause-cause
returns-in_err-remove-clause-cause g c =
    let e = c.in_err-remove.field-0.0 in
    let answer = answered (dir_error e) c.from_residual-in_err-remove.result c.from_residual-in_err-remove.ensures.1 in
    let so_far : g.D.Dir.fault_count c.begin.new.dir ≡ g.D.Dir.fault_count c.args.dir.now = c.in_ok-journal.ensures.cause.passed ∙ c.in_ok-older.ensures.cause.passed ∙ c.in_ok-found.ensures.cause.passed in
    reason_dir (g.D.Dir.fault_count c.args.dir.now) (g.D.Dir.fault_count c.begin.new.dir) (g.D.Dir.fault_count c.remove.new.dir) e c.from_residual-in_err-remove.result so_far c.in_err-remove.ensures.cause answer

-- it is opened

pub returns-clause-leaves : goal.returns-clause-leaves
returns-clause-leaves g c = λ honest.
    let found = c.in_ok-found.ensures in
    let older = c.in_ok-older.ensures in
    let mid = found.honest honest in
    let ready = older.honest mid in
    let path = c.args.path.now in
    let greatest = c.in_ok-found.found.greatest in
    let first = g.D.Dir.history c.args.dir.now in
    let looked = g.D.Dir.history c.open.new.dir in
    let begun = g.D.Dir.history c.begin.new.dir in
    let small : greatest + 1 < 2 ^ 32 = omega (arith, found.below) in
    let on = afresh (g.D.Dir.opened c.find.new.dir) (g.D.Dir.opened c.open.new.dir) c.in_ok-older.ensures.others (now (g.D.Dir.history c.args.dir.now)) (now (g.D.Dir.history c.find.new.dir)) (now (g.D.Dir.history c.open.new.dir)) c.args.path.now
    c.in_ok-found.found.greatest c.in_ok-found.found.file c.in_ok-found.found.places c.in_ok-found.found.chunks (found.same honest) (older.same mid) found.below (found.greatest honest)
    (found.source honest) in
    let journal = c.in_ok-journal.ensures in
    let whole = journal.honest ready in
    let keeps = λ (stray : HasNoGap path (now first)). journal.ok ready (none on stray) on.source in
    let end = now (g.D.Dir.history c.remove.new.dir) in
    let below = said_of (λ (p : List ℕ) (k : ℕ). ChangesBelow p k (now begun) end) older.path older.number (c.remove.ensures.elsewhere whole) in
    let removing = said_of (λ (p : List ℕ) (k : ℕ). LeavesOnly begun (g.D.Dir.history c.remove.new.dir) (IsLeftOf (ChangesBelow p k (now begun)))) older.path older.number (c.remove.ensures.moments whole) in
    record {
      honest = c.in_ok-remove.ensures.honest whole;
      elsewhere = λ name differs. below name (λ n lt. differs n (omega (arith, lt, small))) ∙ journal.elsewhere ready name (differs (greatest + 1) small) ∙ older.same mid name ∙ found.same honest name;
      gap = λ stray. no_gap_still path (greatest + 1) c.in_ok-journal.journal (now begun) c.in_ok-found.found.chunks journal.path journal.number (keeps stray) end below;
      moments = λ stray t before.
          let m = of_folder path (reads (now first)) t c.in_ok-found.found.chunks (one_way c.answers_one_way.ensures path (reads (now first))) (before (reads (now first)) (g.met.D.Dir.reads_stay c.args.dir.now honest))
          (found.state honest) found.unclaimed in
          removed_so path (greatest + 1) c.in_ok-journal.journal (now begun) c.in_ok-found.found.chunks journal.path journal.number (keeps stray) t journal.state m first begun (g.D.Dir.history c.remove.new.dir) refl
          (beginning path t first (g.D.Dir.history c.find.new.dir) looked begun before (c.find.ensures.time honest) (c.find.ensures.same honest) (c.open.ensures.time mid) (c.open.ensures.same mid)
          (λ then. c.begin.ensures.moments ready t then (none on stray) m on.source)) removing;
    }

pub returns-clause-fresh : goal.returns-clause-fresh
returns-clause-fresh g c =
    let greatest = c.in_ok-found.found.greatest in
    let small : greatest + 1 < 2 ^ 32 = omega (arith, c.in_ok-found.ensures.below) in
    let path_is = c.in_ok-journal.ensures.path ∙ sym c.in_ok-older.ensures.path in
    let number_is = c.in_ok-journal.ensures.number ∙ sym c.in_ok-older.ensures.number in
    record {
      path_is = c.in_ok-journal.ensures.path;
      open_in = c.in_ok-remove.ensures.kept c.in_ok-journal.journal.file _
          (own_is_above c.in_ok-older.older.path.now c.in_ok-older.older.number c.in_ok-journal.journal path_is number_is (subst (λ (k : ℕ). k < 2 ^ 32) (sym c.in_ok-older.ensures.number) small))
          c.in_ok-journal.ensures.open;
      unclaimed = c.in_ok-found.ensures.unclaimed;
      starts = c.in_ok-journal.ensures.state;
      tags = c.in_ok-found.ensures.tags;
    }

pub returns-clause-opens : goal.returns-clause-opens
returns-clause-opens g c = λ honest.
    let found = c.in_ok-found.ensures in
    let older = c.in_ok-older.ensures in
    let mid = found.honest honest in
    let ready = older.honest mid in
    let path = c.args.path.now in
    let greatest = c.in_ok-found.found.greatest in
    let first = g.D.Dir.history c.args.dir.now in
    let looked = g.D.Dir.history c.open.new.dir in
    let begun = g.D.Dir.history c.begin.new.dir in
    let small : greatest + 1 < 2 ^ 32 = omega (arith, found.below) in
    let on = afresh (g.D.Dir.opened c.find.new.dir) (g.D.Dir.opened c.open.new.dir) c.in_ok-older.ensures.others (now (g.D.Dir.history c.args.dir.now)) (now (g.D.Dir.history c.find.new.dir)) (now (g.D.Dir.history c.open.new.dir)) c.args.path.now
    c.in_ok-found.found.greatest c.in_ok-found.found.file c.in_ok-found.found.places c.in_ok-found.found.chunks (found.same honest) (older.same mid) found.below (found.greatest honest)
    (found.source honest) in
    let journal = c.in_ok-journal.ensures in
    let whole = journal.honest ready in
    let keeps = λ (stray : HasNoGap path (now first)). journal.ok ready (none on stray) on.source in
    let end = now (g.D.Dir.history c.remove.new.dir) in
    let below = said_of (λ (p : List ℕ) (k : ℕ). ChangesBelow p k (now begun) end) older.path older.number (c.remove.ensures.elsewhere whole) in
    record {
      means = found.state honest;
      next = is_next path (now first) greatest c.in_ok-journal.journal.number journal.number (found.greatest honest);
      keeps = λ stray. keeps_still path (greatest + 1) c.in_ok-journal.journal (now begun) c.in_ok-found.found.chunks journal.path journal.number (keeps stray) end below;
      alone = λ n from lt.
          let under : n < greatest + 1 = omega (arith, lt, journal.number) in
          let gone : IsGoneBut path c.in_ok-older.older.files (now begun) n = opened_alone path (greatest + 1) n c.in_ok-older.older.files (now (g.D.Dir.history c.find.new.dir)) (now looked) (now begun) small under (older.same mid)
          (journal.elsewhere ready) (older.all mid n from under) in
          subst (λ (p : List ℕ). reads end (journal_name p n) ≡ None) older.path
          (c.in_ok-remove.ensures.gone whole n (omega (arith, under, small)) (subst (λ (p : List ℕ). IsGoneBut p c.in_ok-older.older.files (now begun) n) (sym older.path) gone));
    }

pub returns-in_err-found-clause-opens : goal.returns-in_err-found-clause-opens
returns-in_err-found-clause-opens g c = λ honest. err_no_value c.in_err-found.field-0.0 c.from_residual.result _ c.from_residual.ensures.1

pub returns-in_err-found-clause-fresh : goal.returns-in_err-found-clause-fresh
returns-in_err-found-clause-fresh g c = err_no_value c.in_err-found.field-0.0 c.from_residual.result _ c.from_residual.ensures.1

pub returns-in_err-older-clause-opens : goal.returns-in_err-older-clause-opens
returns-in_err-older-clause-opens g c = λ honest. err_no_value (dir_error c.in_err-older.field-0.0) c.from_residual-in_err-older.result _ c.from_residual-in_err-older.ensures.1

pub returns-in_err-older-clause-fresh : goal.returns-in_err-older-clause-fresh
returns-in_err-older-clause-fresh g c = err_no_value (dir_error c.in_err-older.field-0.0) c.from_residual-in_err-older.result _ c.from_residual-in_err-older.ensures.1

pub returns-in_err-journal-clause-opens : goal.returns-in_err-journal-clause-opens
returns-in_err-journal-clause-opens g c = λ honest. err_no_value c.in_err-journal.field-0.0 c.from_residual-in_err-journal.result _ c.from_residual-in_err-journal.ensures.1

pub returns-in_err-journal-clause-fresh : goal.returns-in_err-journal-clause-fresh
returns-in_err-journal-clause-fresh g c = err_no_value c.in_err-journal.field-0.0 c.from_residual-in_err-journal.result _ c.from_residual-in_err-journal.ensures.1

pub returns-in_err-remove-clause-opens : goal.returns-in_err-remove-clause-opens
returns-in_err-remove-clause-opens g c = λ honest. err_no_value (dir_error c.in_err-remove.field-0.0) c.from_residual-in_err-remove.result _ c.from_residual-in_err-remove.ensures.1

pub returns-in_err-remove-clause-fresh : goal.returns-in_err-remove-clause-fresh
returns-in_err-remove-clause-fresh g c = err_no_value (dir_error c.in_err-remove.field-0.0) c.from_residual-in_err-remove.result _ c.from_residual-in_err-remove.ensures.1

pub returns-in_err-found-clause-cause : goal.returns-in_err-found-clause-cause
returns-in_err-found-clause-cause g c = reason_err _ _ _ c.in_err-found.field-0.0 refusal.Fault c.from_residual.result refl c.in_err-found.ensures.cause (answered c.in_err-found.field-0.0 c.from_residual.result c.from_residual.ensures.1)

pub returns-in_err-older-clause-cause : goal.returns-in_err-older-clause-cause
returns-in_err-older-clause-cause g c = reason_dir _ _ _ c.in_err-older.field-0.0 c.from_residual-in_err-older.result c.in_ok-found.ensures.cause.passed c.in_err-older.ensures.cause (answered (dir_error c.in_err-older.field-0.0) c.from_residual-in_err-older.result c.from_residual-in_err-older.ensures.1)

pub returns-clause-refused : goal.returns-clause-refused
returns-clause-refused g c = λ honest. tt

pub returns-clause-cause : goal.returns-clause-cause
returns-clause-cause g c = reason_ok _ _ _ refusal.Fault (c.in_ok-remove.ensures.cause.passed ∙ c.in_ok-journal.ensures.cause.passed ∙ c.in_ok-older.ensures.cause.passed ∙ c.in_ok-found.ensures.cause.passed)

pub begin-requires-clause-tags : goal.begin-requires-clause-tags
begin-requires-clause-tags g c = c.in_ok-found.ensures.tags
