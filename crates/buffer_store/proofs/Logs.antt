-- One record more in the journal of a buffer.
use Rattle.std.proofs.Common.{◌≡◌, ◌≢◌, ⊎_elim, inl, inr, ℕ, ◌≤◌, ◌||◌, Bool, true, false, List, refl, sym, ap, subst, ◌∙◌, arith}
use Rattle.std.specs.Prelude.{Result, Ok, Err, Vec, OnOk, OnErr, is_err}
use Rattle.std.proofs.lemmas.Bool.{true≢false}
use Rattle.disk_files.specs.Disk.{SameDisk}
use Rattle.disk_files.specs.Moments.{History, Elapses, LeavesOnly, now}
use Rattle.disk_files.specs.Faults.{HasCause, Rises}
use Rattle.disk_files.specs.declared.dir.DirError.{DirError}
use Rattle.disk_files.specs.declared.dir.DirError.TheVariants as dir
use Rattle.disk_files.proofs.Moments.{joined, weaker}
use Rattle.chunk_journal.specs.Records.{Record}
use Rattle.chunk_journal.specs.Meaning.{Allows}
use Rattle.journal_files.specs.Folders.{journal_name, OpensWithin}
use Rattle.journal_files.specs.JournalLogs.{JournalLog, IsJournalLog, begun, state_of}
use Rattle.journal_files.specs.Views.{OpenJournal, IsReady}
use Rattle.journal_files.specs.Disks.{Recovers, HasNoGap}
use Rattle.journal_files.specs.Faults.{HasReason}
use Rattle.journal_files.specs.declared.error.JournalError.{JournalError}
use Rattle.journal_files.specs.declared.error.JournalError.TheVariants as refusal
use Rattle.journal_files.proofs.Recovery.{recovers}
use Rattle.journal_files.proofs.Strays.{kept_no_gap}
use Rattle.journal_files.proofs.Steps.{more_steps, log_begun}
use Rattle.journal_files.proofs.OpeningMoments.{quiet}
use Rattle.buffer_store.specs.Logs.{Logged, KeepsNow, Reads, Writes, Syncs, is_append}
use Rattle.buffer_store.specs.Refusals.{of_journal}
use Rattle.buffer_store.specs.declared.fault.BufferFault.{BufferFault}
use Rattle.buffer_store.specs.declared.fault.BufferFault.TheVariants as fault

-- the record was made ready: what was told stays
pub record IsReadied {D : Type 0} (is_honest : D → Type 0) (history : D → History) (fault_count : D → ℕ) (old mid : Logged D) : Type 0 where
  pub failed : mid.failed ≡ old.failed
  pub staged : mid.staged ≡ old.staged
  pub start : mid.start ≡ old.start
  pub path : mid.journal.path ≡ old.journal.path
  pub number : mid.journal.number ≡ old.journal.number
  pub keeps : is_honest old.dir → (t : JournalLog) → KeepsNow history old t → KeepsNow history mid t
  pub honest : is_honest old.dir → is_honest mid.dir
  pub time : is_honest old.dir → Elapses (history old.dir) (history mid.dir)
  pub same : is_honest old.dir → SameDisk (now (history mid.dir)) (now (history old.dir))
  pub count : fault_count mid.dir ≡ fault_count old.dir

-- the record that was ready was told, or some of it
pub record Puts {D : Type 0} (is_honest : D → Type 0) (history : D → History) (fault_count : D → ℕ) (mid new : Logged D) (item : Record) (result : Result (Unit {0}) DirError) : Type 0 where
  pub ready : IsReady mid.journal item
  pub path : new.journal.path ≡ mid.journal.path
  pub number : new.journal.number ≡ mid.journal.number
  pub start : new.start ≡ mid.start
  pub honest : is_honest mid.dir → is_honest new.dir
  pub ok : is_honest mid.dir → (t : JournalLog) (item : Record) → KeepsNow history mid t → IsReady mid.journal item → Allows (state_of t) item → OnOk result (KeepsNow history new (begun item t))
  pub err : is_honest mid.dir → (t : JournalLog) (item : Record) → KeepsNow history mid t → IsReady mid.journal item → Allows (state_of t) item
      → OnErr result (Recovers mid.journal.path (now (history new.dir)) (begun item t))
  pub gap : is_honest mid.dir → (t : JournalLog) → KeepsNow history mid t → HasNoGap mid.journal.path (now (history new.dir))
  pub moments : is_honest mid.dir → (t : JournalLog) (item : Record) → KeepsNow history mid t → IsReady mid.journal item → Allows (state_of t) item
      → LeavesOnly (history mid.dir) (history new.dir) (OpensWithin mid.journal.path (begun item t))
  pub elsewhere : is_honest mid.dir → (name : List ℕ) → name ≢ journal_name mid.journal.path mid.journal.number → now (history new.dir) name ≡ now (history mid.dir) name
  pub cause : HasCause (fault_count mid.dir) (fault_count new.dir) result
  pub only : OnErr result (result ≡ Err dir.Fault)

-- what holds of a refusal
pub at_err : {T E P : Type 0} (r : Result T E) (e : E) → r ≡ Err e → OnErr r P → P
at_err (Ok x) e is p = absurd (cc is)
at_err (Err x) e is p = p

-- what holds of an answer
pub ok_at : {T E P : Type 0} (r : Result T E) → is_err r ≡ false → OnOk r P → P
ok_at (Ok x) is p = p
ok_at (Err e) is p = absurd (true≢false is)

pub err_at : {T E P : Type 0} (r : Result T E) → is_err r ≡ true → OnErr r P → P
err_at (Ok x) is p = absurd (true≢false (sym is))
err_at (Err e) is p = p

pub rises_at : (before after : ℕ) (r : Result (Unit {0}) DirError) → HasCause before after r → is_err r ≡ true → OnErr r (r ≡ Err dir.Fault) → Rises before after
rises_at before after (Ok x) cause is only = absurd (true≢false (sym is))
rises_at before after (Err e) cause is only = ⊎_elim (λ memory. absurd (cc (memory, only))) (λ up. up) cause.refused

pub same_at : (before after : ℕ) (r : Result (Unit {0}) DirError) → HasCause before after r → is_err r ≡ false → after ≡ before
same_at before after r cause is = ok_at r is cause.passed

-- the count rose at a fault
pub reason_fault : {T : Type 0} (before after : ℕ) → before ≤ after → Rises before after → HasReason {T = T} before after (Err fault.Fault) fault.Fault
reason_fault before after later up = record { later = later; passed = tt; failed = λ _. up; others = λ no. absurd (no refl) }

-- it stays at all else
pub reason_none : {T : Type 0} (before after : ℕ) (e : BufferFault) → e ≢ fault.Fault → after ≡ before → HasReason {T = T} before after (Err e) fault.Fault
reason_none before after e not same = record { later = omega (arith, same); passed = tt; failed = λ q. absurd (not (cc q)); others = λ _. same }

pub reason_ok : {T : Type 0} (before after : ℕ) (x : T) → after ≡ before → HasReason {T = T} {E = BufferFault} before after (Ok x) fault.Fault
reason_ok before after x same = record { later = omega (arith, same); passed = same; failed = λ q. absurd (cc q); others = λ _. same }

-- so it is of an opening that is refused
pub reason_opening : {T U : Type 0} (before after : ℕ) (e : JournalError) (f : BufferFault) → f ≡ of_journal e → HasReason {T = T} before after (Err e) refusal.Fault → HasReason {T = U} before after (Err f) fault.Fault
reason_opening {T} {U} before after e f is cause = subst (λ (x : BufferFault). HasReason {T = U} before after (Err x) fault.Fault) (sym is) (by e cause)
  where
    by : (e : JournalError) → HasReason {T = T} before after (Err e) refusal.Fault → HasReason {T = U} before after (Err (of_journal e)) fault.Fault
    by refusal.Memory cause = reason_none before after fault.Memory (λ q. cc q) (cause.others (λ q. cc q))
    by refusal.Fault cause = reason_fault before after cause.later (cause.failed refl)
    by refusal.Damaged cause = reason_none before after fault.Damaged (λ q. cc q) (cause.others (λ q. cc q))
    by refusal.LastGeneration cause = reason_none before after fault.LastSerial (λ q. cc q) (cause.others (λ q. cc q))

-- a read that was refused
module _ {D A : Type 0} (is_honest : D → Type 0) (history : D → History) (fault_count : D → ℕ) (old new : Logged D) (serial : ℕ) (rest : new ≡ record old { dir = new.dir }) (honest : is_honest old.dir → is_honest new.dir)
    (time : is_honest old.dir → Elapses (history old.dir) (history new.dir)) (same : is_honest old.dir → SameDisk (now (history new.dir)) (now (history old.dir))) where
  refused_so : (e : JournalError) → HasReason {T = Vec ℕ A} (fault_count old.dir) (fault_count new.dir) (Err e) refusal.Fault
      → e ≢ refusal.LastGeneration → (is_honest old.dir → (t : JournalLog) → KeepsNow history old t → e ≢ refusal.Damaged) → Reads {A = A} is_honest history fault_count old new serial (Err (of_journal e))
  refused_so refusal.Memory cause numbered whole = record {
    rest = rest;
    only = inl refl;
    honest = honest;
    time = time;
    same = same;
    cause = reason_none (fault_count old.dir) (fault_count new.dir) fault.Memory (λ q. cc q) (cause.others (λ q. cc q));
    bytes = λ h t keeps. tt;
    whole = λ h t keeps q. absurd (cc q);
  }
  refused_so refusal.Fault cause numbered whole = record {
    rest = rest;
    only = inr (inl refl);
    honest = honest;
    time = time;
    same = same;
    cause = reason_fault (fault_count old.dir) (fault_count new.dir) cause.later (cause.failed refl);
    bytes = λ h t keeps. tt;
    whole = λ h t keeps q. absurd (cc q);
  }
  refused_so refusal.Damaged cause numbered whole = record {
    rest = rest;
    only = inr (inr refl);
    honest = honest;
    time = time;
    same = same;
    cause = reason_none (fault_count old.dir) (fault_count new.dir) fault.Damaged (λ q. cc q) (cause.others (λ q. cc q));
    bytes = λ h t keeps. tt;
    whole = λ h t keeps q. whole h t keeps refl;
  }
  refused_so refusal.LastGeneration cause numbered whole = absurd (numbered refl)

  pub reads_refused : (r : Result (Vec ℕ A) JournalError) (e : JournalError) → r ≡ Err e → HasReason (fault_count old.dir) (fault_count new.dir) r refusal.Fault → r ≢ Err refusal.LastGeneration
      → (is_honest old.dir → (t : JournalLog) → KeepsNow history old t → r ≢ Err refusal.Damaged) → (result : Result (Vec ℕ A) BufferFault) → result ≡ Err (of_journal e) → Reads is_honest history fault_count old new serial result
  reads_refused r e is cause numbered whole result answer = subst (Reads is_honest history fault_count old new serial) (sym answer)
      (refused_so e (subst (λ (x : Result (Vec ℕ A) JournalError). HasReason (fault_count old.dir) (fault_count new.dir) x refusal.Fault) is cause) (λ q. numbered (is ∙ ap (λ (f : JournalError). Err f) q)) (λ h t keeps q. whole h t keeps (is ∙ ap (λ (f : JournalError). Err f) q)))

module _ {D : Type 0} (is_honest : D → Type 0) (history : D → History) (fault_count : D → ℕ) (old mid : Logged D) (ready : IsReadied is_honest history fault_count old mid) (item : Record) where
  quiet_mid : is_honest old.dir → (t : JournalLog) → KeepsNow history old t → LeavesOnly (history old.dir) (history mid.dir) (OpensWithin old.journal.path t)
  quiet_mid honest t keeps = quiet old.journal.path t (history old.dir) (history mid.dir) (recovers old.journal (now (history old.dir)) t keeps) (ready.time honest) (ready.same honest)

  more_mid : is_honest old.dir → (t : JournalLog) → KeepsNow history old t → LeavesOnly (history old.dir) (history mid.dir) (OpensWithin old.journal.path (begun item t))
  more_mid honest t keeps =
      weaker (history old.dir) (history mid.dir) (OpensWithin old.journal.path t) (OpensWithin old.journal.path (begun item t)) (λ folder w. more_steps old.journal.path item t folder w) (quiet_mid honest t keeps)

  -- there was no memory for it
  pub writes_memory : (synced : Bool) (result : Result (Unit {0}) BufferFault) → result ≡ Err fault.Memory → Writes is_honest history fault_count old mid item synced result
  writes_memory synced result is = subst (Writes is_honest history fault_count old mid item synced) (sym is) (record {
    only = inl refl;
    flags = record { fails = λ q. absurd (cc q); stays = λ _. ready.failed };
    kept = ready.staged;
    staged = tt;
    path = ready.path;
    number = ready.number;
    start = ready.start;
    honest = ready.honest;
    elsewhere = λ honest name differs. ready.same honest name;
    untouched = λ honest no. ready.same honest;
    cause = reason_none (fault_count old.dir) (fault_count mid.dir) fault.Memory (λ q. cc q) ready.count;
    done = λ honest t keeps allowed. tt;
    refused = λ honest t keeps no. ready.keeps honest t keeps;
    recovers = λ honest t keeps allowed q. absurd (cc q);
    could = λ honest t keeps allowed q. absurd (cc q);
    gap = λ honest t keeps allowed q. absurd (cc q);
    moments = λ honest t keeps allowed. more_mid honest t keeps;
    quiet = λ honest t keeps no. quiet_mid honest t keeps;
  })

  -- it was begun
  module _ (new : Logged D) (put : Result (Unit {0}) DirError) (puts : Puts is_honest history fault_count mid new item put) where
    path_new : new.journal.path ≡ old.journal.path
    path_new = puts.path ∙ ready.path

    number_new : new.journal.number ≡ old.journal.number
    number_new = puts.number ∙ ready.number

    could_new : (t : JournalLog) → KeepsNow history old t → Allows (state_of t) item → IsJournalLog (begun item t)
    could_new t keeps allowed = log_begun item t keeps.logged puts.ready.can allowed

    elsewhere_new : is_honest old.dir → (name : List ℕ) → name ≢ journal_name old.journal.path old.journal.number → now (history new.dir) name ≡ now (history old.dir) name
    elsewhere_new honest name differs =
        puts.elsewhere (ready.honest honest) name (λ e. differs (e ∙ ap (λ (p : List ℕ). journal_name p mid.journal.number) ready.path ∙ ap (journal_name old.journal.path) ready.number)) ∙ ready.same honest name

    moments_new : is_honest old.dir → (t : JournalLog) → KeepsNow history old t → Allows (state_of t) item → LeavesOnly (history old.dir) (history new.dir) (OpensWithin old.journal.path (begun item t))
    moments_new honest t keeps allowed =
        joined (history old.dir) (history mid.dir) (history new.dir) (OpensWithin old.journal.path (begun item t)) (more_mid honest t keeps)
        (subst (λ (p : List ℕ). LeavesOnly (history mid.dir) (history new.dir) (OpensWithin p (begun item t))) ready.path (puts.moments (ready.honest honest) t item (ready.keeps honest t keeps) puts.ready allowed))

    gap_new : is_honest old.dir → (t : JournalLog) → KeepsNow history old t → HasNoGap old.journal.path (now (history new.dir))
    gap_new honest t keeps = subst (λ (p : List ℕ). HasNoGap p (now (history new.dir))) ready.path (puts.gap (ready.honest honest) t (ready.keeps honest t keeps))

    -- and the device failed
    pub writes_torn : (synced : Bool) → is_err put ≡ true → new.failed ≡ true → new.staged ≡ mid.staged → Writes {T = Unit {0}} is_honest history fault_count old new item synced (Err fault.Fault)
    writes_torn synced is failed staged = record {
      only = inr refl;
      flags = record { fails = λ _. failed; stays = λ no. absurd (no refl) };
      kept = staged ∙ ready.staged;
      staged = tt;
      path = path_new;
      number = number_new;
      start = puts.start ∙ ready.start;
      honest = λ honest. puts.honest (ready.honest honest);
      elsewhere = elsewhere_new;
      untouched = λ honest no. absurd (no refl);
      cause = (let up = rises_at (fault_count mid.dir) (fault_count new.dir) put puts.cause is puts.only in
          let later = puts.cause.later in
          let same = ready.count in
          reason_fault (fault_count old.dir) (fault_count new.dir) (omega (arith, later, same)) (subst (λ (n : ℕ). Rises n (fault_count new.dir)) same up));
      done = λ honest t keeps allowed. tt;
      refused = λ honest t keeps no. absurd (no refl);
      recovers = λ honest t keeps allowed q. subst (λ (p : List ℕ). Recovers p (now (history new.dir)) (begun item t)) ready.path (err_at put is (puts.err (ready.honest honest) t item (ready.keeps honest t keeps) puts.ready allowed));
      could = λ honest t keeps allowed q. could_new t keeps allowed;
      gap = λ honest t keeps allowed q. gap_new honest t keeps;
      moments = moments_new;
      quiet = λ honest t keeps no. absurd (no refl);
    }

    keeps_new : is_err put ≡ false → is_honest old.dir → (t : JournalLog) → KeepsNow history old t → Allows (state_of t) item → KeepsNow history new (begun item t)
    keeps_new is honest t keeps allowed = ok_at put is (puts.ok (ready.honest honest) t item (ready.keeps honest t keeps) puts.ready allowed)

    same_new : is_err put ≡ false → fault_count new.dir ≡ fault_count old.dir
    same_new is = same_at (fault_count mid.dir) (fault_count new.dir) put puts.cause is ∙ ready.count

    -- it was told, and isn't synced
    pub writes_told : (x : Unit {0}) → is_err put ≡ false → new.failed ≡ mid.failed → new.staged ≡ (is_append item || mid.staged) → Writes is_honest history fault_count old new item false (Ok x)
    writes_told x is failed staged = record {
      only = tt;
      flags = record { fails = λ q. absurd (cc q); stays = λ _. failed ∙ ready.failed };
      kept = tt;
      staged = staged ∙ ap (λ (b : Bool). is_append item || b) ready.staged;
      path = path_new;
      number = number_new;
      start = puts.start ∙ ready.start;
      honest = λ honest. puts.honest (ready.honest honest);
      elsewhere = elsewhere_new;
      untouched = λ honest no. tt;
      cause = reason_ok (fault_count old.dir) (fault_count new.dir) x (same_new is);
      done = λ honest t keeps allowed. keeps_new is honest t keeps allowed;
      refused = λ honest t keeps no. tt;
      recovers = λ honest t keeps allowed q. absurd (cc q);
      could = λ honest t keeps allowed q. absurd (cc q);
      gap = λ honest t keeps allowed q. absurd (cc q);
      moments = moments_new;
      quiet = λ honest t keeps no. tt;
    }

    -- it was told, and is synced then
    module _ (is : is_err put ≡ false) (going : new.failed ≡ mid.failed) (waits : new.staged ≡ mid.staged) (last : Logged D) where
      path_last : last.journal ≡ new.journal → last.journal.path ≡ old.journal.path
      path_last e = ap (λ (j : OpenJournal). j.path) e ∙ path_new

      elsewhere_last : {r : Result (Unit {0}) BufferFault} → Syncs is_honest history fault_count new last r → is_honest old.dir → (name : List ℕ) → name ≢ journal_name old.journal.path old.journal.number
          → now (history last.dir) name ≡ now (history old.dir) name
      elsewhere_last s honest name differs =
          s.elsewhere (puts.honest (ready.honest honest)) name (λ e. differs (e ∙ ap (λ (p : List ℕ). journal_name p new.journal.number) path_new ∙ ap (journal_name old.journal.path) number_new)) ∙ elsewhere_new honest name differs

      moments_last : {r : Result (Unit {0}) BufferFault} → Syncs is_honest history fault_count new last r → is_honest old.dir → (t : JournalLog) → KeepsNow history old t → Allows (state_of t) item
          → LeavesOnly (history old.dir) (history last.dir) (OpensWithin old.journal.path (begun item t))
      moments_last s honest t keeps allowed =
          joined (history old.dir) (history new.dir) (history last.dir) (OpensWithin old.journal.path (begun item t)) (moments_new honest t keeps allowed)
          (subst (λ (p : List ℕ). LeavesOnly (history new.dir) (history last.dir) (OpensWithin p (begun item t))) path_new (s.moments (puts.honest (ready.honest honest)) (begun item t) (keeps_new is honest t keeps allowed)))

      pub writes_synced : (r : Result (Unit {0}) BufferFault) → Syncs is_honest history fault_count new last r → Writes is_honest history fault_count old last item true r
      writes_synced (Ok x) s = record {
        only = tt;
        flags = record { fails = λ q. absurd (cc q); stays = λ no. s.flags.stays no ∙ going ∙ ready.failed };
        kept = tt;
        staged = s.staged;
        path = path_last s.journal;
        number = ap (λ (j : OpenJournal). j.number) s.journal ∙ number_new;
        start = s.start ∙ puts.start ∙ ready.start;
        honest = λ honest. s.honest (puts.honest (ready.honest honest));
        elsewhere = elsewhere_last s;
        untouched = λ honest no. tt;
        cause = reason_ok (fault_count old.dir) (fault_count last.dir) x (s.cause.passed ∙ same_new is);
        done = λ honest t keeps allowed. s.done (puts.honest (ready.honest honest)) (begun item t) (keeps_new is honest t keeps allowed);
        refused = λ honest t keeps no. tt;
        recovers = λ honest t keeps allowed q. absurd (cc q);
        could = λ honest t keeps allowed q. absurd (cc q);
        gap = λ honest t keeps allowed q. absurd (cc q);
        moments = moments_last s;
        quiet = λ honest t keeps no. tt;
      }
      writes_synced (Err e) s =
          let kept_last : is_honest old.dir → (t : JournalLog) → KeepsNow history old t → Allows (state_of t) item → KeepsNow history last (begun item t)
          = λ honest t keeps allowed. s.failed (puts.honest (ready.honest honest)) (begun item t) (keeps_new is honest t keeps allowed) in
          record {
            only = inr s.only;
            flags = record { fails = s.flags.fails; stays = λ no. absurd (no s.only) };
            kept = s.kept ∙ waits ∙ ready.staged;
            staged = tt;
            path = path_last s.journal;
            number = ap (λ (j : OpenJournal). j.number) s.journal ∙ number_new;
            start = s.start ∙ puts.start ∙ ready.start;
            honest = λ honest. s.honest (puts.honest (ready.honest honest));
            elsewhere = elsewhere_last s;
            untouched = λ honest no. absurd (no s.only);
            cause = subst (λ (n : ℕ). HasReason {T = Unit {0}} n (fault_count last.dir) (Err e) fault.Fault) (same_new is) s.cause;
            done = λ honest t keeps allowed. tt;
            refused = λ honest t keeps no. absurd (no s.only);
            recovers = λ honest t keeps allowed q. subst (λ (p : List ℕ). Recovers p (now (history last.dir)) (begun item t)) (path_last s.journal) (recovers last.journal (now (history last.dir)) (begun item t) (kept_last honest t keeps allowed));
            could = λ honest t keeps allowed q. could_new t keeps allowed;
            gap = λ honest t keeps allowed q. subst (λ (p : List ℕ). HasNoGap p (now (history last.dir))) (path_last s.journal) (kept_no_gap last.journal (now (history last.dir)) (begun item t) (kept_last honest t keeps allowed));
            moments = moments_last s;
            quiet = λ honest t keeps no. absurd (no s.only);
          }

-- no time goes by
pub elapses_none : (h : History) → Elapses h h
elapses_none h = record { later = omega arith; past = λ t le name. refl; since = λ t above below. absurd (omega (arith, above, below)) }

-- nothing was asked of the folder, since there was no memory for the chunks
pub writes_none : {D : Type 0} (is_honest : D → Type 0) (history : D → History) (fault_count : D → ℕ) (log : Logged D) (item : Record) (synced : Bool) (result : Result (Unit {0}) BufferFault) → result ≡ Err fault.Memory
    → Writes is_honest history fault_count log log item synced result
writes_none is_honest history fault_count log item synced result is =
    writes_memory is_honest history fault_count log log
    (record { failed = refl; staged = refl; start = refl; path = refl; number = refl; keeps = λ h t keeps. keeps; honest = λ h. h; time = λ h. elapses_none (history log.dir); same = λ h name. refl; count = refl }) item synced result is
