-- What a call that only reads leaves alone.
use Rattle.std.proofs.Common.{◌≡◌, ◌≢◌, ◌⊎◌, ⊎_elim, ℕ, refl, sym, ap, subst}
use Rattle.std.specs.Prelude.{Result, Ok, Err, OnErr}
use Rattle.disk_files.specs.Disk.{SameDisk}
use Rattle.disk_files.specs.Moments.{History, Elapses, now}
use Rattle.disk_files.proofs.Moments.{started, rests, passes_same}
use Rattle.buffer_state.specs.State.{State}
use Rattle.journal_files.specs.Faults.{HasReason}
use Rattle.journal_files.proofs.Steps.{kept}
use Rattle.journal_files.proofs.OpeningMoments.{recovers_same}
use Rattle.buffer_store.specs.Buffers.{Held}
use Rattle.buffer_store.specs.Calls.{OnlyReads}
use Rattle.buffer_store.specs.Durability.{Lasts, KeepsClaims}
use Rattle.buffer_store.specs.Logs.{Logged, held_of}
use Rattle.buffer_store.specs.declared.settings.Settings.{Settings}
use Rattle.buffer_store.specs.declared.fault.BufferFault.{BufferFault}
use Rattle.buffer_store.specs.declared.fault.BufferFault.TheVariants as fault
use Rattle.buffer_store.proofs.Lasting.{endures_now}
use Rattle.buffer_store.proofs.Logs.{elapses_none, reason_none, reason_ok}
use Rattle.buffer_store.proofs.Told.{claims_none}

-- the cause of a refusal doesn't turn on what the call would have given
pub reason_again : {T U : Type 0} (before after : ℕ) (r : Result T BufferFault) (s : Result U BufferFault) (e : BufferFault) → r ≡ Err e → s ≡ Err e → HasReason before after r fault.Fault → HasReason before after s fault.Fault
reason_again {T} {U} before after r s e is answer cause = subst (λ (x : Result U BufferFault). HasReason before after x fault.Fault) (sym answer) (by (subst (λ (x : Result T BufferFault). HasReason before after x fault.Fault) is cause))
  where
    by : HasReason {T = T} before after (Err e) fault.Fault → HasReason {T = U} before after (Err e) fault.Fault
    by h = record { later = h.later; passed = tt; failed = λ q. h.failed (cc q); others = λ no. h.others (λ q. no (cc q)) }

-- nothing was asked of the device, and the answer names none of its faults
pub reason_quiet : {T : Type 0} (before after : ℕ) (r : Result T BufferFault) → OnErr r ((r ≡ Err fault.Memory) ⊎ (r ≡ Err fault.Damaged)) → after ≡ before → HasReason before after r fault.Fault
reason_quiet before after (Ok x) only same = reason_ok before after x same
reason_quiet before after (Err e) only same = reason_none before after e (λ q. ⊎_elim (λ m. absurd (cc (m, q))) (λ d. absurd (cc (d, q))) only) same

module _ {D : Type 0} (is_honest : D → Type 0) (history : D → History) (fault_count : D → ℕ) where
  -- the folder wasn't read
  pub reads_none : {T : Type 0} (b : Held D) (e : BufferFault) → e ≢ fault.Fault → OnlyReads {T = T} is_honest history fault_count b b (Err e)
  reads_none b e not = record {
    rest = refl;
    honest = λ h. h;
    same = λ h. passes_same (history b.dir) (history b.dir) (elapses_none (history b.dir)) (λ name. refl);
    claims = λ h. claims_none history b;
    cause = reason_none (fault_count b.dir) (fault_count b.dir) e not refl;
  }

  claims_read : (old : Held D) (dir : D) → Elapses (history old.dir) (history dir) → SameDisk (now (history dir)) (now (history old.dir)) → KeepsClaims history old (record old { dir = dir })
  claims_read old dir time same = record {
    moments = λ serial chunk e.
        rests (history old.dir) (history old.dir) (history dir) (Lasts old.journal.path serial chunk) (started (history old.dir) (Lasts old.journal.path serial chunk) (endures_now history old serial chunk e)) time same;
    after = λ serial chunk e. record {
      logged = e.logged;
      told = e.told;
      named = e.named;
      going = λ going. record { keeps = kept old.journal (now (history old.dir)) (now (history dir)) e.logged (e.going going).keeps same; means = (e.going going).means };
      failed = λ fails. recovers_same old.journal.path e.logged (now (history old.dir)) (now (history dir)) same (e.failed fails);
    };
  }

  -- it was read
  pub reads_by : {T : Type 0} (log next : Logged D) (chunks : State) (settings : Settings) (result : Result T BufferFault) → next ≡ record log { dir = next.dir } → (is_honest log.dir → is_honest next.dir)
      → (is_honest log.dir → Elapses (history log.dir) (history next.dir)) → (is_honest log.dir → SameDisk (now (history next.dir)) (now (history log.dir))) → HasReason (fault_count log.dir) (fault_count next.dir) result fault.Fault
      → OnlyReads is_honest history fault_count (held_of log chunks settings) (held_of next chunks settings) result
  reads_by log next chunks settings result rest honest time same cause = record {
    rest = is;
    honest = honest;
    same = λ h. passes_same (history log.dir) (history next.dir) (time h) (same h);
    claims = λ h. subst (λ (b : Held D). KeepsClaims history (held_of log chunks settings) b) (sym is) (claims_read (held_of log chunks settings) next.dir (time h) (same h));
    cause = cause;
  }
    where
      is : held_of next chunks settings ≡ record (held_of log chunks settings) { dir = next.dir }
      is = ap (λ (l : Logged D). held_of l chunks settings) rest
