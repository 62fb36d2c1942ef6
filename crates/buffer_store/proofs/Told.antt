-- What a buffer's calls make of its journal, from what they make of the log; and how it stays
-- durable.
use Rattle.std.proofs.Common.{◌≡◌, ◌≢◌, ◌⊎◌, ⊎_elim, inl, inr, ℕ, zero, suc, ◌||◌, Bool, true, false, ◌+◌, ◌==◌, ◌&&◌, cond, nat_lt, List, [], ◌∷◌, ◌++◌, length, Option, Some, None, refl, sym, ap, subst, ◌∙◌, arith}
use Rattle.std.specs.Prelude.{◌↔◌, Result, Ok, Err, OnOk, OnErr, drop}
use Rattle.std.specs.List.{AllByRecursion}
use Rattle.std.proofs.lemmas.Bool.{true≢false, false≢true}
use Rattle.std.proofs.lemmas.List.{drop_all}
use Rattle.disk_files.specs.Disk.{Folder, SameDisk}
use Rattle.disk_files.specs.Moments.{History, LeavesOnly, now}
use Rattle.disk_files.proofs.Moments.{started, weaker}
use Rattle.buffer_state.specs.State.{State, Chunk, size, total_size}
use Rattle.buffer_state.specs.Steps.{settled, reopened, planned, place_of, limit_of, last_serial}
use Rattle.buffer_state.specs.declared.limits.Limits.{Limits}
use Rattle.buffer_state.specs.declared.limits.AppendFault.TheVariants.{TooLarge, Full, LastSerial}
use Rattle.chunk_journal.specs.Records.{Record, Seal, Append, Queue, Purge}
use Rattle.chunk_journal.specs.Meaning.{Allows, after, after_all}
use Rattle.journal_files.specs.Folders.{OpensWithin}
use Rattle.journal_files.specs.JournalLogs.{JournalLog, IsJournalLog, state_of, state_at_seal, begun, all_durable, new_generation}
use Rattle.journal_files.specs.Views.{OpenJournal, HasShortTags}
use Rattle.journal_files.specs.Disks.{Recovers, HasNoGap}
use Rattle.journal_files.proofs.Recovery.{recovers}
use Rattle.journal_files.proofs.Steps.{more_steps}
use Rattle.journal_files.proofs.OpeningMoments.{recovers_same}
use Rattle.journal_files.proofs.Strays.{same_gap, kept_no_gap}
use Rattle.buffer_store.specs.Buffers.{Held, HoldsNow, with_more, durable_if}
use Rattle.buffer_store.specs.Calls.{Stays, StaysWithin, Begins}
use Rattle.buffer_store.specs.Durability.{MayBeLost, LosesOnly, IsDurable, BeganWell, IsSound, IsNamed, Lasts, Endures, KeepsClaims, durably}
use Rattle.buffer_store.specs.Logs.{Logged, Flags, Writes, Syncs, Renews, is_append, held_of}
use Rattle.buffer_store.specs.declared.settings.Settings.{Settings}
use Rattle.buffer_store.specs.declared.fault.BufferFault.{BufferFault}
use Rattle.buffer_store.specs.declared.fault.BufferFault.TheVariants as fault
use Rattle.buffer_store.proofs.Claims.{Same, same_from, same_to}
use Rattle.buffer_store.proofs.Lasting.{lasts_within, lasts_begun, named_begun, named_told, named_all, named_new, endures_now}
use Rattle.buffer_store.proofs.Logs.{reason_none}

-- ---- one step more

after_one : (state : State) (items : List Record) (item : Record) → after_all state (items ++ item ∷ []) ≡ after (after_all state items) item
after_one state [] item = refl
after_one state (x ∷ xs) item = after_one (after state x) xs item

begun_means : (t : JournalLog) (item : Record) (c : State) → Same (after (state_of t) item) c → settled (state_of (begun item t)) ≡ reopened c
begun_means t item c same = ap settled (after_one (state_at_seal t) t.steps item) ∙ same_to (after (state_of t) item) c same

durable_means : (synced : Bool) (t : JournalLog) → state_of (durable_if synced t) ≡ state_of t
durable_means true t = refl
durable_means false t = refl

-- a refusal of a call that answers so
abbrev pub refusing : (T : Type 0) → BufferFault → Result T BufferFault
refusing T e = Err e

-- ---- chunks that were claimed

is_fault : (e : BufferFault) → (e ≡ fault.Fault) ⊎ (e ≢ fault.Fault)
is_fault fault.Full = inr (λ q. cc q)
is_fault fault.TooLarge = inr (λ q. cc q)
is_fault fault.Gone = inr (λ q. cc q)
is_fault fault.Fault = inl refl
is_fault fault.Failed = inr (λ q. cc q)
is_fault fault.LastSerial = inr (λ q. cc q)
is_fault fault.Damaged = inr (λ q. cc q)
is_fault fault.Memory = inr (λ q. cc q)

-- the device's fault is answered, or something else
faulty : {T : Type 0} (result : Result T BufferFault) → (result ≡ Err fault.Fault) ⊎ (result ≢ Err fault.Fault)
faulty (Ok x) = inr (λ q. cc q)
faulty (Err e) = ⊎_elim (λ is. inl (ap (λ (f : BufferFault). Err f) is)) (λ not. inr (λ q. not (cc q))) (is_fault e)

-- the failed flag, by case and in one sentence
flags_told : {T : Type 0} (old new : Bool) (result : Result T BufferFault) → Flags old new result → (new ≡ true) ↔ ((old ≡ true) ⊎ (result ≡ Err fault.Fault))
flags_told old new result flags = (
  λ failed. ⊎_elim (λ is. inr is) (λ no. inl (sym (flags.stays no) ∙ failed)) (faulty result),
  λ why. ⊎_elim (λ was. ⊎_elim (λ is. flags.fails is) (λ no. flags.stays no ∙ was) (faulty result)) (λ is. flags.fails is) why,
)

pub flags_of : {T : Type 0} (old new : Bool) (result : Result T BufferFault) → (new ≡ true) ↔ ((old ≡ true) ⊎ (result ≡ Err fault.Fault)) → Flags old new result
flags_of {T} old new result told = record { fails = λ is. told.1 (inr is); stays = by old new told }
  where
    by : (b c : Bool) → (c ≡ true) ↔ ((b ≡ true) ⊎ (result ≡ Err fault.Fault)) → result ≢ Err fault.Fault → c ≡ b
    by true c h other = h.1 (inl refl)
    by false true h other = absurd (⊎_elim (λ f. cc f) (λ is. other is) (h.0 refl))
    by false false h other = refl

module _ {D : Type 0} (history : D → History) where
  -- nothing changed
  pub claims_none : (b : Held D) → KeepsClaims history b b
  claims_none b = record {
    moments = λ serial chunk e. started (history b.dir) (Lasts b.journal.path serial chunk) (endures_now history b serial chunk e);
    after = λ serial chunk e. e;
  }

  -- only claims changed
  pub claims_same : (b : Held D) (c : State) → reopened c ≡ reopened b.chunks → KeepsClaims history b (record b { chunks = c })
  claims_same b c counts = record {
    moments = λ serial chunk e. started (history b.dir) (Lasts b.journal.path serial chunk) (endures_now history b serial chunk e);
    after = λ serial chunk e. record {
      logged = e.logged;
      told = e.told;
      named = e.named;
      going = λ going. record { keeps = (e.going going).keeps; means = (e.going going).means ∙ sym counts };
      failed = e.failed;
    };
  }

  -- a call of a buffer that goes on until then
  claims_by : (old new : Held D) → old.failed ≡ false
      → ((t : JournalLog) → HoldsNow history old t → (serial : ℕ) (chunk : Chunk) → IsNamed serial chunk (durably t) → LeavesOnly (history old.dir) (history new.dir) (Lasts old.journal.path serial chunk))
      → ((t : JournalLog) → HoldsNow history old t → (serial : ℕ) (chunk : Chunk) → IsNamed serial chunk (durably t) → Endures history new serial chunk) → KeepsClaims history old new
  claims_by old new going moments after = record {
    moments = λ serial chunk e. moments e.logged (e.going going) serial chunk e.named;
    after = λ serial chunk e. after e.logged (e.going going) serial chunk e.named;
  }

  endures_on : (b : Held D) (t : JournalLog) (serial : ℕ) (chunk : Chunk) → b.failed ≡ false → HoldsNow history b t → IsNamed serial chunk (durably t) → Endures history b serial chunk
  endures_on b t serial chunk going holds named = record { logged = t; told = holds.keeps.logged; named = named; going = λ _. holds; failed = λ fails. absurd (false≢true (sym going ∙ fails)) }

  endures_failed : (b : Held D) (t : JournalLog) (serial : ℕ) (chunk : Chunk) → b.failed ≡ true → IsJournalLog t → Recovers b.journal.path (now (history b.dir)) t → IsNamed serial chunk (durably t) → Endures history b serial chunk
  endures_failed b t serial chunk fails told recovers_so named = record { logged = t; told = told; named = named; going = λ going. absurd (false≢true (sym going ∙ fails)); failed = λ _. recovers_so }

-- ---- what a call leaves alone, and what it begins

module _ {D : Type 0} (is_honest : D → Type 0) (history : D → History) (fault_count : D → ℕ) where
  -- nothing changed, and the answer isn't the device's fault
  pub stays_none : {T : Type 0} (b : Held D) (e : BufferFault) → e ≢ fault.Fault → (refusing T e ≡ Err fault.Failed) ↔ (b.failed ≡ true) → StaysWithin {T = T} is_honest history fault_count b b (Err e)
  stays_none b e not failed = record {
    rest = record {
      err = refl;
      failed = failed;
      flags = (λ t. inl t, λ why. ⊎_elim (λ t. t) (λ q. absurd (not (cc q))) why);
      staged = refl;
      limits = refl;
      renewed_past = refl;
      path = refl;
      start = refl;
      honest = λ h. h;
      untouched = λ h no torn name. refl;
      cause = reason_none (fault_count b.dir) (fault_count b.dir) e not refl;
    };
    number = refl;
    elsewhere = λ h name differs. refl;
  }

  still : (b : Held D) (t : JournalLog) → HoldsNow history b t → LeavesOnly (history b.dir) (history b.dir) (OpensWithin b.journal.path t)
  still b t holds = started (history b.dir) (OpensWithin b.journal.path t) (recovers b.journal (now (history b.dir)) t holds.keeps)

  more_within : (path : List ℕ) (more : Option Record) (t : JournalLog) (folder : Folder) → OpensWithin path t folder → OpensWithin path (with_more more t) folder
  more_within path None t folder w = w
  more_within path (Some item) t folder w = more_steps path item t folder w

  pub begins_none : {T : Type 0} (b : Held D) (e : BufferFault) (more : Option Record) (answered : JournalLog → JournalLog) → e ≢ fault.Fault → Begins {T = T} history b b more answered (Err e)
  begins_none b e more answered not = record {
    done = λ t holds. tt;
    refused = λ t holds no. holds;
    recovers = λ t holds q. absurd (not (cc q));
    could = λ t holds q. absurd (not (cc q));
    gap = λ t holds q. absurd (not (cc q));
    moments = λ t holds. weaker (history b.dir) (history b.dir) (OpensWithin b.journal.path t) (OpensWithin b.journal.path (with_more more t)) (λ folder w. more_within b.journal.path more t folder w) (still b t holds);
    quiet = λ t holds no. still b t holds;
    failed = λ fails t before. started (history b.dir) (OpensWithin b.journal.path t) before;
    claims = claims_none history b;
  }

  -- nothing was to be done
  pub begins_still : {T : Type 0} (b : Held D) (x : T) (answered : JournalLog → JournalLog) → ((t : JournalLog) → HoldsNow history b t → HoldsNow history b (answered t)) → Begins history b b None answered (Ok x)
  begins_still b x answered holds_so = record {
    done = holds_so;
    refused = λ t holds no. tt;
    recovers = λ t holds q. absurd (cc q);
    could = λ t holds q. absurd (cc q);
    gap = λ t holds q. absurd (cc q);
    moments = still b;
    quiet = λ t holds no. tt;
    failed = λ fails t before. started (history b.dir) (OpensWithin b.journal.path t) before;
    claims = claims_none history b;
  }

  -- the same fault answered, or another value
  as_err : {T U : Type 0} (old new : Held D) (more : Option Record) (answered : JournalLog → JournalLog) (e : BufferFault) → Begins {T = T} history old new more answered (Err e) → Begins {T = U} history old new more answered (Err e)
  as_err old new more answered e b = record {
    done = λ t holds. tt;
    refused = λ t holds no. b.refused t holds (λ q. no (cc q));
    recovers = λ t holds q. b.recovers t holds (cc q);
    could = λ t holds q. b.could t holds (cc q);
    gap = λ t holds q. b.gap t holds (cc q);
    moments = b.moments;
    quiet = λ t holds no. b.quiet t holds (λ q. no (cc q));
    failed = b.failed;
    claims = b.claims;
  }

  pub renamed_err : {T U : Type 0} (old new : Held D) (more : Option Record) (answered : JournalLog → JournalLog) (r : Result T BufferFault) (s : Result U BufferFault) (e : BufferFault) → r ≡ Err e → s ≡ Err e → Begins history old new more answered r
      → Begins history old new more answered s
  renamed_err old new more answered r s e r_is s_is b = subst (Begins history old new more answered) (sym s_is) (as_err old new more answered e (subst (Begins history old new more answered) r_is b))

  as_ok : {T U : Type 0} (old new : Held D) (more : Option Record) (answered : JournalLog → JournalLog) (x : T) (y : U) → Begins history old new more answered (Ok x) → Begins history old new more answered (Ok y)
  as_ok old new more answered x y b = record {
    done = b.done;
    refused = λ t holds no. tt;
    recovers = λ t holds q. absurd (cc q);
    could = λ t holds q. absurd (cc q);
    gap = λ t holds q. absurd (cc q);
    moments = b.moments;
    quiet = λ t holds no. tt;
    failed = b.failed;
    claims = b.claims;
  }

  pub renamed_ok : {T U : Type 0} (old new : Held D) (more : Option Record) (answered : JournalLog → JournalLog) (r : Result T BufferFault) (x : T) (y : U) → r ≡ Ok x → Begins history old new more answered r → Begins history old new more answered (Ok y)
  renamed_ok old new more answered r x y r_is b = as_ok old new more answered x y (subst (Begins history old new more answered) r_is b)

  -- a record was told, or refused
  module _ (log next : Logged D) (chunks other : State) (settings : Settings) (going : log.failed ≡ false) where
    pub stays_by : (item : Record) (synced : Bool) (result : Result (Unit {0}) BufferFault) → Writes is_honest history fault_count log next item synced result → OnErr result (other ≡ chunks)
        → StaysWithin is_honest history fault_count (held_of log chunks settings) (held_of next other settings) result
    stays_by item synced result w err = record {
      rest = record {
        err = err;
        failed = (λ q. absurd (by result w.only q), λ q. absurd (true≢false (sym q ∙ going)));
        flags = flags_told log.failed next.failed result w.flags;
        staged = w.kept;
        limits = refl;
        renewed_past = refl;
        path = w.path;
        start = w.start;
        honest = w.honest;
        untouched = λ honest no torn. w.untouched honest no;
        cause = w.cause;
      };
      number = w.number;
      elsewhere = w.elsewhere;
    }
      where
        by : (r : Result (Unit {0}) BufferFault) → OnErr r ((r ≡ Err fault.Memory) ⊎ (r ≡ Err fault.Fault)) → r ≡ Err fault.Failed → ⊥
        by (Ok x) only q = cc q
        by (Err e) (inl m) q = cc (m, q)
        by (Err e) (inr m) q = cc (m, q)

    module _ (item : Record) (changed : State) (step : (t : JournalLog) → Same (state_of t) chunks → Allows (state_of t) item × Same (after (state_of t) item) changed) where
      allowed_by : (t : JournalLog) → HoldsNow history (held_of log chunks settings) t → Allows (state_of t) item
      allowed_by t holds = (step t (same_from (state_of t) chunks holds.means)).0

      means_by : (t : JournalLog) (synced : Bool) → HoldsNow history (held_of log chunks settings) t → other ≡ changed → settled (state_of (durable_if synced (begun item t))) ≡ reopened other
      means_by t synced holds is = ap settled (durable_means synced (begun item t)) ∙ begun_means t item other (subst (Same (after (state_of t) item)) (sym is) (step t (same_from (state_of t) chunks holds.means)).1)

      named_moments : {synced : Bool} (result : Result (Unit {0}) BufferFault) → Writes is_honest history fault_count log next item synced result → is_honest log.dir → (t : JournalLog) → HoldsNow history (held_of log chunks settings) t → (serial : ℕ) (chunk : Chunk)
          → IsNamed serial chunk (durably t) → LeavesOnly (history log.dir) (history next.dir) (Lasts log.journal.path serial chunk)
      named_moments result w honest t holds serial chunk named =
          weaker (history log.dir) (history next.dir) (OpensWithin log.journal.path (begun item t)) (Lasts log.journal.path serial chunk)
          (lasts_begun item t serial chunk holds.keeps.logged (allowed_by t holds) named log.journal.path) (w.moments honest t holds.keeps (allowed_by t holds))

      pub begins_by : (synced : Bool) (result : Result (Unit {0}) BufferFault) → Writes is_honest history fault_count log next item synced result → OnOk result (other ≡ changed) → OnErr result (other ≡ chunks)
          → is_honest log.dir → Begins history (held_of log chunks settings) (held_of next other settings) (Some item) (durable_if synced) result
      begins_by synced (Ok x) w ok err honest = record {
        done = λ t holds. record { keeps = w.done honest t holds.keeps (allowed_by t holds); means = means_by t synced holds ok };
        refused = λ t holds no. tt;
        recovers = λ t holds q. absurd (cc q);
        could = λ t holds q. absurd (cc q);
        gap = λ t holds q. absurd (cc q);
        moments = λ t holds. w.moments honest t holds.keeps (allowed_by t holds);
        quiet = λ t holds no. tt;
        failed = λ fails t before. absurd (false≢true (sym going ∙ fails));
        claims = claims_by history (held_of log chunks settings) (held_of next other settings) going (λ t holds serial chunk named. named_moments (Ok x) w honest t holds serial chunk named)
            (λ t holds serial chunk named. endures_on history (held_of next other settings) (durable_if synced (begun item t)) serial chunk (w.flags.stays (λ q. cc q) ∙ going)
            (record { keeps = w.done honest t holds.keeps (allowed_by t holds); means = means_by t synced holds ok }) (named_told item t serial chunk holds.keeps.logged (allowed_by t holds) named synced));
      }
      begins_by synced (Err e) w ok err honest = record {
        done = λ t holds. tt;
        refused = λ t holds no. record { keeps = w.refused honest t holds.keeps no; means = holds.means ∙ ap reopened (sym err) };
        recovers = λ t holds q. w.recovers honest t holds.keeps (allowed_by t holds) q;
        could = λ t holds q. w.could honest t holds.keeps (allowed_by t holds) q;
        gap = λ t holds q. w.gap honest t holds.keeps (allowed_by t holds) q;
        moments = λ t holds. w.moments honest t holds.keeps (allowed_by t holds);
        quiet = λ t holds no. w.quiet honest t holds.keeps no;
        failed = λ fails t before. absurd (false≢true (sym going ∙ fails));
        claims = claims_by history (held_of log chunks settings) (held_of next other settings) going (λ t holds serial chunk named. named_moments (Err e) w honest t holds serial chunk named)
            (λ t holds serial chunk named. ⊎_elim
            (λ is. let q = ap (λ (f : BufferFault). refusing (Unit {0}) f) is in
            endures_failed history (held_of next other settings) (begun item t) serial chunk (w.flags.fails q) (w.could honest t holds.keeps (allowed_by t holds) q)
            (subst (λ (p : List ℕ). Recovers p (now (history next.dir)) (begun item t)) (sym w.path) (w.recovers honest t holds.keeps (allowed_by t holds) q)) (named_begun item t serial chunk holds.keeps.logged (allowed_by t holds) named))
            (λ not. let no : refusing (Unit {0}) e ≢ Err fault.Fault = λ q. not (cc q) in
            endures_on history (held_of next other settings) t serial chunk (w.flags.stays no ∙ going) (record { keeps = w.refused honest t holds.keeps no; means = holds.means ∙ ap reopened (sym err) }) named) (is_fault e));
      }

-- ---- what steps may be lost

-- nothing is lost where all steps are durable
pub loses_none : (staged : Bool) (t : JournalLog) → LosesOnly staged (all_durable t)
loses_none staged t = subst (AllByRecursion (MayBeLost staged)) (sym (drop_all (length t.steps) t.steps (omega arith))) tt

more_lost : (staged : Bool) (item : Record) → MayBeLost staged item → MayBeLost true item
more_lost staged (Seal next) h = h
more_lost staged (Append serial tag entries) h = refl
more_lost staged (Queue serial) h = h
more_lost staged (Purge serial) h = tt

all_more : (staged : Bool) (xs : List Record) → AllByRecursion (MayBeLost staged) xs → AllByRecursion (MayBeLost true) xs
all_more staged [] h = tt
all_more staged (x ∷ xs) h = (more_lost staged x h.0, all_more staged xs h.1)

all_last : (staged : Bool) (xs : List Record) (x : Record) → AllByRecursion (MayBeLost staged) xs → MayBeLost staged x → AllByRecursion (MayBeLost staged) (xs ++ x ∷ [])
all_last staged [] x h p = (p, tt)
all_last staged (y ∷ ys) x h p = (h.0, all_last staged ys x h.1 p)

drop_last : (staged : Bool) (n : ℕ) (xs : List Record) (x : Record) → MayBeLost staged x → AllByRecursion (MayBeLost staged) (drop n xs) → AllByRecursion (MayBeLost staged) (drop n (xs ++ x ∷ []))
drop_last staged zero xs x p h = all_last staged xs x h p
drop_last staged (suc n) [] x p h = none n
  where
    none : (n : ℕ) → AllByRecursion (MayBeLost staged) (drop n [])
    none zero = tt
    none (suc n) = tt
drop_last staged (suc n) (y ∷ ys) x p h = drop_last staged n ys x p h

-- a removal more
pub loses_purge : (staged : Bool) (t : JournalLog) (serial : ℕ) → LosesOnly staged t → LosesOnly staged (begun (Purge serial) t)
loses_purge staged t serial h = drop_last staged t.durable t.steps (Purge serial) tt h

-- an append more that isn't synced
pub loses_append : (staged : Bool) (t : JournalLog) (serial : ℕ) (tag : List ℕ) (entries : List (List ℕ)) → LosesOnly staged t → LosesOnly true (begun (Append serial tag entries) t)
loses_append staged t serial tag entries h = drop_last true t.durable t.steps (Append serial tag entries) refl (all_more staged (drop t.durable t.steps) h)

-- ---- the buffer stays durable

-- the disk has the journal so, and the device hasn't failed
durable_on : {D : Type 0} (is_honest : D → Type 0) (history : D → History) (b : Held D) (logged : JournalLog) → is_honest b.dir → HoldsNow history b logged → LosesOnly b.staged logged → b.failed ≡ false → IsDurable is_honest history b
durable_on is_honest history b logged honest holds loses going = record {
  honest = honest;
  logged = logged;
  more = None;
  told = holds.keeps.logged;
  could = holds.keeps.logged;
  means = holds.means;
  loses = loses;
  going = λ _. holds;
  recovers = λ fails. absurd (false≢true (sym going ∙ fails));
  gap = λ fails. absurd (false≢true (sym going ∙ fails));
}

module _ {D T : Type 0} (is_honest : D → Type 0) (history : D → History) (fault_count : D → ℕ) (old new : Held D) (more : Option Record) (answered : JournalLog → JournalLog) where
  -- a buffer that the device failed before refuses the call
  durable_failed : Stays {T = T} is_honest history fault_count old new (Err fault.Failed) → old.failed ≡ true → IsDurable is_honest history old → IsDurable is_honest history new
  durable_failed stays before durable =
      let ne : refusing T fault.Failed ≢ Err fault.Fault = λ q. cc q in
      let disk : SameDisk (now (history new.dir)) (now (history old.dir)) = stays.untouched durable.honest ne (λ q. cc q) in
      let flag : new.failed ≡ true = stays.flags.1 (inl before) in
      record {
        honest = stays.honest durable.honest;
        logged = durable.logged;
        more = durable.more;
        told = durable.told;
        could = durable.could;
        means = durable.means ∙ ap reopened (sym stays.err);
        loses = subst (λ (b : Bool). LosesOnly b durable.logged) (sym stays.staged) durable.loses;
        going = λ going. absurd (true≢false (sym flag ∙ going));
        recovers = λ _. subst (λ (p : List ℕ). Recovers p (now (history new.dir)) (with_more durable.more durable.logged)) (sym stays.path)
            (recovers_same old.journal.path (with_more durable.more durable.logged) (now (history old.dir)) (now (history new.dir)) disk (durable.recovers before));
        gap = λ _. subst (λ (p : List ℕ). HasNoGap p (now (history new.dir))) (sym stays.path) (same_gap old.journal.path (now (history old.dir)) (now (history new.dir)) disk (durable.gap before));
      }

  durable_ok : (x : T) → Stays is_honest history fault_count old new (Ok x) → Begins history old new more answered (Ok x) → ((t : JournalLog) → LosesOnly old.staged t → LosesOnly new.staged (answered (with_more more t)))
      → old.failed ≡ false → IsDurable is_honest history old → IsDurable is_honest history new
  durable_ok x stays begins loses before durable =
      let flag : new.failed ≡ false = (flags_of old.failed new.failed (Ok x) stays.flags).stays (λ q. cc q) ∙ before in
      durable_on is_honest history new (answered (with_more more durable.logged)) (stays.honest durable.honest) (begins.done durable.logged (durable.going before)) (loses durable.logged durable.loses) flag

  durable_fault : Stays {T = T} is_honest history fault_count old new (Err fault.Fault) → Begins {T = T} history old new more answered (Err fault.Fault) → old.failed ≡ false → IsDurable is_honest history old → IsDurable is_honest history new
  durable_fault stays begins before durable =
      let holds = durable.going before in
      record {
        honest = stays.honest durable.honest;
        logged = durable.logged;
        more = more;
        told = durable.told;
        could = begins.could durable.logged holds refl;
        means = durable.means ∙ ap reopened (sym stays.err);
        loses = subst (λ (b : Bool). LosesOnly b durable.logged) (sym stays.staged) durable.loses;
        going = λ going. absurd (true≢false (sym (stays.flags.1 (inr refl)) ∙ going));
        recovers = λ _. subst (λ (p : List ℕ). Recovers p (now (history new.dir)) (with_more more durable.logged)) (sym stays.path) (begins.recovers durable.logged holds refl);
        gap = λ _. subst (λ (p : List ℕ). HasNoGap p (now (history new.dir))) (sym stays.path) (begins.gap durable.logged holds refl);
      }

  durable_refused : (e : BufferFault) → e ≢ fault.Fault → Stays {T = T} is_honest history fault_count old new (Err e) → Begins {T = T} history old new more answered (Err e) → old.failed ≡ false → IsDurable is_honest history old
      → IsDurable is_honest history new
  durable_refused e not stays begins before durable =
      let ne : refusing T e ≢ Err fault.Fault = λ q. not (cc q) in
      let flag : new.failed ≡ false = (flags_of old.failed new.failed (refusing T e) stays.flags).stays ne ∙ before in
      durable_on is_honest history new durable.logged (stays.honest durable.honest) (begins.refused durable.logged (durable.going before) ne) (subst (λ (b : Bool). LosesOnly b durable.logged) (sym stays.staged) durable.loses) flag

  -- whatever the call answers
  durable_by : (result : Result T BufferFault) → Stays is_honest history fault_count old new result → (is_honest old.dir → Begins history old new more answered result)
      → OnOk result ((t : JournalLog) → LosesOnly old.staged t → LosesOnly new.staged (answered (with_more more t))) → IsDurable is_honest history old → IsDurable is_honest history new
  durable_by result stays begins loses durable = at old.failed refl result stays (begins durable.honest) loses
    where
      at : (b : Bool) → old.failed ≡ b → (r : Result T BufferFault) → Stays is_honest history fault_count old new r → Begins history old new more answered r
          → OnOk r ((t : JournalLog) → LosesOnly old.staged t → LosesOnly new.staged (answered (with_more more t))) → IsDurable is_honest history new
      at true before r stays begins loses = durable_failed (subst (Stays is_honest history fault_count old new) (stays.failed.1 before) stays) before durable
      at false before (Ok x) stays begins loses = durable_ok x stays begins loses before durable
      at false before (Err e) stays begins loses =
          ⊎_elim (λ is. durable_fault (subst (λ (f : BufferFault). Stays {T = T} is_honest history fault_count old new (Err f)) is stays) (subst (λ (f : BufferFault). Begins {T = T} history old new more answered (Err f)) is begins) before durable)
          (λ not. durable_refused e not stays begins before durable) (is_fault e)

  -- it began well, and so it did before
  pub began_before : {r : Result T BufferFault} → Stays is_honest history fault_count old new r → BeganWell is_honest history new → BeganWell is_honest history old
  began_before stays began = (subst is_honest stays.start began.0, subst (λ (p : List ℕ). HasNoGap p (now (history old.start))) stays.path (subst (λ (d : D). HasNoGap new.journal.path (now (history d))) stays.start began.1))

  pub sound_by : (result : Result T BufferFault) → Stays is_honest history fault_count old new result → (is_honest old.dir → Begins history old new more answered result)
      → OnOk result ((t : JournalLog) → LosesOnly old.staged t → LosesOnly new.staged (answered (with_more more t)))
      → (BeganWell is_honest history old → IsDurable is_honest history old) → BeganWell is_honest history new → IsDurable is_honest history new
  sound_by result stays begins loses durable began = durable_by result stays begins loses (durable (began_before stays began))

tags_by : (other changed chunks : State) (result : Result (Unit {0}) BufferFault) → OnOk result (other ≡ changed) → OnErr result (other ≡ chunks) → HasShortTags changed → HasShortTags chunks → HasShortTags other
tags_by other changed chunks (Ok x) ok err new old = subst HasShortTags (sym ok) new
tags_by other changed chunks (Err e) ok err new old = subst HasShortTags (sym err) old

-- so much may be lost of a step that was told
pub loses_queue : (staged : Bool) (t : JournalLog) (serial : ℕ) → LosesOnly staged t → LosesOnly (cond true false (is_append (Queue serial) || staged)) (durable_if true (begun (Queue serial) t))
loses_queue staged t serial h = loses_none false (begun (Queue serial) t)

pub loses_added : (staged synced : Bool) (t : JournalLog) (serial : ℕ) (tag : List ℕ) (entries : List (List ℕ)) → LosesOnly staged t
    → LosesOnly (cond synced false (is_append (Append serial tag entries) || staged)) (durable_if synced (begun (Append serial tag entries) t))
loses_added staged true t serial tag entries h = loses_none false (begun (Append serial tag entries) t)
loses_added staged false t serial tag entries h = loses_append staged t serial tag entries h

-- a record was told, or refused: the buffer is sound as before
module _ {D : Type 0} (is_honest : D → Type 0) (history : D → History) (fault_count : D → ℕ) (log next : Logged D) (chunks other : State) (settings : Settings) (going : log.failed ≡ false) (item : Record) (changed : State)
    (step : (t : JournalLog) → Same (state_of t) chunks → Allows (state_of t) item × Same (after (state_of t) item) changed) where
  pub sound_wrote : (synced : Bool) (result : Result (Unit {0}) BufferFault) → Writes is_honest history fault_count log next item synced result → OnOk result (other ≡ changed) → OnErr result (other ≡ chunks) → HasShortTags changed
      → ((t : JournalLog) → LosesOnly log.staged t → LosesOnly (cond synced false (is_append item || log.staged)) (durable_if synced (begun item t)))
      → IsSound is_honest history (held_of log chunks settings) → IsSound is_honest history (held_of next other settings)
  sound_wrote synced result w ok err tags loses sound = record {
    tags = tags_by other changed chunks result ok err tags sound.tags;
    durable = sound_by is_honest history fault_count (held_of log chunks settings) (held_of next other settings) (Some item) (durable_if synced) result
        (stays_by is_honest history fault_count log next chunks other settings going item synced result w err).rest
        (λ honest. begins_by is_honest history fault_count log next chunks other settings going item changed step synced result w ok err honest)
        (by result w.staged) sound.durable;
  }
    where
      by : (r : Result (Unit {0}) BufferFault) → OnOk r (next.staged ≡ cond synced false (is_append item || log.staged)) → OnOk r ((t : JournalLog) → LosesOnly log.staged t → LosesOnly next.staged (durable_if synced (begun item t)))
      by (Ok x) is = λ t h. subst (λ (b : Bool). LosesOnly b (durable_if synced (begun item t))) (sym is) (loses t h)
      by (Err e) is = tt

-- ---- a sync, and a renewal

module _ {D : Type 0} (is_honest : D → Type 0) (history : D → History) (fault_count : D → ℕ) (log next : Logged D) (chunks : State) (settings : Settings) (going : log.failed ≡ false) where
  pub syncs_stays : (result : Result (Unit {0}) BufferFault) → Syncs is_honest history fault_count log next result → StaysWithin is_honest history fault_count (held_of log chunks settings) (held_of next chunks settings) result
  syncs_stays result s = record {
    rest = record {
      err = on_err result refl;
      failed = (λ q. absurd (by result s.only q), λ q. absurd (true≢false (sym q ∙ going)));
      flags = flags_told log.failed next.failed result s.flags;
      staged = s.kept;
      limits = refl;
      renewed_past = refl;
      path = ap (λ (j : OpenJournal). j.path) s.journal;
      start = s.start;
      honest = s.honest;
      untouched = λ honest no torn. untouched _ result s.only no;
      cause = s.cause;
    };
    number = ap (λ (j : OpenJournal). j.number) s.journal;
    elsewhere = s.elsewhere;
  }
    where
      on_err : {P : Type 0} (r : Result (Unit {0}) BufferFault) → P → OnErr r P
      on_err (Ok x) p = tt
      on_err (Err e) p = p

      by : (r : Result (Unit {0}) BufferFault) → OnErr r (r ≡ Err fault.Fault) → r ≡ Err fault.Failed → ⊥
      by (Ok x) only q = cc q
      by (Err e) only q = cc (only, q)

      untouched : (P : Type 0) (r : Result (Unit {0}) BufferFault) → OnErr r (r ≡ Err fault.Fault) → r ≢ Err fault.Fault → OnErr r P
      untouched P (Ok x) only differs = tt
      untouched P (Err e) only differs = absurd (differs only)

  pub syncs_begins : (result : Result (Unit {0}) BufferFault) → Syncs is_honest history fault_count log next result → is_honest log.dir
      → Begins history (held_of log chunks settings) (held_of next chunks settings) None (durable_if true) result
  syncs_begins (Ok x) s honest = record {
    done = λ t holds. record { keeps = s.done honest t holds.keeps; means = holds.means };
    refused = λ t holds no. tt;
    recovers = λ t holds q. absurd (cc q);
    could = λ t holds q. absurd (cc q);
    gap = λ t holds q. absurd (cc q);
    moments = λ t holds. s.moments honest t holds.keeps;
    quiet = λ t holds no. tt;
    failed = λ fails t before. absurd (false≢true (sym going ∙ fails));
    claims = claims_by history (held_of log chunks settings) (held_of next chunks settings) going
        (λ t holds serial chunk named. weaker (history log.dir) (history next.dir) (OpensWithin log.journal.path t) (Lasts log.journal.path serial chunk) (lasts_within log.journal.path t serial chunk holds.keeps.logged named) (s.moments honest t holds.keeps))
        (λ t holds serial chunk named. endures_on history (held_of next chunks settings) (all_durable t) serial chunk (s.flags.stays (λ q. cc q) ∙ going) (record { keeps = s.done honest t holds.keeps; means = holds.means })
        (named_all t serial chunk holds.keeps.logged named));
  }
  syncs_begins (Err e) s honest = record {
    done = λ t holds. tt;
    refused = λ t holds no. absurd (no s.only);
    recovers = λ t holds q. subst (λ (p : List ℕ). Recovers p (now (history next.dir)) t) (ap (λ (j : OpenJournal). j.path) s.journal) (recovers next.journal (now (history next.dir)) t (s.failed honest t holds.keeps));
    could = λ t holds q. holds.keeps.logged;
    gap = λ t holds q. subst (λ (p : List ℕ). HasNoGap p (now (history next.dir))) (ap (λ (j : OpenJournal). j.path) s.journal) (kept_no_gap next.journal (now (history next.dir)) t (s.failed honest t holds.keeps));
    moments = λ t holds. s.moments honest t holds.keeps;
    quiet = λ t holds no. absurd (no s.only);
    failed = λ fails t before. absurd (false≢true (sym going ∙ fails));
    claims = claims_by history (held_of log chunks settings) (held_of next chunks settings) going
        (λ t holds serial chunk named. weaker (history log.dir) (history next.dir) (OpensWithin log.journal.path t) (Lasts log.journal.path serial chunk) (lasts_within log.journal.path t serial chunk holds.keeps.logged named) (s.moments honest t holds.keeps))
        (λ t holds serial chunk named. endures_failed history (held_of next chunks settings) t serial chunk (s.flags.fails s.only) holds.keeps.logged (recovers next.journal (now (history next.dir)) t (s.failed honest t holds.keeps)) named);
  }

  pub sound_synced : (result : Result (Unit {0}) BufferFault) → Syncs is_honest history fault_count log next result → IsSound is_honest history (held_of log chunks settings) → IsSound is_honest history (held_of next chunks settings)
  sound_synced result s sound = record {
    tags = sound.tags;
    durable = sound_by is_honest history fault_count (held_of log chunks settings) (held_of next chunks settings) None (durable_if true) result (syncs_stays result s).rest (syncs_begins result s) (by result) sound.durable;
  }
    where
      by : (r : Result (Unit {0}) BufferFault) → OnOk r ((t : JournalLog) → LosesOnly log.staged t → LosesOnly next.staged (durable_if true t))
      by (Ok x) = λ t h. loses_none next.staged t
      by (Err e) = tt

  pub renews_stays : (result : Result (Unit {0}) BufferFault) → Renews is_honest history fault_count log next chunks result → Stays is_honest history fault_count (held_of log chunks settings) (held_of next chunks settings) result
  renews_stays result s = record {
    err = on_err result refl;
    failed = (λ q. absurd (by result s.only q), λ q. absurd (true≢false (sym q ∙ going)));
    flags = flags_told log.failed next.failed result s.flags;
    staged = s.kept;
    limits = refl;
    renewed_past = refl;
    path = s.path;
    start = s.start;
    honest = s.honest;
    untouched = s.untouched;
    cause = s.cause;
  }
    where
      on_err : {P : Type 0} (r : Result (Unit {0}) BufferFault) → P → OnErr r P
      on_err (Ok x) p = tt
      on_err (Err e) p = p

      by : (r : Result (Unit {0}) BufferFault) → OnErr r ((r ≡ Err fault.LastSerial) ⊎ ((r ≡ Err fault.Memory) ⊎ ((r ≡ Err fault.Fault) ⊎ (r ≡ Err fault.Damaged)))) → r ≡ Err fault.Failed → ⊥
      by (Ok x) only q = cc q
      by (Err e) (inl m) q = cc (m, q)
      by (Err e) (inr (inl m)) q = cc (m, q)
      by (Err e) (inr (inr (inl m))) q = cc (m, q)
      by (Err e) (inr (inr (inr m))) q = cc (m, q)

  pub renews_begins : (result : Result (Unit {0}) BufferFault) → Renews is_honest history fault_count log next chunks result → is_honest log.dir
      → Begins history (held_of log chunks settings) (held_of next chunks settings) None (λ _. new_generation chunks) result
  renews_begins (Ok x) s honest = record {
    done = λ t holds. record { keeps = s.done honest t holds.keeps holds.means; means = s.starts };
    refused = λ t holds no. tt;
    recovers = λ t holds q. absurd (cc q);
    could = λ t holds q. absurd (cc q);
    gap = λ t holds q. absurd (cc q);
    moments = λ t holds. s.moments honest t holds.keeps holds.means;
    quiet = λ t holds no. tt;
    failed = λ fails t before. absurd (false≢true (sym going ∙ fails));
    claims = claims_by history (held_of log chunks settings) (held_of next chunks settings) going
        (λ t holds serial chunk named. weaker (history log.dir) (history next.dir) (OpensWithin log.journal.path t) (Lasts log.journal.path serial chunk) (lasts_within log.journal.path t serial chunk holds.keeps.logged named) (s.moments honest t holds.keeps holds.means))
        (λ t holds serial chunk named. endures_on history (held_of next chunks settings) (new_generation chunks) serial chunk (s.flags.stays (λ q. cc q) ∙ going) (record { keeps = s.done honest t holds.keeps holds.means; means = s.starts })
        (named_new t chunks serial chunk holds.keeps.logged holds.means s.starts named));
  }
  renews_begins (Err e) s honest = record {
    done = λ t holds. tt;
    refused = λ t holds no. record { keeps = s.refused honest t holds.keeps holds.means no; means = holds.means };
    recovers = λ t holds q. s.recovers honest t holds.keeps holds.means q;
    could = λ t holds q. holds.keeps.logged;
    gap = λ t holds q. s.gap honest t holds.keeps;
    moments = λ t holds. s.moments honest t holds.keeps holds.means;
    quiet = λ t holds no. s.moments honest t holds.keeps holds.means;
    failed = λ fails t before. absurd (false≢true (sym going ∙ fails));
    claims = claims_by history (held_of log chunks settings) (held_of next chunks settings) going
        (λ t holds serial chunk named. weaker (history log.dir) (history next.dir) (OpensWithin log.journal.path t) (Lasts log.journal.path serial chunk) (lasts_within log.journal.path t serial chunk holds.keeps.logged named) (s.moments honest t holds.keeps holds.means))
        (λ t holds serial chunk named. ⊎_elim
        (λ is. let q = ap (λ (f : BufferFault). refusing (Unit {0}) f) is in
        endures_failed history (held_of next chunks settings) t serial chunk (s.flags.fails q) holds.keeps.logged
        (subst (λ (p : List ℕ). Recovers p (now (history next.dir)) t) (sym s.path) (s.recovers honest t holds.keeps holds.means q)) named)
        (λ not. let no : refusing (Unit {0}) e ≢ Err fault.Fault = λ q. not (cc q) in
        endures_on history (held_of next chunks settings) t serial chunk (s.flags.stays no ∙ going) (record { keeps = s.refused honest t holds.keeps holds.means no; means = holds.means }) named) (is_fault e));
  }

  pub sound_renewed : (result : Result (Unit {0}) BufferFault) → Renews is_honest history fault_count log next chunks result → IsSound is_honest history (held_of log chunks settings) → IsSound is_honest history (held_of next chunks settings)
  sound_renewed result s sound = record {
    tags = sound.tags;
    durable = sound_by is_honest history fault_count (held_of log chunks settings) (held_of next chunks settings) None (λ _. new_generation chunks) result (renews_stays result s) (renews_begins result s) (by result) sound.durable;
  }
    where
      by : (r : Result (Unit {0}) BufferFault) → OnOk r ((t : JournalLog) → LosesOnly log.staged t → LosesOnly next.staged (new_generation chunks))
      by (Ok x) = λ t h. tt
      by (Err e) = tt

-- ---- claims aren't told

pub durable_same : {D : Type 0} (is_honest : D → Type 0) (history : D → History) (b : Held D) (c : State) → reopened c ≡ reopened b.chunks → IsDurable is_honest history b → IsDurable is_honest history (record b { chunks = c })
durable_same is_honest history b c counts durable = record {
  honest = durable.honest;
  logged = durable.logged;
  more = durable.more;
  told = durable.told;
  could = durable.could;
  means = durable.means ∙ sym counts;
  loses = durable.loses;
  going = λ going. record { keeps = (durable.going going).keeps; means = durable.means ∙ sym counts };
  recovers = durable.recovers;
  gap = durable.gap;
}

-- ---- a buffer that was just opened

pub durable_new : {D : Type 0} (is_honest : D → Type 0) (history : D → History) (b : Held D) → b.failed ≡ false → is_honest b.dir → HoldsNow history b (new_generation b.chunks) → IsDurable is_honest history b
durable_new is_honest history b going honest holds = durable_on is_honest history b (new_generation b.chunks) honest holds tt going

-- ---- the place of an append

-- the serial of a plan that was made is the place
pub planned_place : (limits : Limits) (state : State) (tag : List ℕ) (entries : List (List ℕ)) (s : ℕ) → planned limits state tag entries ≡ Ok s → place_of limits state tag entries ≡ s
planned_place limits state tag entries s e = by (nat_lt (limit_of limits) (size entries)) (nat_lt limits.total (total_size state + size entries)) ((place_of limits state tag entries == state.next) && (state.next == last_serial)) e
  where
    by : (b c d : Bool) → cond b (Err TooLarge) (cond c (Err Full) (cond d (Err LastSerial) (Ok (place_of limits state tag entries)))) ≡ Ok s → place_of limits state tag entries ≡ s
    by true c d e = absurd (cc e)
    by false true d e = absurd (cc e)
    by false false true e = absurd (cc e)
    by false false false e = cc e
