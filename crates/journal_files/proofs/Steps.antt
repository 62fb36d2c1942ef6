-- A journal on a disk over one call: a record is told, or what was told is synced.
use Rattle.std.proofs.Common.{◌≡◌, ℕ, ◌+◌, ◌<◌, ◌≤◌, Bool, true, false, cond, List, [], ◌∷◌, ◌++◌, length, take, Option, Some, None, option_map, Result, Ok, Err, OnOk, OnErr, refl, sym, ap, subst, ◌∙◌, append_assoc, arith}
use Rattle.std.specs.Str.{bytes_eq}
use Rattle.std.specs.List.{AllByRecursion}
use Rattle.std.proofs.lemmas.List.{length-append, take-append-le, take_all}
use Rattle.disk_files.specs.Disk.{File, Disk, Folder, MayStay, StopLeaves, SameDisk, Changes, with_file, with_bytes, flushed}
use Rattle.disk_files.specs.Moments.{History, now, Elapses, LeavesOnly}
use Rattle.disk_files.proofs.Moments.{here, elsewhere, started, goes_on}
use Rattle.disk_files.proofs.Outcomes.{append_inside}
use Rattle.buffer_state.specs.Steps.{settled}
use Rattle.chunk_journal.specs.Records.{Record, Seal, record_bytes, IsRecord}
use Rattle.chunk_journal.specs.Journal.{journal_bytes}
use Rattle.chunk_journal.specs.Meaning.{Allows, after_all}
use Rattle.chunk_journal.specs.Places.{MovesPlaces}
use Rattle.chunk_journal.specs.Laws.{PlacesFollow, LeadsInOrder}
use Rattle.chunk_journal.proofs.Coming.{journal_push}
use Rattle.chunk_journal.proofs.Standing.{each_more}
use Rattle.journal_files.specs.Folders.{journal_name, Opens, OpensWithin}
use Rattle.journal_files.specs.JournalLogs.{JournalLog, records_of, state_at_seal, state_of, IsJournalLog, begun, all_durable}
use Rattle.journal_files.specs.declared.placing.Placing.{Placing}
use Rattle.journal_files.specs.Placings.{placing_of, MovesBy}
use Rattle.journal_files.specs.Views.{OpenJournal, IsReady}
use Rattle.journal_files.specs.Disks.{Keeps, Recovers}
use Rattle.journal_files.proofs.Cuts.{durable_records}
use Rattle.journal_files.proofs.Names.{numbers_apart}
use Rattle.journal_files.proofs.Placed.{placed_begun, moves_so}
use Rattle.journal_files.proofs.Recovery.{file_with, recovers}

-- ---- one more record

pub all_last : (items : List Record) (item : Record) → AllByRecursion IsRecord items → IsRecord item → AllByRecursion IsRecord (items ++ item ∷ [])
all_last [] item each is = (is, tt)
all_last (x ∷ items) item each is = (each.0, all_last items item each.1 is)

records_begun : (item : Record) (t : JournalLog) → records_of (begun item t) ≡ records_of t ++ item ∷ []
records_begun item t = sym (append_assoc t.told (Seal t.next ∷ t.steps) (item ∷ []))

durable_begun : (item : Record) (t : JournalLog) → t.durable ≤ length t.steps → durable_records (begun item t) ≡ durable_records t
durable_begun item t few = ap (λ (z : List Record). t.told ++ Seal t.next ∷ z) (take-append-le t.durable t.steps (item ∷ []) few)

bytes_begun : (item : Record) (t : JournalLog) → journal_bytes (records_of (begun item t)) ≡ journal_bytes (records_of t) ++ record_bytes item
bytes_begun item t = ap journal_bytes (records_begun item t) ∙ journal_push (records_of t) item

pub log_begun : (item : Record) (t : JournalLog) → IsJournalLog t → IsRecord item → Allows (state_of t) item → IsJournalLog (begun item t)
log_begun item t is one allowed = record {
  tells = is.tells;
  greater = is.greater;
  allowed = each_more Allows (state_at_seal t) t.steps (item ∷ []) is.allowed (allowed, tt);
  records = subst (AllByRecursion IsRecord) (sym (records_begun item t)) (all_last (records_of t) item is.records one);
  few = omega (arith, is.few, length-append t.steps (item ∷ []));
}

-- the folders of before are among those of after
pub more_steps : (path : List ℕ) (item : Record) (t : JournalLog) (folder : Folder) → OpensWithin path t folder → OpensWithin path (begun item t) folder
more_steps path item t folder w = record {
  steps = w.steps;
  enough = w.enough;
  begun = omega (arith, w.begun, length-append t.steps (item ∷ []));
  opens = subst (λ (z : List Record). Opens path folder (settled (after_all (state_at_seal t) z))) (sym (take-append-le w.steps t.steps (item ∷ []) w.begun)) w.opens;
}

-- the journal once this record was told
pub record GoesOn (journal new : OpenJournal) (item : Record) : Type 0 where
  pub path : new.path ≡ journal.path
  pub number : new.number ≡ journal.number
  pub len : new.len ≡ journal.len + length (record_bytes item)
  pub places : MovesPlaces item new.len journal.places new.places

module _ (follow : PlacesFollow) (order : LeadsInOrder) (journal new : OpenJournal) (disk after : Disk) (t : JournalLog) (item : Record) (goes : GoesOn journal new item) (keeps : Keeps journal disk t) (one : IsRecord item) (allowed : Allows (state_of t) item) where
  -- the record is told
  pub told : Changes (journal_name journal.path journal.number) (with_bytes (record_bytes item)) disk after → Keeps new after (begun item t)
  told changes =
      let name = journal_name journal.path journal.number in
      let file = file_with (journal_bytes (records_of t)) keeps.synced in
      let at : after name ≡ Some (with_bytes (record_bytes item) file) = here disk after name _ changes ∙ ap (option_map (with_bytes (record_bytes item))) keeps.there in
      let now_there : after name ≡ Some (file_with (journal_bytes (records_of (begun item t))) keeps.synced) = at ∙ ap (λ (w : List ℕ). Some (file_with w keeps.synced)) (sym (bytes_begun item t)) in
      record {
        logged = log_begun item t keeps.logged one allowed;
        first = omega (arith, goes.number, keeps.first);
        last = omega (arith, goes.number, keeps.last);
        synced = keeps.synced;
        there = subst (λ (p : List ℕ). after (journal_name p new.number) ≡ Some (file_with (journal_bytes (records_of (begun item t))) keeps.synced)) (sym goes.path)
            (subst (λ (n : ℕ). after (journal_name journal.path n) ≡ Some (file_with (journal_bytes (records_of (begun item t))) keeps.synced)) (sym goes.number) now_there);
        holds = subst (λ (z : List Record). length (journal_bytes z) ≤ keeps.synced) (sym (durable_begun item t keeps.logged.few)) keeps.holds;
        fits = omega (arith, keeps.fits, ap length (bytes_begun item t), length-append (journal_bytes (records_of t)) (record_bytes item));
        counted = omega (arith, goes.len, keeps.counted, ap length (bytes_begun item t), length-append (journal_bytes (records_of t)) (record_bytes item));
        newest = λ n above below.
            let over : journal.number < n = omega (arith, goes.number, above) in
            subst (λ (p : List ℕ). after (journal_name p n) ≡ None) (sym goes.path)
            (elsewhere disk after name (journal_name journal.path n) _ changes (numbers_apart journal.path journal.number n keeps.last below (λ e. omega (arith, e, over))) ∙ keeps.newest n over below);
        placed = placed_begun follow order t item journal.places new.places new.len keeps.logged (bytes_begun item t) (omega (arith, goes.len, keeps.counted)) goes.places keeps.placed;
      }

torn_at : (disk after : Disk) (name other : List ℕ) (bytes : List ℕ) (n : ℕ) (f : File) (left : Option (List ℕ)) → disk name ≡ Some f → f.synced ≤ length f.written
    → Changes name (with_bytes (take n bytes)) disk after → MayStay (after other) left → (b : Bool) → bytes_eq name other ≡ b
    → MayStay (cond b (option_map (with_bytes bytes) (disk name)) (disk other)) left
torn_at disk after name other bytes n f left there fits changes stays true e =
    let cut : after other ≡ Some (with_bytes (take n bytes) f) = changes other ∙ ap (λ (b : Bool). cond b (option_map (with_bytes (take n bytes)) (disk name)) (disk other)) e ∙ ap (option_map (with_bytes (take n bytes))) there in
    subst (λ (o : Option File). MayStay (option_map (with_bytes bytes) o) left) (sym there) (append_inside f bytes n left fits (subst (λ (o : Option File). MayStay o left) cut stays))
torn_at disk after name other bytes n f left there fits changes stays false e =
    subst (λ (o : Option File). MayStay o left) (changes other ∙ ap (λ (b : Bool). cond b (option_map (with_bytes (take n bytes)) (disk name)) (disk other)) e) stays

-- some of the record is told: what a stop leaves then, it may leave after the whole record too
pub torn : (follow : PlacesFollow) (order : LeadsInOrder) (journal new : OpenJournal) (disk after : Disk) (t : JournalLog) (item : Record) (n : ℕ) → GoesOn journal new item → Keeps journal disk t → IsRecord item → Allows (state_of t) item
    → Changes (journal_name journal.path journal.number) (with_bytes (take n (record_bytes item))) disk after → Recovers journal.path after (begun item t)
torn follow order journal new disk after t item n goes keeps one allowed changes folder leaves =
    let name = journal_name journal.path journal.number in
    let whole : Disk = with_file disk name (option_map (with_bytes (record_bytes item)) (disk name)) in
    subst (λ (p : List ℕ). OpensWithin p (begun item t) folder) goes.path
    (recovers new whole (begun item t) (told follow order journal new disk whole t item goes keeps one allowed (λ other. refl)) folder
    (λ other. torn_at disk after name other (record_bytes item) n (file_with (journal_bytes (records_of t)) keeps.synced) (folder other) keeps.there keeps.fits changes (leaves other) (bytes_eq name other) refl))

-- ---- a sync

log_durable : (t : JournalLog) → IsJournalLog t → IsJournalLog (all_durable t)
log_durable t is = record { tells = is.tells; greater = is.greater; allowed = is.allowed; records = is.records; few = omega arith }

durable_all : (t : JournalLog) → durable_records (all_durable t) ≡ records_of t
durable_all t = ap (λ (z : List Record). t.told ++ Seal t.next ∷ z) (take_all (length t.steps) t.steps (omega arith))

pub synced_all : (journal : OpenJournal) (disk after : Disk) (t : JournalLog) → Keeps journal disk t → Changes (journal_name journal.path journal.number) flushed disk after → Keeps journal after (all_durable t)
synced_all journal disk after t keeps changes =
    let name = journal_name journal.path journal.number in
    let written = journal_bytes (records_of t) in
    record {
      logged = log_durable t keeps.logged;
      first = keeps.first;
      last = keeps.last;
      synced = length written;
      there = here disk after name _ changes ∙ ap (option_map flushed) keeps.there;
      holds = omega (arith, ap (λ (z : List Record). length (journal_bytes z)) (durable_all t));
      fits = omega arith;
      counted = keeps.counted;
      newest = λ n above below.
          elsewhere disk after name (journal_name journal.path n) _ changes (numbers_apart journal.path journal.number n keeps.last below (λ e. omega (arith, e, above))) ∙ keeps.newest n above below;
      placed = keeps.placed;
    }

-- the same disk
pub kept : (journal : OpenJournal) (disk after : Disk) (t : JournalLog) → Keeps journal disk t → SameDisk after disk → Keeps journal after t
kept journal disk after t keeps same = record {
  logged = keeps.logged;
  first = keeps.first;
  last = keeps.last;
  synced = keeps.synced;
  there = same (journal_name journal.path journal.number) ∙ keeps.there;
  holds = keeps.holds;
  fits = keeps.fits;
  counted = keeps.counted;
  newest = λ n above below. same (journal_name journal.path n) ∙ keeps.newest n above below;
  placed = keeps.placed;
}

-- fewer steps are durable
pub less_durable : (path : List ℕ) (t : JournalLog) (folder : Folder) → t.durable ≤ length t.steps → OpensWithin path (all_durable t) folder → OpensWithin path t folder
less_durable path t folder few w = record { steps = w.steps; enough = omega (arith, few, w.enough); begun = w.begun; opens = w.opens }

-- ---- moments

-- what holds after a call, whatever it answered
pub either : {T E : Type 0} {A B C : Type 0} (result : Result T E) → OnOk result A → OnErr result B → (A → C) → (B → C) → C
either (Ok x) ok err left right = left ok
either (Err x) ok err left right = right err

pub on_ok : {T E : Type 0} {A C : Type 0} (result : Result T E) → OnOk result A → (A → C) → OnOk result C
on_ok (Ok x) ok f = f ok
on_ok (Err x) ok f = tt

pub on_err : {T E : Type 0} {A C : Type 0} (result : Result T E) → OnErr result A → (A → C) → OnErr result C
on_err (Ok x) err f = tt
on_err (Err x) err f = f err

pub any_err : {T E : Type 0} {A : Type 0} (result : Result T E) → A → OnErr result A
any_err (Ok x) a = tt
any_err (Err x) a = a

pub one_call : (old new : History) (P : Folder → Type 0) → Elapses old new → ((folder : Folder) → StopLeaves (now old) folder → P folder) → ((folder : Folder) → StopLeaves (now new) folder → P folder) → LeavesOnly old new P
one_call old new P time before after = goes_on old old new P (started old P before) time after

-- ---- the record that is ready

-- the record that was ready was told
pub goes_on_so : (inside journal new : OpenJournal) (item : Record) → inside ≡ journal → new.path ≡ inside.path → new.number ≡ inside.number → new.len ≡ inside.len + length inside.ready → IsReady journal item
    → MovesBy inside.placing inside.places new.places → GoesOn journal new item
goes_on_so inside journal new item is path number len ready moves =
    let end : new.len ≡ journal.len + length journal.ready = len ∙ ap (λ (j : OpenJournal). j.len + length j.ready) is in
    record {
      path = path ∙ ap (λ (j : OpenJournal). j.path) is;
      number = number ∙ ap (λ (j : OpenJournal). j.number) is;
      len = end ∙ ap (λ (b : List ℕ). journal.len + length b) ready.bytes;
      places = moves_so item new.len journal.places new.places
          (subst (λ (p : Placing). MovesBy p journal.places new.places) (ready.placing ∙ ap (placing_of item) (sym end)) (subst (λ (j : OpenJournal). MovesBy j.placing j.places new.places) is moves));
    }

module _ (follow : PlacesFollow) (order : LeadsInOrder) (journal new : OpenJournal) (old mid : History) (t : JournalLog) (item : Record) (bytes : List ℕ) (ready : bytes ≡ record_bytes item) (goes : GoesOn journal new item)
    (keeps : Keeps journal (now old) t) (one : IsRecord item) (allowed : Allows (state_of t) item) where
  pub put_ok : Changes (journal_name journal.path journal.number) (with_bytes bytes) (now old) (now mid) → Keeps new (now mid) (begun item t)
  put_ok changes =
      told follow order journal new (now old) (now mid) t item goes keeps one allowed (subst (λ (b : List ℕ). Changes (journal_name journal.path journal.number) (with_bytes b) (now old) (now mid)) ready changes)

  pub put_err : (n : ℕ) → Changes (journal_name journal.path journal.number) (with_bytes (take n bytes)) (now old) (now mid) → Recovers journal.path (now mid) (begun item t)
  put_err n changes =
      torn follow order journal new (now old) (now mid) t item n goes keeps one allowed
      (subst (λ (b : List ℕ). Changes (journal_name journal.path journal.number) (with_bytes (take n b)) (now old) (now mid)) ready changes)

  pub put_moments : {T E : Type 0} (result : Result T E) → Elapses old mid
      → OnOk result (Changes (journal_name journal.path journal.number) (with_bytes bytes) (now old) (now mid))
      → OnErr result ((n : ℕ) × Changes (journal_name journal.path journal.number) (with_bytes (take n bytes)) (now old) (now mid))
      → LeavesOnly old mid (OpensWithin journal.path (begun item t))
  put_moments result time ok err =
      one_call old mid (OpensWithin journal.path (begun item t)) time (λ folder leaves. more_steps journal.path item t folder (recovers journal (now old) t keeps folder leaves))
      (either result ok err (λ changes. subst (λ (p : List ℕ). Recovers p (now mid) (begun item t)) goes.path (recovers new (now mid) (begun item t) (put_ok changes))) (λ some. put_err some.0 some.1))
