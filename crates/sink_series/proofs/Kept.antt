-- What an open sink keeps, over a call.
use Rattle.std.proofs.Common.{ℕ, ◌≡◌, ◌≤◌, ⊎_elim, Bool, true, false, List, [], ◌∷◌, ◌++◌, length, take, Option, Some, None, refl, ap, sym, subst, ◌∙◌, arith}
use Rattle.std.specs.List.{AllByRecursion}
use Rattle.std.proofs.lemmas.Bool.{true≢false, cases_lt}
use Rattle.std.proofs.lemmas.List.{take-append-le, length-take}
use Rattle.disk_files.specs.Disk.{Disk, Folder, SameDisk, MayStay, Makes, new_file, with_bytes, flushed, kept_file, Changes}
use Rattle.disk_files.proofs.Moments.{rests, joined, weaker, here}
use Rattle.disk_files.specs.Moments.{History, now, Elapses, LeavesOnly}
use Rattle.sink_series.specs.Events.{Event, IsEvent, run_of, under, Holds}
use Rattle.sink_series.specs.Views.{SeriesView, StoredView, Answer, newest}
use Rattle.sink_series.specs.Keeping.{IsSafe, StaysSafe, OthersStay, IsBeginning, HasMade, file_with, answered, AnsweredStay, IsHonest, Keeps, IsOpen}
use Rattle.sink_series.proofs.Writes.{safe_same, safe_here, safe_joined, safe_now, safe_rests, others_rest, begun_rests, begun_joined, written_file, kept_safe}
use Rattle.sink_series.proofs.Contents.{nothing, no_item}
use Rattle.std.proofs.Common.{Result, Ok, Err}
use Rattle.std.specs.Result.{IsErrAnd}
use Rattle.disk_files.specs.Faults.{HasCause as HasDirCause}
use Rattle.disk_files.specs.declared.dir.DirError.{DirError}
use Rattle.sink_series.specs.Faults.{HasCause, fault_of}
use Rattle.sink_series.specs.declared.fault.SeriesFault.{SeriesFault}
use Rattle.sink_series.specs.declared.fault.SeriesFault.TheVariants as series
use Rattle.sink_series.proofs.Caused.{told, refused_cause, memory_cause, ok_cause}

-- what is safe at one time is safe at the next, and the past stays
pub record Passes (old new : History) : Type 0 where
  pub later : old.moment ≤ new.moment
  pub past : (t : ℕ) → t ≤ old.moment → SameDisk (new.disk_at t) (old.disk_at t)
  pub safe : (name : List ℕ) (events : List Event) → IsSafe (now old) name events → StaysSafe old new name events

-- a call that leaves the disk as it was
pub passes_rest : (old new : History) → Elapses old new → SameDisk (now new) (now old) → Passes old new
passes_rest old new time same = record { later = time.later; past = time.past; safe = λ name events safe. safe_rests old new name events time same safe }

-- a call that leaves all files but one
pub passes_write : (old new : History) (own : List ℕ) → OthersStay old new own → ((name : List ℕ) (events : List Event) → IsSafe (now old) name events → StaysSafe old new name events) → Passes old new
passes_write old new own others safe = record { later = others.later; past = others.past; safe = safe }

pub passes_both : (old mid new : History) → Passes old mid → Passes mid new → Passes old new
passes_both old mid new first second = record {
  later = omega (arith, first.later, second.later);
  past = λ t le q. second.past t (omega (arith, le, first.later)) q ∙ first.past t le q;
  safe = λ name events safe.
      let s = first.safe name events safe in
      safe_joined old mid new name events s (second.safe name events (safe_now old mid name events s));
}

-- a write: room is made, and then it is written
pub wrote : (old mid new : History) (own : List ℕ) → Elapses old mid → SameDisk (now mid) (now old) → OthersStay mid new own
    → ((name : List ℕ) (events : List Event) → IsSafe (now mid) name events → StaysSafe mid new name events) → Passes old new
wrote old mid new own time same others safe = passes_both old mid new (passes_rest old mid time same) (passes_write mid new own others safe)

-- what was safe since some moment is safe since then
since_on : (old new : History) (name : List ℕ) (events : List Event) (since : ℕ) → Passes old new → since ≤ old.moment
    → ((t : ℕ) → since ≤ t → t ≤ old.moment → IsSafe (old.disk_at t) name events) → (t : ℕ) → since ≤ t → t ≤ new.moment → IsSafe (new.disk_at t) name events
since_on old new name events since passes from safe t above below = ⊎_elim
    (λ after. (passes.safe name events (safe old.moment from (omega arith))).each t (omega (arith, after)) below)
    (λ before. safe_same (old.disk_at t) (new.disk_at t) name events (passes.past t before) (safe t above before))
    (cases_lt old.moment t)

pub answers_on : (old new : History) (name : List ℕ) (answers : List Answer) → Passes old new → AnsweredStay old name answers → AnsweredStay new name answers
answers_on old new name [] passes stay = tt
answers_on old new name (last ∷ before) passes stay = (
  omega (arith, stay.0, passes.later),
  since_on old new name (answered (last ∷ before)) last.since passes stay.0 stay.1,
  answers_on old new name before passes stay.2,
)

-- what an answer's events are at each moment since
pub answer_safe : (history : History) (name : List ℕ) (later earlier : List Answer) (answer : Answer) → AnsweredStay history name (later ++ answer ∷ earlier)
    → (t : ℕ) → answer.since ≤ t → t ≤ history.moment → IsSafe (history.disk_at t) name (answered earlier ++ under answer.stored.tag answer.stored.entries)
answer_safe history name [] earlier answer stay = stay.1
answer_safe history name (last ∷ later) earlier answer stay = answer_safe history name later earlier answer stay.2

-- one answer more
pub answers_more : (old new : History) (name : List ℕ) (answers : List Answer) (stored : StoredView) → Passes old new → AnsweredStay old name answers
    → IsSafe (now new) name (answered answers ++ under stored.tag stored.entries) → AnsweredStay new name (record { stored = stored; since = new.moment } ∷ answers)
answers_more old new name answers stored passes stay safe = (
  omega arith,
  λ t above below. (safe_here new name (answered answers ++ under stored.tag stored.entries) safe).each t above below,
  answers_on old new name answers passes stay,
)

-- what was safe at the opening
pub older_on : {D : Type 0} → (history : D → History) (opening old new : D) → Passes (history old) (history new)
    → ((name : List ℕ) (events : List Event) → IsSafe (now (history opening)) name events → StaysSafe (history opening) (history old) name events)
    → (name : List ℕ) (events : List Event) → IsSafe (now (history opening)) name events → StaysSafe (history opening) (history new) name events
older_on history opening old new passes so_far name events safe =
    let first = so_far name events safe in
    safe_joined (history opening) (history old) (history new) name events first (passes.safe name events (safe_now (history opening) (history old) name events first))

-- a beginning of what was begun is one of what is begun next
more_begun : (folder : Folder) (name : List ℕ) (least : ℕ) (begun events : List Event) → IsBeginning folder name least begun → IsBeginning folder name 0 (begun ++ events)
more_begun folder name least begun events was bytes found few held =
    let w = was bytes found few held in
    let within : length few ≤ length begun = omega (arith, ap length w.0, length-take (length few) begun) in
    (w.0 ∙ sym (take-append-le (length few) begun events within), omega arith)

-- over a call that leaves the disk as it was
pub begins_rest : (opening old new : History) (name : List ℕ) (begun : List Event) → LeavesOnly opening old (λ folder. IsBeginning folder name 0 begun) → Elapses old new → SameDisk (now new) (now old)
    → LeavesOnly opening new (λ folder. IsBeginning folder name 0 begun)
begins_rest opening old new name begun = rests opening old new (λ folder. IsBeginning folder name 0 begun)

-- and over a write
pub begins_write : (opening old new : History) (name : List ℕ) (begun events next : List Event) → LeavesOnly opening old (λ folder. IsBeginning folder name 0 begun)
    → LeavesOnly old new (λ folder. IsBeginning folder name (length begun) (begun ++ events)) → next ≡ begun ++ events → LeavesOnly opening new (λ folder. IsBeginning folder name 0 next)
begins_write opening old new name begun events next before write is =
    subst (λ es. LeavesOnly opening new (λ folder. IsBeginning folder name 0 es)) (sym is)
    (joined opening old new (λ folder. IsBeginning folder name 0 (begun ++ events))
    (weaker opening old (λ folder. IsBeginning folder name 0 begun) (λ folder. IsBeginning folder name 0 (begun ++ events)) (λ folder. more_begun folder name 0 begun events) before)
    (weaker old new (λ folder. IsBeginning folder name (length begun) (begun ++ events)) (λ folder. IsBeginning folder name 0 (begun ++ events))
    (λ folder was bytes found few held. ((was bytes found few held).0, omega arith)) write))

-- a file that wasn't there holds nothing yet
nothing_begun : (disk : Disk) (path name : List ℕ) (folder : Folder) → disk name ≡ None → HasMade disk path folder → IsBeginning folder name 0 []
nothing_begun disk path name folder none made bytes found few held = ⊎_elim
    (λ same. absurd (cc (same, found, subst (λ o. MayStay o (made.0 name)) none (made.1 name))))
    (λ new. let empty : bytes ≡ [] = cc (found, new.2) in
    let nil : few ≡ [] = nothing [] few no_item (subst (λ b. Holds b few) empty held) in
    (nil ∙ sym (ap (λ es. take (length es) []) nil), omega arith))
    (made.2 name)

pub begins_made : (old new : History) (path name : List ℕ) → now old name ≡ None → LeavesOnly old new (HasMade (now old) path) → LeavesOnly old new (λ folder. IsBeginning folder name 0 [])
begins_made old new path name none moments =
    weaker old new (HasMade (now old) path) (λ folder. IsBeginning folder name 0 []) (λ folder. nothing_begun (now old) path name folder none) moments

-- a call that leaves the disk as it was, and one that leaves all files but one
others_behind : (old mid new : History) (own : List ℕ) → Elapses old mid → SameDisk (now mid) (now old) → OthersStay mid new own → OthersStay old new own
others_behind old mid new own time same rest = record {
  later = omega (arith, time.later, rest.later);
  past = λ t le q. rest.past t (omega (arith, le, time.later)) q ∙ time.past t le q;
  each = λ t above below name other. ⊎_elim
      (λ after. rest.each t (omega (arith, after)) below name other ∙ same name)
      (λ before. rest.past t before name ∙ (others_rest old mid own time same).each t above before name other)
      (cases_lt mid.moment t);
}

module _ {D : Type 0} (is_honest : D → Type 0) (history : D → History) where
  -- a sink just opened
  pub keeps_new : (series : SeriesView D) (dir : D) (path : List ℕ) → series.opening ≡ dir → is_honest series.dir → series.begun ≡ [] → series.stored ≡ []
      → Makes (newest series) (now (history dir)) (now (history series.dir)) → LeavesOnly (history dir) (history series.dir) (HasMade (now (history dir)) path)
      → ((name : List ℕ) (events : List Event) → IsSafe (now (history dir)) name events → StaysSafe (history dir) (history series.dir) name events) → Keeps is_honest history series
  keeps_new series dir path opening honest begun stored makes moments older =
      let found : now (history series.dir) (newest series) ≡ Some (file_with [] false) = here (now (history dir)) (now (history series.dir)) (newest series) (Some new_file) makes.1 in
      record {
        honest = record { dir = honest; written = λ ready. (false, found ∙ ap (λ es. Some (file_with es false)) (sym begun)) };
        begun = λ ready. begun ∙ ap answered (sym stored);
        stored = subst (AnsweredStay (history series.dir) (newest series)) (sym stored) tt;
        begins = subst (λ es. LeavesOnly (history series.opening) (history series.dir) (λ folder. IsBeginning folder (newest series) 0 es)) (sym begun)
            (subst (λ o. LeavesOnly (history o) (history series.dir) (λ folder. IsBeginning folder (newest series) 0 [])) (sym opening)
            (begins_made (history dir) (history series.dir) path (newest series) makes.0 moments));
        older = subst (λ o. (name : List ℕ) (events : List Event) → IsSafe (now (history o)) name events → StaysSafe (history o) (history series.dir) name events) (sym opening) older;
      }

  -- over a call that answers nothing
  pub keeps_on : (old new : SeriesView D) → Keeps is_honest history old → is_honest new.dir → Passes (history old.dir) (history new.dir) → new.opening ≡ old.opening
      → newest new ≡ newest old → new.stored ≡ old.stored
      → (new.has_failed ≡ false → (is_durable : Bool) × (now (history new.dir) (newest new) ≡ Some (file_with new.begun is_durable))) → (new.has_failed ≡ false → new.begun ≡ answered old.stored)
      → LeavesOnly (history new.opening) (history new.dir) (λ folder. IsBeginning folder (newest new) 0 new.begun) → Keeps is_honest history new
  keeps_on old new kept honest passes opening named stored written begun begins = record {
    begins = begins;
    honest = record { dir = honest; written = written };
    begun = λ ready. begun ready ∙ ap answered (sym stored);
    stored = subst (AnsweredStay (history new.dir) (newest new)) (sym stored) (subst (λ n. AnsweredStay (history new.dir) n old.stored) (sym named)
        (answers_on (history old.dir) (history new.dir) (newest old) old.stored passes kept.stored));
    older = subst (λ o. (name : List ℕ) (events : List Event) → IsSafe (now (history o)) name events → StaysSafe (history o) (history new.dir) name events) (sym opening)
        (older_on history old.opening old.dir new.dir passes kept.older);
  }

  -- over a call that answers
  pub keeps_more : (old new : SeriesView D) (receipt : StoredView) → Keeps is_honest history old → is_honest new.dir → Passes (history old.dir) (history new.dir) → new.opening ≡ old.opening
      → newest new ≡ newest old → new.stored ≡ record { stored = receipt; since = (history new.dir).moment } ∷ old.stored → old.has_failed ≡ false
      → new.begun ≡ old.begun ++ under receipt.tag receipt.entries → now (history new.dir) (newest new) ≡ Some (file_with new.begun true) → IsSafe (now (history new.dir)) (newest new) new.begun
      → LeavesOnly (history new.opening) (history new.dir) (λ folder. IsBeginning folder (newest new) 0 new.begun) → Keeps is_honest history new
  keeps_more old new receipt kept honest passes opening named stored ready begun found safe begins =
      let all : new.begun ≡ answered old.stored ++ under receipt.tag receipt.entries = begun ∙ ap (λ es. es ++ under receipt.tag receipt.entries) (kept.begun ready) in
      record {
        begins = begins;
        honest = record { dir = honest; written = λ _. (true, found) };
        begun = λ _. all ∙ ap answered (sym stored);
        stored = subst (AnsweredStay (history new.dir) (newest new)) (sym stored)
            (answers_more (history old.dir) (history new.dir) (newest new) old.stored receipt passes
            (subst (λ n. AnsweredStay (history old.dir) n old.stored) (sym named) kept.stored)
            (subst (IsSafe (now (history new.dir)) (newest new)) all safe));
        older = subst (λ o. (name : List ℕ) (events : List Event) → IsSafe (now (history o)) name events → StaysSafe (history o) (history new.dir) name events) (sym opening)
            (older_on history old.opening old.dir new.dir passes kept.older);
      }

  -- what a stop leaves at each moment of a write, of which room was made before
  pub begun_write : (old : SeriesView D) (mid new : D) (events : List Event) → IsHonest is_honest history old → old.has_failed ≡ false → AllByRecursion IsEvent old.begun
      → Elapses (history old.dir) (history mid) → SameDisk (now (history mid)) (now (history old.dir))
      → ((is_durable : Bool) → now (history mid) (newest old) ≡ Some (file_with old.begun is_durable)
      → LeavesOnly (history mid) (history new) (λ folder. IsBeginning folder (newest old) (length old.begun) (old.begun ++ events)))
      → LeavesOnly (history old.dir) (history new) (λ folder. IsBeginning folder (newest old) (length old.begun) (old.begun ++ events))
  begun_write old mid new events honest ready each time same write =
      let w = honest.written ready in
      begun_joined (history old.dir) (history mid) (history new) (newest old) old.begun events
      (begun_rests (history old.dir) (history mid) (newest old) old.begun events w.0 w.1 each time same) (write w.0 (same (newest old) ∙ w.1))

  -- and of one to a sink that the caller sees so
  pub begun_given : (opened : Option (List ℕ)) (old given : SeriesView D) (mid new : D) (events : List Event) → old ≡ given → IsOpen is_honest history opened old
      → (is_honest old.dir → is_honest mid) → (is_honest old.dir → Elapses (history old.dir) (history mid)) → (is_honest old.dir → SameDisk (now (history mid)) (now (history old.dir)))
      → (is_honest mid → (is_durable : Bool) → now (history mid) (newest old) ≡ Some (file_with old.begun is_durable)
      → LeavesOnly (history mid) (history new) (λ folder. IsBeginning folder (newest old) (length old.begun) (old.begun ++ events)))
      → is_honest given.opening → given.has_failed ≡ false
      → LeavesOnly (history given.dir) (history new) (λ folder. IsBeginning folder (newest given) (length given.begun) (given.begun ++ events))
  begun_given opened old given mid new events view is on time same write =
      subst
      (λ (s : SeriesView D). is_honest s.opening → s.has_failed ≡ false → LeavesOnly (history s.dir) (history new) (λ folder. IsBeginning folder (newest s) (length s.begun) (s.begun ++ events)))
      view
      (λ honest ready.
      let k = (is.kept honest).honest in
      begun_write old mid new events k ready is.sound.each (time k.dir) (same k.dir) (write (on k.dir)))

  -- over a write that failed
  pub keeps_failed : (old : SeriesView D) (new : D) (events next : List Event) → Keeps is_honest history old → is_honest new → Passes (history old.dir) (history new)
      → LeavesOnly (history old.dir) (history new) (λ folder. IsBeginning folder (newest old) (length old.begun) (old.begun ++ events)) → next ≡ old.begun ++ events
      → Keeps is_honest history (record old { dir = new; begun = next; has_failed = true })
  keeps_failed old new events next kept honest passes moments is =
      keeps_on old (record old { dir = new; begun = next; has_failed = true }) kept honest passes refl refl refl (λ ready. absurd (true≢false ready)) (λ ready. absurd (true≢false ready))
      (begins_write (history old.opening) (history old.dir) (history new) (newest old) old.begun events next kept.begins moments is)

  -- the newest file after a write, of which room was made before
  pub file_written : (old : SeriesView D) (mid new : D) (events next : List Event) (bytes : List ℕ) → IsHonest is_honest history old → old.has_failed ≡ false
      → SameDisk (now (history mid)) (now (history old.dir)) → bytes ≡ run_of events → Changes (newest old) (λ f. flushed (with_bytes bytes f)) (now (history mid)) (now (history new))
      → next ≡ old.begun ++ events → now (history new) (newest old) ≡ Some (kept_file (run_of next))
  file_written old mid new events next bytes honest ready same held changes is =
      let w = honest.written ready in
      written_file (now (history mid)) (now (history new)) (newest old) bytes old.begun events w.0 (same (newest old) ∙ w.1) held changes
      ∙ ap (λ (es : List Event). Some (kept_file (run_of es))) (sym is)

  -- over a write that is answered
  pub keeps_answered : (old : SeriesView D) (new : D) (receipt : StoredView) (stored : List Answer) (events next : List Event) → Keeps is_honest history old → is_honest new
      → Passes (history old.dir) (history new) → old.has_failed ≡ false → events ≡ under receipt.tag receipt.entries
      → LeavesOnly (history old.dir) (history new) (λ folder. IsBeginning folder (newest old) (length old.begun) (old.begun ++ events)) → next ≡ old.begun ++ events
      → stored ≡ record { stored = receipt; since = (history new).moment } ∷ old.stored → AllByRecursion IsEvent next → now (history new) (newest old) ≡ Some (kept_file (run_of next))
      → Keeps is_honest history (record old { dir = new; begun = next; stored = stored })
  keeps_answered old new receipt stored events next kept honest passes ready receipt_is moments is stored_is each found =
      keeps_more old (record old { dir = new; begun = next; stored = stored }) receipt kept honest passes refl refl stored_is ready
      (is ∙ ap (λ (es : List Event). old.begun ++ es) receipt_is) found (kept_safe (now (history new)) (newest old) next each found)
      (begins_write (history old.opening) (history old.dir) (history new) (newest old) old.begun events next kept.begins moments is)

  -- the caller's view of an open sink
  pub honest_given : (old given : SeriesView D) → old ≡ given → is_honest given.opening → is_honest old.opening
  honest_given old given view = subst (λ (s : SeriesView D). is_honest s.opening) (sym view)

  pub never_both : (old given : SeriesView D) → old ≡ given → old.has_failed ≡ false → given.has_failed ≡ true → ⊥
  never_both old given view ready failed = true≢false (sym failed ∙ sym (ap (λ (s : SeriesView D). s.has_failed) view) ∙ ready)

  -- a call that leaves the disk as it was, as the caller sees it
  pub same_given : (opened : Option (List ℕ)) (old given : SeriesView D) (mid : D) (Refused : Type 0) → old ≡ given → IsOpen is_honest history opened old
      → (is_honest old.dir → SameDisk (now (history mid)) (now (history old.dir))) → is_honest given.opening → Refused → SameDisk (now (history mid)) (now (history given.dir))
  same_given opened old given mid Refused view is same =
      subst (λ (s : SeriesView D). is_honest s.opening → Refused → SameDisk (now (history mid)) (now (history s.dir))) view (λ honest _. same (is.kept honest).honest.dir)

  pub rest_safe_given : (opened : Option (List ℕ)) (old given : SeriesView D) (mid : D) → old ≡ given → IsOpen is_honest history opened old
      → (is_honest old.dir → Elapses (history old.dir) (history mid)) → (is_honest old.dir → SameDisk (now (history mid)) (now (history old.dir))) → is_honest given.opening
      → (name : List ℕ) (events : List Event) → IsSafe (now (history given.dir)) name events → StaysSafe (history given.dir) (history mid) name events
  rest_safe_given opened old given mid view is time same =
      subst (λ (s : SeriesView D). is_honest s.opening → (name : List ℕ) (events : List Event) → IsSafe (now (history s.dir)) name events → StaysSafe (history s.dir) (history mid) name events) view
      (λ honest name events. let h = (is.kept honest).honest.dir in safe_rests (history old.dir) (history mid) name events (time h) (same h))

  pub rest_others_given : (opened : Option (List ℕ)) (old given : SeriesView D) (mid : D) → old ≡ given → IsOpen is_honest history opened old
      → (is_honest old.dir → Elapses (history old.dir) (history mid)) → (is_honest old.dir → SameDisk (now (history mid)) (now (history old.dir))) → is_honest given.opening
      → OthersStay (history given.dir) (history mid) (newest given)
  rest_others_given opened old given mid view is time same =
      subst (λ (s : SeriesView D). is_honest s.opening → OthersStay (history s.dir) (history mid) (newest s)) view
      (λ honest. let h = (is.kept honest).honest.dir in others_rest (history old.dir) (history mid) (newest old) (time h) (same h))

  pub rest_begun_given : (opened : Option (List ℕ)) (old given : SeriesView D) (mid : D) (events : List Event) → old ≡ given → IsOpen is_honest history opened old
      → (is_honest old.dir → Elapses (history old.dir) (history mid)) → (is_honest old.dir → SameDisk (now (history mid)) (now (history old.dir))) → is_honest given.opening
      → given.has_failed ≡ false → LeavesOnly (history given.dir) (history mid) (λ folder. IsBeginning folder (newest given) (length given.begun) (given.begun ++ events))
  rest_begun_given opened old given mid events view is time same =
      subst
      (λ (s : SeriesView D). is_honest s.opening → s.has_failed ≡ false → LeavesOnly (history s.dir) (history mid) (λ folder. IsBeginning folder (newest s) (length s.begun) (s.begun ++ events)))
      view
      (λ honest ready.
      let k = (is.kept honest).honest in
      let w = k.written ready in
      begun_rests (history old.dir) (history mid) (newest old) old.begun events w.0 w.1 is.sound.each (time k.dir) (same k.dir))

  -- a write, as the caller sees it
  pub safe_given : (opened : Option (List ℕ)) (old given : SeriesView D) (mid new : D) → old ≡ given → IsOpen is_honest history opened old → (is_honest old.dir → is_honest mid)
      → (is_honest old.dir → Elapses (history old.dir) (history mid)) → (is_honest old.dir → SameDisk (now (history mid)) (now (history old.dir)))
      → (is_honest mid → OthersStay (history mid) (history new) (newest old))
      → (is_honest mid → (name : List ℕ) (events : List Event) → IsSafe (now (history mid)) name events → StaysSafe (history mid) (history new) name events)
      → is_honest given.opening → (name : List ℕ) (events : List Event) → IsSafe (now (history given.dir)) name events → StaysSafe (history given.dir) (history new) name events
  safe_given opened old given mid new view is on time same others safe =
      subst (λ (s : SeriesView D). is_honest s.opening → (name : List ℕ) (events : List Event) → IsSafe (now (history s.dir)) name events → StaysSafe (history s.dir) (history new) name events) view
      (λ honest.
      let h = (is.kept honest).honest.dir in
      (wrote (history old.dir) (history mid) (history new) (newest old) (time h) (same h) (others (on h)) (safe (on h))).safe)

  pub others_given : (opened : Option (List ℕ)) (old given : SeriesView D) (mid new : D) → old ≡ given → IsOpen is_honest history opened old → (is_honest old.dir → is_honest mid)
      → (is_honest old.dir → Elapses (history old.dir) (history mid)) → (is_honest old.dir → SameDisk (now (history mid)) (now (history old.dir)))
      → (is_honest mid → OthersStay (history mid) (history new) (newest old)) → is_honest given.opening → OthersStay (history given.dir) (history new) (newest given)
  others_given opened old given mid new view is on time same others =
      subst (λ (s : SeriesView D). is_honest s.opening → OthersStay (history s.dir) (history new) (newest s)) view
      (λ honest. let h = (is.kept honest).honest.dir in others_behind (history old.dir) (history mid) (history new) (newest old) (time h) (same h) (others (on h)))

-- what the folder counted over a call, as the caller sees it
module _ {D : Type 0} (count : D → ℕ) (old given : SeriesView D) (view : old ≡ given) where
  pub memory_given : {T : Type 0} (new : D) (r : Result T SeriesFault) → count new ≡ count old.dir → IsErrAnd r (λ y. y ≡ series.Memory) → HasCause (count given.dir) (count new) r
  memory_given new r same is = memory_cause (count given.dir) (count new) r (same ∙ ap (λ (s : SeriesView D). count s.dir) view) (told series.Memory r is)

  pub ok_given : {T : Type 0} (mid new : D) (x : T) → count new ≡ count mid → count mid ≡ count old.dir → HasCause (count given.dir) (count new) (Ok x)
  ok_given mid new x passed same = ok_cause (count given.dir) (count new) x (passed ∙ same ∙ ap (λ (s : SeriesView D). count s.dir) view)

  pub refused_given : {T U : Type 0} (mid new : D) (d : DirError) (e : SeriesFault) → HasDirCause {T = T} (count mid) (count new) (Err d) → count mid ≡ count old.dir → e ≡ fault_of d
      → HasCause {T = U} (count given.dir) (count new) (Err e)
  refused_given {T = T} mid new d e cause same is =
      refused_cause {T = T} (count given.dir) (count mid) (count new) (count new) d (Err e) cause (same ∙ ap (λ (s : SeriesView D). count s.dir) view) refl (ap Err is)
