-- What a sink keeps while time goes on.
use Rattle.std.proofs.Common.{ℕ, ◌≡◌, List, [], ◌∷◌, ◌++◌, Option, Some, None, Result, Ok, Err, ap, refl, sym, subst, ◌∙◌}
use Rattle.std.specs.Prelude.{IfSome}
use Rattle.std.specs.List.{AllByRecursion, flat_map}
use Rattle.disk_files.specs.Calls.{LeavesAlone}
use Rattle.disk_files.specs.Moments.{History}
use Rattle.sink_series.specs.Views.{SeriesView, StoredView, Answer, newest}
use Rattle.sink_series.specs.Keeping.{AnsweredStay, Keeps}
use Rattle.sink_series.specs.Names.{sink_name}
use Rattle.sink_series.specs.declared.fault.SeriesFault.{SeriesFault}
use Rattle.sink_series.proofs.Kept.{Passes, passes_both, passes_rest, answers_on}
use Rattle.sink_series.specs.RotationViews.{FileView, Kept, RotationView, newest_file, kept_in, answers_of}
use Rattle.sink_series.specs.RotationKeeping.{open_of, dir_of, Lasts, IsRotating, KeepsAll, Added, Answers}
use Rattle.sink_series.specs.Steps.{GoesOn, SameFile, BeginsIn, IsBegun, Writes}
use Rattle.sink_series.specs.declared.rotation.Files.{Files}
use Rattle.sink_series.specs.declared.rotation.Files.TheVariants.{Open, Shut}
use Rattle.sink_series.specs.declared.limits.FileLimits.{FileLimits}

passes : (old new : History) → Lasts old new → Passes old new
passes old new lasts = record { later = lasts.later; past = lasts.past; safe = lasts.older }

lasts_both : (old mid new : History) → Lasts old mid → Lasts mid new → Lasts old new
lasts_both old mid new first second =
    let both = passes_both old mid new (passes old mid first) (passes mid new second) in
    record { later = both.later; past = both.past; older = both.safe }

-- the files' answers stay
all_on : (old new : History) (files : List FileView) → Passes old new → AllByRecursion (λ (file : FileView). AnsweredStay old file.name file.stored) files
    → AllByRecursion (λ (file : FileView). AnsweredStay new file.name file.stored) files
all_on old new [] on stay = tt
all_on old new (file ∷ files) on stay = (answers_on old new file.name file.stored on stay.0, all_on old new files on stay.1)

module _ {D A : Type 0} (is_honest : D → Type 0) (history : D → History) where
  -- after a write
  pub written : (old new : Files D A) (opening : D) (path : List ℕ) (limits : FileLimits) (closed : List FileView) (size since size' since' : ℕ) (retry retry' : Option ℕ)
      → GoesOn is_honest history old new → SameFile (open_of old) (open_of new)
      → IsRotating is_honest history (record { dir = dir_of old; opening = opening; path = path; limits = limits; closed = closed; open_one = open_of old; size = size; since = since; retry = retry })
      → IsRotating is_honest history (record { dir = dir_of new; opening = opening; path = path; limits = limits; closed = closed; open_one = open_of new; size = size'; since = since'; retry = retry' })
  written (Shut dir) (Open after) opening path limits closed size since size' since' retry retry' on same is = absurd on
  written (Open before) (Shut left) opening path limits closed size since size' since' retry retry' on same is = absurd on
  written (Shut dir) (Shut left) opening path limits closed size since size' since' retry retry' on same is = record {
    path = tt;
    kept = λ honest.
        let k = is.kept honest in
        record {
          dir = subst is_honest (sym on) k.dir;
          answers = subst (λ d. AllByRecursion (λ (file : FileView). AnsweredStay (history d) file.name file.stored) closed) (sym on) k.answers;
          lasts = subst (λ d. Lasts (history opening) (history d)) (sym on) k.lasts;
          newest = tt;
        };
  }
  written (Open before) (Open after) opening path limits closed size since size' since' retry retry' on same is = record {
    path = same.0 ∙ is.path;
    kept = λ honest.
        let k = is.kept honest in
        let o = on k.newest.0 in
        record {
          dir = o.0.honest.dir;
          answers = (o.0.stored, all_on (history before.dir) (history after.dir) closed (passes _ _ o.1) k.answers.1);
          lasts = lasts_both _ _ _ k.lasts o.1;
          newest = (subst is_honest (sym same.1) k.newest.0, o.0);
        };
  }

  -- where the open file was closed
  module _ (fault_count : D → ℕ) (old : Files D A) (dir : D) (alone : LeavesAlone is_honest history fault_count (dir_of old) dir) where
    shut_passes : is_honest (dir_of old) → Passes (history (dir_of old)) (history dir)
    shut_passes honest = passes_rest (history (dir_of old)) (history dir) (alone.time honest) (alone.same honest)

    shut_answers : (files all : List FileView) → all ≡ files → is_honest (dir_of old) → AllByRecursion (λ (file : FileView). AnsweredStay (history (dir_of old)) file.name file.stored) files
        → AllByRecursion (λ (file : FileView). AnsweredStay (history dir) file.name file.stored) all
    shut_answers files all is honest stay =
        subst (AllByRecursion (λ (file : FileView). AnsweredStay (history dir) file.name file.stored)) (sym is) (all_on (history (dir_of old)) (history dir) files (shut_passes honest) stay)

    shut_lasts : (opening : D) → is_honest (dir_of old) → Lasts (history opening) (history (dir_of old)) → Lasts (history opening) (history dir)
    shut_lasts opening honest lasts =
        let on = shut_passes honest in
        lasts_both _ _ _ lasts (record { later = on.later; past = on.past; older = on.safe })

    pub shut_keeps : (opening : D) (path : List ℕ) (limits : FileLimits) (closed : List FileView) (size since : ℕ) (retry : Option ℕ)
        → IsRotating is_honest history (record { dir = dir_of old; opening = opening; path = path; limits = limits; closed = closed; open_one = open_of old; size = size; since = since; retry = retry })
        → is_honest opening
        → KeepsAll is_honest history (record { dir = dir; opening = opening; path = path; limits = limits; closed = newest_file (open_of old) ++ closed; open_one = None; size = size; since = since; retry = retry })
    shut_keeps opening path limits closed size since retry sink honest =
        let k = sink.kept honest in
        let all = newest_file (open_of old) ++ closed in
        record {
          dir = alone.honest k.dir;
          answers = shut_answers all all refl k.dir k.answers;
          lasts = shut_lasts opening k.dir k.lasts;
          newest = tt;
        }

  -- where the next file was begun, or none
  begun_answers : (files : Files D A) (dir : D) (path : List ℕ) (all : List FileView) → BeginsIn is_honest history dir files
      → AllByRecursion (λ (file : FileView). AnsweredStay (history dir) file.name file.stored) all
      → AllByRecursion (λ (file : FileView). AnsweredStay (history (dir_of files)) file.name file.stored) (newest_file (open_of files) ++ all)
  begun_answers (Shut left) dir path all begins stay = all_on (history dir) (history left) all (passes _ _ begins.lasts) stay
  begun_answers (Open series) dir path all begins stay = (begins.newest.stored, all_on (history dir) (history series.dir) all (passes _ _ begins.lasts) stay)

  begun_path : (files : Files D A) (dir : D) (path : List ℕ) → IsBegun dir path (open_of files) → IfSome (open_of files) (λ (series : SeriesView D). series.path ≡ path)
  begun_path (Shut left) dir path is = tt
  begun_path (Open series) dir path is = is.1

  begun_newest : (files : Files D A) (dir : D) (path : List ℕ) → is_honest dir → BeginsIn is_honest history dir files → IsBegun dir path (open_of files)
      → IfSome (open_of files) (λ (series : SeriesView D). is_honest series.opening × Keeps is_honest history series)
  begun_newest (Shut left) dir path honest begins is = tt
  begun_newest (Open series) dir path honest begins is = (subst is_honest (sym is.0) honest, begins.newest)

  pub begun : (fault_count : D → ℕ) (old new : Files D A) (opening dir : D) (path : List ℕ) (limits : FileLimits) (closed all : List FileView) (size since size' since' : ℕ) (retry retry' : Option ℕ)
      → LeavesAlone is_honest history fault_count (dir_of old) dir → all ≡ newest_file (open_of old) ++ closed
      → (is_honest dir → BeginsIn is_honest history dir new) → IsBegun dir path (open_of new)
      → IsRotating is_honest history (record { dir = dir_of old; opening = opening; path = path; limits = limits; closed = closed; open_one = open_of old; size = size; since = since; retry = retry })
      → IsRotating is_honest history (record { dir = dir_of new; opening = opening; path = path; limits = limits; closed = all; open_one = open_of new; size = size'; since = since'; retry = retry' })
  begun fault_count old new opening dir path limits closed all size since size' since' retry retry' alone files begins is sink = record {
    path = begun_path new dir path is;
    kept = λ honest.
        let k = sink.kept honest in
        let here = alone.honest k.dir in
        let b = begins here in
        record {
          dir = b.honest;
          answers = begun_answers new dir path all b (shut_answers fault_count old dir alone (newest_file (open_of old) ++ closed) all files k.dir k.answers);
          lasts = lasts_both _ _ _ (shut_lasts fault_count old dir alone opening k.dir k.lasts) b.lasts;
          newest = begun_newest new dir path here b is;
        };
  }

-- ---- the answers

-- all of them, where the newest file has this name and these
abbrev all_with : List FileView → List ℕ → List Answer → List Kept
all_with closed name stored = flat_map kept_in (record { name = name; stored = stored } ∷ closed)

same_name : {D : Type 0} → (before after : SeriesView D) → after.path ≡ before.path → after.number ≡ before.number → newest after ≡ newest before
same_name before after path number = ap (λ (p : List ℕ). sink_name p after.number) path ∙ ap (sink_name before.path) number

one_more : (closed : List FileView) (name name' : List ℕ) (stored stored' : List Answer) (answer : Answer) → name' ≡ name → stored' ≡ answer ∷ stored
    → all_with closed name' stored' ≡ record { name = name; answer = answer } ∷ all_with closed name stored
one_more closed name name' stored stored' answer named more =
    ap (λ (n : List ℕ). all_with closed n stored') named ∙ ap (all_with closed name) more

-- a sink of which only the open file and those before it count
abbrev pub answers_with : {D : Type 0} → Option (SeriesView D) → List FileView → List Kept
answers_with open_one closed = flat_map kept_in (newest_file open_one ++ closed)

answered_in : {D : Type 0} → (before after : Option (SeriesView D)) (closed : List FileView) (path tag : List ℕ) (entries : List (List ℕ)) (result : Result StoredView SeriesFault)
    → Writes before after tag entries result → SameFile before after → IfSome before (λ (series : SeriesView D). series.path ≡ path)
    → Added (answers_with before closed) (answers_with after closed) (record { path = path; tag = tag; entries = entries }) result
answered_in None after closed path tag entries (Ok stored) wrote same at = absurd wrote
answered_in None after closed path tag entries (Err why) wrote same at = ap (λ o. answers_with o closed) wrote
answered_in (Some before) None closed path tag entries result wrote same at = absurd same
answered_in (Some before) (Some after) closed path tag entries (Ok stored) wrote same at =
    let is : stored ≡ record { path = path; tag = tag; entries = entries } = wrote.0 ∙ ap (λ (p : List ℕ). record { path = p; tag = tag; entries = entries }) at in
    let answer : Answer = record { stored = stored; since = wrote.1.0 } in
    let last : Kept = record { name = newest before; answer = answer } in
    (is, (last, is, one_more closed (newest before) (newest after) before.stored after.stored answer (same_name before after same.0 same.2) wrote.1.1))
answered_in (Some before) (Some after) closed path tag entries (Err why) wrote same at =
    ap (λ (n : List ℕ). all_with closed n after.stored) (same_name before after same.0 same.2) ∙ ap (all_with closed (newest before)) wrote

pub answered : {D : Type 0} → (old new : RotationView D) (tag : List ℕ) (entries : List (List ℕ)) (result : Result StoredView SeriesFault) → new.closed ≡ old.closed
    → Writes old.open_one new.open_one tag entries result → SameFile old.open_one new.open_one → IfSome old.open_one (λ (series : SeriesView D). series.path ≡ old.path)
    → Answers old new (record { path = old.path; tag = tag; entries = entries }) result
answered old new tag entries result closed wrote same path =
    subst (λ (files : List FileView). Added (answers_of old) (flat_map kept_in (newest_file new.open_one ++ files)) (record { path = old.path; tag = tag; entries = entries }) result) (sym closed)
    (answered_in old.open_one new.open_one old.closed old.path tag entries result wrote same path)
