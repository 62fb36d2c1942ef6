-- Files that are printed one behind another.
use Rattle.std.proofs.Common.{ℕ, ◌≡◌, Bool, true, false, List, [], ◌∷◌, ◌++◌, Option, Some, None, Ok, Err, inl, inr, refl, sym, ◌∙◌, subst, append-nil}
use Rattle.std.specs.Prelude.{IfSome}
use Rattle.std.specs.Io.KnownBytes.{Appends}
use Rattle.std.proofs.KnownBytes.{Appends-nil, Appends-trans}
use Rattle.program_text.specs.Listings.{AreListed}
use Rattle.program_text.specs.Output.{TakesPart}
use Rattle.program_text.specs.declared.status.Status.TheVariants.{Usage}
use Rattle.program_text.proofs.ListingSteps.{none_listed, listed_push}
use Rattle.event_listing.specs.Choices.{Chosen}
use Rattle.event_listing.specs.Lines.{PrintsAll, PrintsSome}
use Rattle.event_listing.specs.Notes.{IsEndNote, IsJournalNote}
use Rattle.event_listing.specs.Files.{status_of, AreWhole, IsBegun, IsJournalSaid, IsNoted, IsWhole, PrintsEvents, PrintsNamed}
use Rattle.event_listing.specs.Forms.{Items}
use Rattle.event_listing.specs.Live.{is_readable, live_events, IsJournalBegun, IsJournalEnd, PrintsAllLive, PrintsJournal, PrintsSomeLive}
use Rattle.folder_listing.specs.Files.{Named}
use Rattle.folder_listing.specs.declared.kind.Kind.TheVariants.{Journal, Sink}
use Rattle.event_listing.specs.declared.journal.JournalEnd.{JournalEnd}
use Rattle.event_listing.specs.declared.journal.JournalEnd.TheVariants as journal
use Rattle.event_listing.specs.Reading.{is_ended, IsEnd, PrintsFile}
use Rattle.event_listing.specs.Shown.{Shown, ShowsAll}
use Rattle.event_listing.specs.declared.sink.End.{End}
use Rattle.event_listing.specs.declared.sink.End.TheVariants.{Ended, Damaged}
use Rattle.event_listing.specs.declared.stop.Stop.{Stop}
use Rattle.event_listing.specs.declared.stop.Stop.TheVariants.{Read}
use Rattle.event_listing.proofs.Outputs.{shown_behind, shows_more, shows_none, some_shown}
use Rattle.event_listing.proofs.Pieces.{some_of_all}

-- ---- a sink's file

-- all that a file holds is a beginning too
begun_of_whole : (chosen : Chosen) (known : Option (List ℕ)) (text : List ℕ) (end : End) → IfSome known (λ bytes. (rest : List ℕ) × PrintsAll Items chosen bytes text rest × IsEnd bytes rest end)
    → IsBegun Sink chosen known text
begun_of_whole chosen None text end whole = tt
begun_of_whole chosen (Some bytes) text end whole = subst (λ z. PrintsSome Items chosen z text) (append-nil bytes) (some_of_all Items chosen bytes text whole.0 [] whole.1)

whole_of : (chosen : Chosen) (known : Option (List ℕ)) (text : List ℕ) (end : End) → IfSome known (λ bytes. (rest : List ℕ) × PrintsAll Items chosen bytes text rest × IsEnd bytes rest end)
    → IsWhole Sink chosen known text
whole_of chosen None text end whole = tt
whole_of chosen (Some bytes) text end whole = (whole.0, whole.1)

-- what is written of what is said of it
noted_of : (chosen : Chosen) (known : Option (List ℕ)) (name text line : List ℕ) (at behind : ℕ) (old new : Option (List ℕ)) (unseen : List ℕ)
    → IfSome known (λ bytes. (rest : List ℕ) × PrintsAll Items chosen bytes text rest × IsEnd bytes rest (Ended at behind)) → IsEndNote name (Ended at behind) line → TakesPart old new line unseen
    → (written : List ℕ) × Appends old new written × IsNoted Sink known name written
noted_of chosen None name text line at behind old new unseen whole said takes =
    (takes.written, takes.appends, record { line = line; unseen = unseen; line_is = takes.whole; said = tt })
noted_of chosen (Some bytes) name text line at behind old new unseen whole said takes = (
  takes.written,
  takes.appends,
  record {
    line = line;
    unseen = unseen;
    line_is = takes.whole;
    said = record {
      events = whole.1.events;
      holds = record { each = whole.1.each; rest = whole.0; whole = whole.1.whole; torn = whole.1.torn };
      at = at;
      behind = behind;
      end_is = whole.2;
      said = said;
    };
  },
)

-- the file is read to its end, or to where it is damaged
pub named_ended : (chosen : Chosen) (known : Option (List ℕ)) (name : List ℕ) (old new : Shown) (old_notes new_notes : Option (List ℕ)) (end : End) (sound : Bool) (line unseen : List ℕ)
    → PrintsFile Items chosen known old new (Ok end) → sound ≡ is_ended end → IsEndNote name end line → TakesPart old_notes new_notes line unseen
    → PrintsNamed Sink known chosen name (old, new) (old_notes, new_notes) (Ok sound)
named_ended chosen known name old new old_notes new_notes (Ended at behind) sound line unseen file is said takes = record {
  text = file.text;
  shown = file.shown;
  begun = begun_of_whole chosen known file.text (Ended at behind) file.ends;
  ends = λ e. (whole_of chosen known file.text (Ended at behind) file.ends, noted_of chosen known name file.text line at behind old_notes new_notes unseen file.ends said takes);
}
named_ended chosen known name old new old_notes new_notes (Damaged at) sound line unseen file is said takes = record {
  text = file.text;
  shown = file.shown;
  begun = begun_of_whole chosen known file.text (Damaged at) file.ends;
  ends = λ e. absurd (cc (e, is));
}

-- its reader failed
pub named_unread : (chosen : Chosen) (known : Option (List ℕ)) (name : List ℕ) (old new : Shown) (old_notes new_notes : Option (List ℕ)) → PrintsFile Items chosen known old new (Err Read)
    → PrintsNamed Sink known chosen name (old, new) (old_notes, new_notes) (Ok false)
named_unread chosen known name old new old_notes new_notes file = record {
  text = file.text;
  shown = file.shown;
  begun = file.ends;
  ends = λ e. absurd (cc e);
}

-- memory ran out, or the writer failed
pub named_stopped : (chosen : Chosen) (known : Option (List ℕ)) (name : List ℕ) (old new : Shown) (old_notes new_notes : Option (List ℕ)) (stop : Stop) → PrintsFile Items chosen known old new (Err stop)
    → PrintsNamed Sink known chosen name (old, new) (old_notes, new_notes) (Err stop)
named_stopped chosen known name old new old_notes new_notes stop file =
    record { text = file.text; shown = file.shown; begun = file.ends; ends = tt }

-- ---- a journal

-- all that it holds live is a beginning too
live_begun : (chosen : Chosen) (bytes text : List ℕ) (used : ℕ) → PrintsAllLive chosen bytes text used → PrintsSomeLive chosen bytes text
live_begun chosen bytes text used all = record {
  state = all.state;
  used = used;
  replayed = all.replayed;
  some = record { first = live_events all.state; others = []; whole = sym (append-nil (live_events all.state)); printed = all.printed };
}

journal_begun : (chosen : Chosen) (known : Option (List ℕ)) (text : List ℕ) (end : JournalEnd) → IfSome known (λ bytes. IsJournalEnd chosen bytes text end) → IsBegun Journal chosen known text
journal_begun chosen None text end ends = tt
journal_begun chosen (Some bytes) text (journal.Sealed at behind) ends = inr (live_begun chosen bytes text at ends.0)
journal_begun chosen (Some bytes) text journal.Unsealed ends = inl ends.0
journal_begun chosen (Some bytes) text journal.Damaged ends = inl ends.0

journal_whole : (chosen : Chosen) (known : Option (List ℕ)) (text : List ℕ) (end : JournalEnd) → is_readable end ≡ true → IfSome known (λ bytes. IsJournalEnd chosen bytes text end) → IsWhole Journal chosen known text
journal_whole chosen None text end is ends = tt
journal_whole chosen (Some bytes) text (journal.Sealed at behind) is ends = inl (at, ends.0)
journal_whole chosen (Some bytes) text journal.Unsealed is ends = inr ends
journal_whole chosen (Some bytes) text journal.Damaged is ends = absurd (cc is)

journal_said : (chosen : Chosen) (bytes name text line : List ℕ) (end : JournalEnd) → is_readable end ≡ true → IsJournalEnd chosen bytes text end → IsJournalNote name end line → IsJournalSaid bytes name line
journal_said chosen bytes name text line (journal.Sealed at behind) is ends said =
    inl (ends.0.state, at, ends.0.replayed, subst (λ n. IsJournalNote name (journal.Sealed at n) line) ends.1 said)
journal_said chosen bytes name text line journal.Unsealed is ends said = inr (ends.1, said)
journal_said chosen bytes name text line journal.Damaged is ends said = absurd (cc is)

-- what is written of what is said of it
journal_noted : (chosen : Chosen) (known : Option (List ℕ)) (name text line : List ℕ) (end : JournalEnd) (old new : Option (List ℕ)) (unseen : List ℕ) → is_readable end ≡ true
    → IfSome known (λ bytes. IsJournalEnd chosen bytes text end) → IsJournalNote name end line → TakesPart old new line unseen → (written : List ℕ) × Appends old new written × IsNoted Journal known name written
journal_noted chosen None name text line end old new unseen is ends said takes =
    (takes.written, takes.appends, record { line = line; unseen = unseen; line_is = takes.whole; said = tt })
journal_noted chosen (Some bytes) name text line end old new unseen is ends said takes = (
  takes.written,
  takes.appends,
  record { line = line; unseen = unseen; line_is = takes.whole; said = journal_said chosen bytes name text line end is ends said },
)

-- the journal is read to its end, or damaged
pub journal_ended : (chosen : Chosen) (known : Option (List ℕ)) (name : List ℕ) (old new : Shown) (old_notes new_notes : Option (List ℕ)) (end : JournalEnd) (sound : Bool) (line unseen : List ℕ)
    → PrintsJournal chosen known old new (Ok end) → sound ≡ is_readable end → IsJournalNote name end line → TakesPart old_notes new_notes line unseen
    → PrintsNamed Journal known chosen name (old, new) (old_notes, new_notes) (Ok sound)
journal_ended chosen known name old new old_notes new_notes end sound line unseen file is said takes = record {
  text = file.text;
  shown = file.shown;
  begun = journal_begun chosen known file.text end file.ends;
  ends = λ e. (journal_whole chosen known file.text end (sym is ∙ e) file.ends, journal_noted chosen known name file.text line end old_notes new_notes unseen (sym is ∙ e) file.ends said takes);
}

begun_so : (chosen : Chosen) (known : Option (List ℕ)) (text : List ℕ) → IfSome known (λ bytes. IsJournalBegun chosen bytes text) → IsBegun Journal chosen known text
begun_so chosen None text begun = tt
begun_so chosen (Some bytes) text begun = begun

-- its reader failed
pub journal_unread : (chosen : Chosen) (known : Option (List ℕ)) (name : List ℕ) (old new : Shown) (old_notes new_notes : Option (List ℕ)) → PrintsJournal chosen known old new (Err Read)
    → PrintsNamed Journal known chosen name (old, new) (old_notes, new_notes) (Ok false)
journal_unread chosen known name old new old_notes new_notes file = record {
  text = file.text;
  shown = file.shown;
  begun = begun_so chosen known file.text file.ends;
  ends = λ e. absurd (cc e);
}

-- memory ran out, or the writer failed
pub journal_stopped : (chosen : Chosen) (known : Option (List ℕ)) (name : List ℕ) (old new : Shown) (old_notes new_notes : Option (List ℕ)) (stop : Stop) → PrintsJournal chosen known old new (Err stop)
    → PrintsNamed Journal known chosen name (old, new) (old_notes, new_notes) (Err stop)
journal_stopped chosen known name old new old_notes new_notes stop file =
    record { text = file.text; shown = file.shown; begun = begun_so chosen known file.text file.ends; ends = tt }

-- ---- files, one behind another

-- what is printed of the files so far
pub record SoFar (named : List ℕ → Option (List ℕ)) (chosen : Chosen) (files : List Named) (out : Shown × Shown) (notes : Option (List ℕ) × Option (List ℕ)) (sound : Bool) : Type 0 where
  pub text : List ℕ
  pub written : ShowsAll out.0 out.1 text
  pub begun : AreListed (λ f. IsBegun f.0 chosen (named f.1)) files text
  pub whole : sound ≡ true → AreWhole named chosen files text notes

pub none_so_far : (named : List ℕ → Option (List ℕ)) (chosen : Chosen) (old : Shown) (old_notes : Option (List ℕ)) → SoFar named chosen [] (old, old) (old_notes, old_notes) true
none_so_far named chosen old old_notes = record {
  text = [];
  written = shows_none old;
  begun = none_listed (λ f. IsBegun f.0 chosen (named f.1));
  whole = λ e. record {
    whole = none_listed (λ f. IsWhole f.0 chosen (named f.1));
    written = [];
    appends = Appends-nil old_notes;
    noted = none_listed (λ f. IsNoted f.0 (named f.1) f.1);
  };
}

-- a file more
pub file_printed : (named : List ℕ → Option (List ℕ)) (chosen : Chosen) (files : List Named) (file : Named) (old mid new : Shown) (old_notes mid_notes new_notes : Option (List ℕ)) (sound one both : Bool)
    → SoFar named chosen files (old, mid) (old_notes, mid_notes) sound → PrintsNamed file.0 (named file.1) chosen file.1 (mid, new) (mid_notes, new_notes) (Ok one)
    → (both ≡ true → (sound ≡ true) × (one ≡ true)) → SoFar named chosen (files ++ file ∷ []) (old, new) (old_notes, new_notes) both
file_printed named chosen files file old mid new old_notes mid_notes new_notes sound one both so_far last still = record {
  text = so_far.text ++ last.text;
  written = shows_more old mid new so_far.text last.text so_far.written last.shown;
  begun = listed_push (λ f. IsBegun f.0 chosen (named f.1)) files file so_far.text last.text (so_far.text ++ last.text) so_far.begun last.begun refl;
  whole = λ e.
      let before = so_far.whole (still e).0 in
      let noted = last.ends (still e).1 in
      record {
        whole = listed_push (λ f. IsWhole f.0 chosen (named f.1)) files file so_far.text last.text (so_far.text ++ last.text) before.whole noted.0 refl;
        written = before.written ++ noted.1.0;
        appends = Appends-trans old_notes mid_notes new_notes before.written noted.1.0 before.appends noted.1.1;
        noted = listed_push (λ f. IsNoted f.0 (named f.1) f.1) files file before.written noted.1.0 (before.written ++ noted.1.0) before.noted noted.1.2 refl;
      };
}

-- nothing is printed behind it
pub stops_there : (named : List ℕ → Option (List ℕ)) (chosen : Chosen) (all files others : List Named) (file : Named) (old mid new : Shown) (old_notes mid_notes new_notes last_notes : Option (List ℕ)) (sound : Bool)
    (stop : Stop) → all ≡ (files ++ file ∷ []) ++ others → SoFar named chosen files (old, mid) (old_notes, mid_notes) sound
    → PrintsNamed file.0 (named file.1) chosen file.1 (mid, new) (mid_notes, new_notes) (Err stop) → PrintsEvents named chosen all (old, new) (old_notes, last_notes) Usage
stops_there named chosen all files others file old mid new old_notes mid_notes new_notes last_notes sound stop e so_far last = record {
  text = so_far.text ++ last.text;
  status_is = (
    some_shown old new (so_far.text ++ last.text) stop (shown_behind old mid new so_far.text last.text stop so_far.written last.shown),
    record {
      first = files ++ file ∷ [];
      others = others;
      whole = e;
      begun = listed_push (λ f. IsBegun f.0 chosen (named f.1)) files file so_far.text last.text (so_far.text ++ last.text) so_far.begun last.begun refl;
    },
  );
}

-- that was the last
pub all_printed : (named : List ℕ → Option (List ℕ)) (chosen : Chosen) (files : List Named) (old new : Shown) (old_notes new_notes : Option (List ℕ)) (sound : Bool)
    → SoFar named chosen files (old, new) (old_notes, new_notes) sound → PrintsEvents named chosen files (old, new) (old_notes, new_notes) (status_of sound)
all_printed named chosen files old new old_notes new_notes true so_far = record {
  text = so_far.text;
  status_is = (so_far.written, so_far.whole refl);
}
all_printed named chosen files old new old_notes new_notes false so_far = record {
  text = so_far.text;
  status_is = (so_far.written, so_far.begun);
}
