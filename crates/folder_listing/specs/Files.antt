-- What is printed of the files in a relay's data folder.
use Rattle.std.specs.Prelude.{◌≡◌, ◌-◌, ◌⊎◌, ◌&&◌, ℕ, Bool, true, false, cond, List, [], ◌∷◌, ◌++◌, codes, decimal, length, map, string_bytes, Option}
use Rattle.std.specs.List.{AllByRecursion, flat_map}
use Rattle.buffer_state.specs.Shown.{Facts, numbered_facts}
use Rattle.buffer_state.specs.State.{State, total_size}
use Rattle.buffer_state.specs.declared.chunk.Stage.{Stage}
use Rattle.buffer_state.specs.declared.chunk.Stage.TheVariants.{Staged, Queued, Claimed}
use Rattle.chunk_journal.specs.Meaning.{IsReplayed, EndsUnsealed, IsDamaged}
use Rattle.folder_listing.specs.declared.kind.Kind.{Kind}
use Rattle.folder_listing.specs.declared.kind.Kind.TheVariants.{Journal, Sink}
use Rattle.folder_listing.specs.declared.kind.DataFile.{DataFile}
use Rattle.program_text.specs.Lines.{line, memory_line}
use Rattle.program_text.specs.Output.{IsPrinted}
use Rattle.program_text.specs.Texts.{IsTextOf}
use Rattle.sink_series.specs.Events.{Counts}
use Rattle.program_text.specs.declared.status.Status.{Status}
use Rattle.program_text.specs.declared.status.Status.TheVariants.{Done, No, Usage}

-- What is found in a file: of a journal the state that it means, and how many bytes are torn at its
-- end; that its whole records end before a Seal; or that it is damaged. Of a sink's file how many
-- events it holds, and how many bytes are torn at its end. Of either that it isn't read.
pub data Finding : Type 0 where
  Means : (state : State) (torn : ℕ) → Finding
  Unsealed : Finding
  Damaged : Finding
  Holds : (events torn : ℕ) → Finding
  Unread : Finding

-- this is what the bytes of a journal mean
abbrev pub IsMeaningOf : List ℕ → Finding → Type 0
IsMeaningOf bytes (Means state torn) = (used : ℕ) × IsReplayed bytes state used
    × (torn ≡ length bytes - used)
IsMeaningOf bytes Unsealed = EndsUnsealed bytes
IsMeaningOf bytes Damaged = IsDamaged bytes
IsMeaningOf bytes (Holds events torn) = ⊥
IsMeaningOf bytes Unread = ⊥

-- this is what the bytes of a sink's file hold
abbrev pub IsContentOf : List ℕ → Finding → Type 0
IsContentOf bytes (Means state torn) = ⊥
IsContentOf bytes Unsealed = ⊥
IsContentOf bytes Damaged = ⊥
IsContentOf bytes (Holds events torn) = Counts bytes events torn
IsContentOf bytes Unread = ⊥

-- this is found in the bytes of a file of this kind
abbrev pub IsIn : Kind → List ℕ → Finding → Type 0
IsIn Journal bytes finding = IsMeaningOf bytes finding
IsIn Sink bytes finding = IsContentOf bytes finding

-- the bytes are read, and this is found in them; or they aren't read
abbrev pub IsFindingOf : Kind → Option (List ℕ) → Finding → Type 0
IsFindingOf kind known finding = ((bytes : List ℕ) × IsTextOf known bytes × IsIn kind bytes finding)
    ⊎ (finding ≡ Unread)

-- what a file is called
abbrev pub kind_text : Kind → List ℕ
kind_text Journal = codes "journal"
kind_text Sink = codes "sink"

-- a chunk's state; no journal says that a chunk is claimed
abbrev pub stage_text : Stage → List ℕ
stage_text Staged = codes "staged"
stage_text Queued = codes "queued"
stage_text Claimed = codes "claimed"

-- the line of a chunk: its serial, its state, its tag, how many entries it has, and how many bytes
-- these have
abbrev pub chunk_line : Facts → List ℕ
chunk_line facts =
    line (codes "chunk " ++ decimal facts.serial ++ codes " " ++ stage_text facts.stage ++ codes " "
    ++ facts.tag ++ codes " " ++ decimal facts.count ++ codes " entries " ++ decimal facts.size
    ++ codes " bytes")

-- the line of a file of this kind and name, and behind that of a journal those of its chunks, by
-- rising serial
abbrev pub shown_lines : Kind → List ℕ → Finding → List ℕ
shown_lines kind name (Means state torn) =
    line (kind_text kind ++ codes " " ++ name ++ codes " bytes " ++ decimal (total_size state)
    ++ codes " torn " ++ decimal torn) ++ flat_map chunk_line (map numbered_facts state.chunks)
shown_lines kind name Unsealed = line (kind_text kind ++ codes " " ++ name ++ codes " unsealed")
shown_lines kind name Damaged = line (kind_text kind ++ codes " " ++ name ++ codes " damaged")
shown_lines kind name (Holds events torn) =
    line (kind_text kind ++ codes " " ++ name ++ codes " events " ++ decimal events
    ++ codes " torn " ++ decimal torn)
shown_lines kind name Unread = line (kind_text kind ++ codes " " ++ name ++ codes " unread")

-- the file is read, and not damaged
abbrev pub is_sound : Finding → Bool
is_sound (Means state torn) = true
is_sound Unsealed = true
is_sound Damaged = false
is_sound (Holds events torn) = true
is_sound Unread = false

-- this is said of a file of this kind and name
abbrev pub IsShownAs : Kind → List ℕ → Finding → List ℕ → Bool → Type 0
IsShownAs kind name finding lines sound = (lines ≡ shown_lines kind name finding)
    × (sound ≡ is_sound finding)

-- This is said of the file of this kind and name, whose bytes are what `named` has, where that is
-- known.
abbrev pub IsShown : (List ℕ → Option (List ℕ)) → Kind → List ℕ → List ℕ → Bool → Type 0
IsShown named kind name lines sound = (finding : Finding) × IsFindingOf kind (named name) finding
    × IsShownAs kind name finding lines sound

-- the kind and the name of a file
abbrev pub Named : Type 0
Named = Kind × List ℕ

-- those of a file that is to be listed
abbrev pub named_of : {A : Type 0} → DataFile A → Named
named_of file = (file.kind, string_bytes file.name)

-- a file, and what is found in it
pub record Shown : Type 0 where
  pub file : Named
  pub finding : Finding

-- the lines of a file
abbrev pub lines_of : Shown → List ℕ
lines_of shown = shown_lines shown.file.0 shown.file.1 shown.finding

-- whether all of them are sound
abbrev pub all_sound : List Shown → Bool
all_sound [] = true
all_sound (shown ∷ others) = is_sound shown.finding && all_sound others

-- This is said of these files, one behind another, and whether all are sound.
pub record AreShown (named : List ℕ → Option (List ℕ)) (files : List Named) (lines : List ℕ)
    (sound : Bool) : Type 0 where
  pub shown : List Shown
  pub files_are : map (λ one. one.file) shown ≡ files
  pub each : AllByRecursion (λ one. IsFindingOf one.file.0 (named one.file.1) one.finding) shown
  pub lines_are : lines ≡ flat_map lines_of shown
  pub sound_is : sound ≡ all_sound shown

-- the status where all files are sound, and where not
abbrev pub shown_status : Bool → Status
shown_status sound = cond sound Done No

-- These files are listed, and this is printed.
pub record PrintsListing (named : List ℕ → Option (List ℕ)) (files : List Named)
    (old new : Option (List ℕ)) (status : Status) : Type 0 where
  pub lines : List ℕ
  pub sound : Bool
  pub shown : AreShown named files lines sound
  pub printed : IsPrinted old new lines (shown_status sound) status

-- all that `show` does to a writer, and its status: the listing, or that memory ran out
abbrev pub PrintsShown : (List ℕ → Option (List ℕ)) → List Named → Option (List ℕ) → Option (List ℕ)
    → Status → Type 0
PrintsShown named files old new status = PrintsListing named files old new status
    ⊎ IsPrinted old new memory_line Usage status
