-- What is printed of the events that a journal holds live.
use Rattle.std.specs.Prelude.{ℕ, ◌≡◌, ◌-◌, ◌⊎◌, Bool, true, false, List, [], ◌++◌, length, Option, IfSome, Result, MatchResult}
use Rattle.std.specs.List.{flat_map}
use Rattle.buffer_state.specs.State.{Numbered, State}
use Rattle.chunk_journal.specs.Meaning.{EndsUnsealed, IsDamaged, IsReplayed}
use Rattle.chunk_journal.specs.Places.{Spots, ArePlaced}
use Rattle.sink_series.specs.Events.{Event, under}
use Rattle.event_listing.specs.Choices.{Chosen}
use Rattle.event_listing.specs.Forms.{Under}
use Rattle.event_listing.specs.Lines.{ArePrinted, PrintsAll, PrintsSome}
use Rattle.event_listing.specs.Shown.{Shown, IsShown, ShowsAll}
use Rattle.event_listing.specs.declared.journal.JournalEnd.{JournalEnd}
use Rattle.event_listing.specs.declared.journal.JournalEnd.TheVariants.{Sealed, Unsealed, Damaged}
use Rattle.event_listing.specs.declared.stop.Stop.{Stop}

-- the events of a chunk, in their order: each entry under the chunk's tag
abbrev pub chunk_events : Numbered → List Event
chunk_events numbered = under numbered.1.tag numbered.1.entries

-- what a relay still has to deliver that opens a journal of this meaning: the events of the live
-- chunks, the chunks by rising serial
abbrev pub live_events : State → List Event
live_events state = flat_map chunk_events state.chunks

-- The text is what is printed of all events that a journal of these bytes holds live; its whole
-- records have so many bytes.
pub record PrintsAllLive (chosen : Chosen) (bytes text : List ℕ) (used : ℕ) : Type 0 where
  pub state : State
  pub replayed : IsReplayed bytes state used
  pub printed : ArePrinted chosen (live_events state) text

-- these are the first of the live events, be it all or not, and the text is what is printed of them
pub record PrintsFirstOf (chosen : Chosen) (events : List Event) (text : List ℕ) : Type 0 where
  pub first : List Event
  pub others : List Event
  pub whole : events ≡ first ++ others
  pub printed : ArePrinted chosen first text

-- The text is what is printed of the first events that a journal of these bytes holds live.
pub record PrintsSomeLive (chosen : Chosen) (bytes text : List ℕ) : Type 0 where
  pub state : State
  pub used : ℕ
  pub replayed : IsReplayed bytes state used
  pub some : PrintsFirstOf chosen (live_events state) text

-- the text is what is printed of a journal of these bytes: all that it holds live, or nothing where
-- it isn't sealed
abbrev pub IsJournalWhole : Chosen → List ℕ → List ℕ → Type 0
IsJournalWhole chosen bytes text = ((used : ℕ) × PrintsAllLive chosen bytes text used)
    ⊎ ((text ≡ []) × EndsUnsealed bytes)

-- the text is what is printed of the beginning of that
abbrev pub IsJournalBegun : Chosen → List ℕ → List ℕ → Type 0
IsJournalBegun chosen bytes text = (text ≡ []) ⊎ PrintsSomeLive chosen bytes text

-- a journal of these bytes, of which this is printed, ends so
abbrev pub IsJournalEnd : Chosen → List ℕ → List ℕ → JournalEnd → Type 0
IsJournalEnd chosen bytes text (Sealed at behind) = PrintsAllLive chosen bytes text at
    × (behind ≡ length bytes - at)
IsJournalEnd chosen bytes text Unsealed = (text ≡ []) × EndsUnsealed bytes
IsJournalEnd chosen bytes text Damaged = (text ≡ []) × IsDamaged bytes

abbrev pub is_readable : JournalEnd → Bool
is_readable (Sealed at behind) = true
is_readable Unsealed = true
is_readable Damaged = false

-- How a journal is read, where it is known what it has: all that it holds live is printed; or some
-- is.
pub record PrintsJournal (chosen : Chosen) (known : Option (List ℕ)) (old new : Shown)
    (result : Result JournalEnd Stop) : Type 0 where
  pub text : List ℕ
  pub shown : MatchResult result (λ end. ShowsAll old new text) (IsShown old new text)
  pub ends :
      MatchResult result (λ end. IfSome known (λ bytes. IsJournalEnd chosen bytes text end))
      (λ stop. IfSome known (λ bytes. IsJournalBegun chosen bytes text))

-- Of live chunks, whose entries lie at these places of a file, all events are printed, where it is
-- known what the file has; or some are.
pub record PrintsLive (chosen : Chosen) (state : State) (places : Spots) (known : Option (List ℕ))
    (old new : Shown) (result : Result (Unit {0}) Stop) : Type 0 where
  pub text : List ℕ
  pub shown : MatchResult result (λ _. ShowsAll old new text) (IsShown old new text)
  pub ends :
      MatchResult result (λ _. IfSome known (λ bytes. ArePlaced bytes places state
      → ArePrinted chosen (live_events state) text))
      (λ stop. IfSome known (λ bytes. ArePlaced bytes places state
      → PrintsFirstOf chosen (live_events state) text))

-- Of the bytes of a chunk that has this tag all events are printed, and nothing stands behind them;
-- or some are printed.
pub record PrintsChunk (chosen : Chosen) (tag : List ℕ) (known : Option (List ℕ)) (old new : Shown)
    (result : Result (Unit {0}) Stop) : Type 0 where
  pub text : List ℕ
  pub shown : MatchResult result (λ _. ShowsAll old new text) (IsShown old new text)
  pub ends :
      MatchResult result (λ _. IfSome known (λ bytes. PrintsAll (Under tag) chosen bytes text []))
      (λ stop. IfSome known (λ bytes. PrintsSome (Under tag) chosen bytes text))
