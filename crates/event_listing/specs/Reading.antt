-- What reading bytes that spell events in pieces prints.
use Rattle.std.specs.Prelude.{ℕ, ◌≡◌, ◌+◌, ◌<◌, ◌-◌, Bool, true, false, List, length, Option, IfSome, Result, MatchResult}
use Rattle.event_listing.specs.Choices.{Chosen}
use Rattle.event_listing.specs.Forms.{Form}
use Rattle.event_listing.specs.Lines.{PrintsAll, PrintsSome}
use Rattle.event_listing.specs.Shown.{Shown, IsShown, ShowsAll}
use Rattle.event_listing.specs.declared.sink.End.{End}
use Rattle.event_listing.specs.declared.sink.End.TheVariants.{Ended, Damaged}
use Rattle.event_listing.specs.declared.stop.Stop.{Stop}

-- what the items of events have no more bytes than
abbrev pub longest_item : ℕ
longest_item = 16779264

-- a file of these bytes, of which this rest stands behind the events, is read to its end; or it is
-- damaged, since more stands there than an event has
abbrev pub IsEnd : List ℕ → List ℕ → End → Type 0
IsEnd bytes rest (Ended at behind) = (at ≡ length bytes - length rest) × (behind ≡ length rest)
IsEnd bytes rest (Damaged at) = (at ≡ length bytes - length rest) × (longest_item < length rest)

abbrev pub is_ended : End → Bool
is_ended (Ended at behind) = true
is_ended (Damaged at) = false

-- How bytes that spell events so are read, where it is known what they are: to the end of the
-- events, all of which are printed; or some are.
pub record PrintsFile (form : Form) (chosen : Chosen) (known : Option (List ℕ)) (old new : Shown)
    (result : Result End Stop) : Type 0 where
  pub text : List ℕ
  pub shown : MatchResult result (λ end. ShowsAll old new text) (IsShown old new text)
  pub ends :
      MatchResult result (λ end.
      IfSome known (λ bytes. (rest : List ℕ) × PrintsAll form chosen bytes text rest
      × IsEnd bytes rest end))
      (λ stop. IfSome known (λ bytes. PrintsSome form chosen bytes text))

-- Of the bytes that are held with a piece, from this place of the file on, all events are printed
-- and taken off; or some are printed.
pub record PrintsPiece (form : Form) (chosen : Chosen) (held left : ℕ × List ℕ) (old new : Shown)
    (result : Result (Unit {0}) Stop) : Type 0 where
  pub text : List ℕ
  pub shown : MatchResult result (λ _. ShowsAll old new text) (IsShown old new text)
  pub ends :
      MatchResult result (λ _. PrintsAll form chosen held.1 text left.1
      × (left.0 + length left.1 ≡ held.0 + length held.1))
      (λ stop. PrintsSome form chosen held.1 text)
