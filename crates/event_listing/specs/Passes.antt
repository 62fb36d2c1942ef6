-- What passes over a sink's file that grows print.
use Rattle.std.specs.Prelude.{ℕ, ◌≡◌, ◌+◌, ◌≤◌, List, ◌++◌, length, drop, Option, IfSome, Result, Ok, Err, MatchResult}
use Rattle.program_text.specs.Output.{TakesPart}
use Rattle.program_text.specs.declared.status.Status.{Status}
use Rattle.program_text.specs.declared.status.Status.TheVariants.{Done, No, Usage}
use Rattle.event_listing.specs.Choices.{Chosen}
use Rattle.event_listing.specs.Forms.{Items}
use Rattle.event_listing.specs.Lines.{PrintsAll, PrintsSome}
use Rattle.event_listing.specs.Notes.{IsEndNote}
use Rattle.event_listing.specs.Shown.{Shown, ShowsAll, ShowsPart}
use Rattle.event_listing.specs.declared.follow.Growth.{Growth}
use Rattle.event_listing.specs.declared.follow.Growth.TheVariants.{Open, Ended}
use Rattle.event_listing.specs.declared.sink.End.{End}
use Rattle.event_listing.specs.declared.sink.End.TheVariants as reading

-- A pass over a file of these bytes, from the one place to the other, prints this text: all events
-- that stand there from the first place on, up to the last whole one, behind which the second place
-- is. So many bytes stand behind that.
pub record IsPass (chosen : Chosen) (bytes : List ℕ) (at next behind : ℕ)
    (text : List ℕ) : Type 0 where
  pub rest : List ℕ
  pub printed : PrintsAll Items chosen (drop at bytes) text rest
  pub behind_is : behind ≡ length rest
  pub next_is : next + behind ≡ at + length (drop at bytes)

-- what is said then: of a file that has ended, what stands behind its events
abbrev pub IsPassNoted : Growth → List ℕ → ℕ → ℕ → Option (List ℕ) × Option (List ℕ) → Type 0
IsPassNoted Open name next behind notes = notes.1 ≡ notes.0
IsPassNoted Ended name next behind notes = (line : List ℕ) × (unseen : List ℕ)
    × IsEndNote name (reading.Ended next behind) line × TakesPart notes.0 notes.1 line unseen

-- what is shown of a text that is printed before a pass ends with this status: all of it; or memory
-- ran out, or the writer failed
abbrev pub IsCutShown : Shown → Shown → List ℕ → Status → Type 0
IsCutShown old new text Done = ⊥
IsCutShown old new text No = ShowsAll old new text
IsCutShown old new text Usage = (unseen : List ℕ) × ShowsPart old new text unseen

-- what comes of a pass from this place on, behind which the events end so
abbrev pub EndsPass : List ℕ → ℕ → Growth → End → Option (List ℕ) × Option (List ℕ)
    → Result ℕ Status → Type 0
EndsPass name at growth (reading.Ended used behind) notes (Ok next) = (next ≡ at + used)
    × IsPassNoted growth name next behind notes
EndsPass name at growth (reading.Damaged used) notes (Ok next) = ⊥
EndsPass name at growth end notes (Err status) = status ≡ No

-- What a pass over the file of this name prints and says: it gives the place where it ended; or the
-- file is damaged or isn't read to its end, or memory ran out, or the writer failed.
pub record PrintsPass (known : Option (List ℕ)) (chosen : Chosen) (name : List ℕ) (at : ℕ)
    (growth : Growth) (out : Shown × Shown) (notes : Option (List ℕ) × Option (List ℕ))
    (result : Result ℕ Status) : Type 0 where
  pub text : List ℕ
  pub behind : ℕ
  pub shown : MatchResult result (λ next. ShowsAll out.0 out.1 text) (IsCutShown out.0 out.1 text)
  pub ends : MatchResult result
      (λ next. IfSome known (λ bytes. IsPass chosen bytes at next behind text))
      (λ status. IfSome known (λ bytes. PrintsSome Items chosen (drop at bytes) text))
  pub noted : MatchResult result (λ next. IsPassNoted growth name next behind notes)
      (λ status. Unit {0})

-- a sink's file that is printed in passes: its name, and up to which place it was printed
pub record Followed : Type 0 where
  pub name : List ℕ
  pub at : ℕ

-- what a pass answers, which ended at this place where it didn't fail
abbrev pub ended_at : ℕ → Result (Unit {0}) Status → Result ℕ Status
ended_at place (Ok _) = Ok place
ended_at place (Err status) = Err status

-- Two passes join, the second from where the first ended, over a file that grew in between:
-- together they print what one pass prints over the file as it is then. So no event is passed over,
-- and none comes twice.
abbrev pub DoPassesJoin : Type 0
DoPassesJoin =
    (chosen : Chosen) (bytes more : List ℕ) (at next end behind left : ℕ) (text others : List ℕ)
    → at ≤ length bytes → IsPass chosen bytes at next behind text
    → IsPass chosen (bytes ++ more) next end left others
    → IsPass chosen (bytes ++ more) at end left (text ++ others)
