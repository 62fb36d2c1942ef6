-- What pieces of a journal have led an outline to.
use Rattle.std.specs.Prelude.{ℕ, ◌≡◌, Bool, true, false, List, length}
use Rattle.chunk_journal.specs.Meaning.{IsDamaged}
use Rattle.chunk_journal.specs.Places.{Spots, ArePlaced, MovesPlaces}
use Rattle.chunk_journal.specs.Records.{Record}
use Rattle.chunk_journal.specs.Replaying.{Place, Goes, SoFar, Takes}

-- an outline: where its replay stands and where the entries lie, what was fed behind the records
-- that were read, how many bytes were fed in all, and whether it has found the journal damaged
pub record Heard : Type 0 where
  pub place : Place
  pub spots : Spots
  pub rest : List ℕ
  pub fed : ℕ
  pub is_damaged : Bool

-- it has found the journal damaged
abbrev pub HasFound : Heard → Type 0
HasFound heard = heard.is_damaged ≡ true

-- it has read the first records of these bytes, and holds the rest
pub record Reads (heard : Heard) (seen : List ℕ) : Type 0 where
  pub so_far : SoFar seen heard.place heard.rest
  pub placed : ArePlaced seen heard.spots heard.place.state

-- it reads on, or has found the bytes damaged
abbrev pub StandsAt : Bool → Heard → List ℕ → Type 0
StandsAt true heard seen = IsDamaged seen
StandsAt false heard seen = Reads heard seen

-- these bytes were fed
pub record IsAfter (heard : Heard) (seen : List ℕ) : Type 0 where
  pub fed : heard.fed ≡ length seen
  pub stands : StandsAt heard.is_damaged heard seen

-- the record was taken, and the places changed as its end says, or it can't stand here
abbrev pub TakesAt : Place → Spots → Record → ℕ → Place → Spots → Bool → Type 0
TakesAt old before item end new behind true = Goes old item new × MovesPlaces item end before behind
TakesAt old before item end new behind false = Takes old item new false
