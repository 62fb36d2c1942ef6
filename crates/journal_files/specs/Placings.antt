-- What a record does to the places of entries.
use Rattle.std.specs.Prelude.{ℕ}
use Rattle.buffer_state.specs.State.{size}
use Rattle.chunk_journal.specs.Records.{Record, Seal, Append, Queue, Purge}
use Rattle.chunk_journal.specs.Places.{Spots, HasRoom, SamePlaces, AddsPlace, DropsPlaces, extent_before}
use Rattle.journal_files.specs.declared.placing.Placing.{Placing}
use Rattle.journal_files.specs.declared.placing.Placing.TheVariants.{Stays, Adds, Drops}

-- what this record does to them, where its bytes end there
abbrev pub placing_of : Record → ℕ → Placing
placing_of (Seal next) end = Stays
placing_of (Append serial tag entries) end = Adds serial (extent_before end (size entries))
placing_of (Queue serial) end = Stays
placing_of (Purge serial) end = Drops serial

-- there is room for it
abbrev pub CanPlace : Placing → Spots → Type 0
CanPlace Stays spots = Unit {0}
CanPlace (Adds serial extent) spots = HasRoom spots serial
CanPlace (Drops serial) spots = Unit {0}

-- it is done
abbrev pub MovesBy : Placing → Spots → Spots → Type 0
MovesBy Stays old new = SamePlaces old new
MovesBy (Adds serial extent) old new = AddsPlace serial extent old new
MovesBy (Drops serial) old new = DropsPlaces serial old new
