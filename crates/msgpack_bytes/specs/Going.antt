-- How a scan goes over a piece, for the proofs of this crate.
use Rattle.std.specs.Prelude.{ℕ, ◌≡◌, ◌+◌, ◌-◌, ◌<◌, ◌≤◌, List, ◌++◌, length, drop}
use Rattle.msgpack_bytes.specs.declared.answers.Scan.TheVariants as scan
use Rattle.msgpack_bytes.specs.declared.scanner.Place.{Place}
use Rattle.msgpack_bytes.specs.declared.scanner.Went.{Went}
use Rattle.msgpack_bytes.specs.declared.scanner.Went.TheVariants.{Ended, Bad, Cut}
use Rattle.msgpack_bytes.specs.Item.{longest}
use Rattle.msgpack_bytes.specs.Answers.{IsScanned}
use Rattle.msgpack_bytes.specs.Steps.{BeginsSame}
use Rattle.msgpack_bytes.specs.Pieces.{State, LacksBytes}

-- the item that was cut goes on in this piece
pub record IsCut (seen piece front : List ℕ) (done at : ℕ) : Type 0 where
  pub first : at ≡ 0
  pub begins : BeginsSame 5 front (drop done (seen ++ piece))
  pub part : LacksBytes (drop done seen)

-- a scan stands at this byte of the piece, and where an item was cut, at the first
pub record Stands (seen piece front missing : List ℕ) (place : Place) (at : ℕ) : Type 0 where
  pub done : ℕ
  pub state : State (seen ++ piece) 0 done missing place.levels place.room
  pub lies : done + place.came ≡ length seen + at
  pub within : at ≤ length piece
  pub short : place.came ≤ longest
  pub cut : 0 < place.came → IsCut seen piece front done at

-- how far the scan went
abbrev pub Goes : List ℕ → List ℕ → List ℕ → List ℕ → Went → Type 0
Goes seen piece front missing (Ended n) = (end : ℕ) × IsScanned (seen ++ piece) 0 (scan.End end)
    × (n ≡ end - length seen)
Goes seen piece front missing (Bad fault) = IsScanned (seen ++ piece) 0 (scan.Bad fault)
Goes seen piece front missing (Cut place at) =
    (stands : Stands seen piece front missing place at)
    × LacksBytes (drop stands.done (seen ++ piece)) × IsScanned (seen ++ piece) 0 scan.Need
