-- How far unread bytes were scanned, for the proofs of this crate.
use Rattle.std.specs.Prelude.{ℕ, ◌≤◌, List, length, take}
use Rattle.msgpack_bytes.specs.Item.{IsOpen}
use Rattle.msgpack_bytes.specs.Pieces.{IsAfter}
use Rattle.event_modes.specs.declared.ahead.Ahead.{Ahead}

-- the scanner was given these first bytes of the unread ones, and no item ends in them
pub record IsGiven (ahead : Ahead) (unread : List ℕ) : Type 0 where
  pub within : ahead.given ≤ length unread
  pub given : IsAfter ahead.scanner (take ahead.given unread)
  pub still : IsOpen (take ahead.given unread)
