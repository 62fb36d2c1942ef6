-- What contracts are told of a session's past: all of it in order. How many times something was
-- told only says that the past is finite.
use Rattle.std.specs.Prelude.{ℕ, List}
use Rattle.ack_receipt.specs.Reservations.{Asked, Reservation}

-- what the messages asked for
pub record ToldAsked : Type 0 where
  pub times : ℕ
  pub all : List Asked

-- the answers
pub record ToldAnswers : Type 0 where
  pub times : ℕ
  pub all : List Reservation
