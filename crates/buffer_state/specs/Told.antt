-- The entries of a chunk, as they were told.
use Rattle.std.specs.Prelude.{ℕ, List}

-- entries that were told, and in how many lists behind the first
pub record Told : Type 0 where
  pub times : ℕ
  pub entries : List (List ℕ)
