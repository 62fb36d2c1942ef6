-- What is left of deliveries.
use Rattle.std.specs.Prelude.{ℕ, List}
use Rattle.book_audit.specs.declared.line.Part.{Part}

-- what is left of a delivery: its number, and a part of each receipt that it held
pub record Left : Type 0 where
  pub delivery : ℕ
  pub parts : List Part
