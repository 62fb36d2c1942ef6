-- The numbers of deliveries.
use Rattle.std.specs.Prelude.{ℕ, ◌^◌, Option, Some, None}

-- how many numbers were given, where this one is next: they begin at 0, and none is next after all
-- of 64 bits
abbrev pub given_before : Option ℕ → ℕ
given_before (Some next) = next
given_before None = 2 ^ 64
