-- How many connections a relay's loop has at most.
use Rattle.std.specs.Prelude.{ℕ, ◌-◌, ◌/◌, min}

-- how many of so many descriptors are kept for what is no connection that came in
abbrev pub kept_of : ℕ → ℕ
kept_of descriptors = min (descriptors / 4) 64

-- how many connections there are at most, where a process may have so many descriptors
abbrev pub most_connections : ℕ → ℕ
most_connections descriptors = min (descriptors - kept_of descriptors) 1024
