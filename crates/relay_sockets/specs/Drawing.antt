-- Random bytes that are drawn from a generator.
use Rattle.std.specs.Prelude.{ℕ, ◌≡◌, List}
use Rattle.rand_core.specs.Steps.{stream_of, steps_u32}
use Rattle.rand_core.specs.Stream.{fill_bytes}
use Rattle.rand_chacha.specs.ChaCha.{ChaCha, next_word}

-- how many bytes a nonce or a salt has
abbrev pub nonce_length : ℕ
nonce_length = 16

-- the next nonce that a ChaCha20 generator gives
abbrev pub next_nonce : ChaCha → List ℕ
next_nonce rng = (fill_bytes nonce_length (stream_of (steps_u32 (next_word 10)) rng)).0

-- random bytes that a generator gave
abbrev pub IsDrawn : (nonce : List ℕ) → Type 0
IsDrawn nonce = (rng : ChaCha) × (nonce ≡ next_nonce rng)
