-- A worker's pass over the chunks that wait.
use Rattle.std.specs.Prelude.{ℕ, ◌≡◌, ◌<◌, ◌⊎◌, false, Option, Some, None, unwrap_or}
use Rattle.flush_pool.specs.declared.acts.Others.{Others}
use Rattle.flush_pool.specs.declared.pass.Pass.{Pass}
use Rattle.flush_pool.specs.declared.pass.Seen.{Seen}
use Rattle.flush_pool.specs.declared.pass.Seen.TheVariants.{Part, All}
use Rattle.flush_pool.specs.declared.pass.Watch.{Watch}
use Rattle.flush_pool.specs.Counts.{capped}

-- a pass before its first chunk
abbrev pub begun : Pass
begun = record { first = None; chunks = 0 }

-- the pass ends at this chunk: it began with it, or with it has given back more chunks than have
-- failed
abbrev pub EndsAt : Pass → ℕ → ℕ → Type 0
EndsAt pass serial failed = (pass.first ≡ Some serial) ⊎ (failed < capped pass.chunks 1)

-- the pass with one chunk more
abbrev pub gone_on : Pass → ℕ → Pass
gone_on pass serial =
    record { first = Some (unwrap_or pass.first serial); chunks = capped pass.chunks 1 }

-- the count at which the pass began, where this one is that of its next chunk
abbrev pub began_at : Option ℕ → (began times : ℕ) → ℕ
began_at None began times = times
began_at (Some first) began times = began

-- Behind a chunk that waits a worker takes all chunks up to a count for such that wait only where
-- its pass ends, which began at that count; or where it knew it of this very count, and none that
-- waits is due. Else its pass goes on.
abbrev pub IsBehind : Watch → (serial : ℕ) → Others → (times : ℕ) → Seen → Type 0
IsBehind watch serial others times (All count) =
    ((watch.all_wait ≡ Some times) × (others.due ≡ false) × (count ≡ times))
    ⊎ (EndsAt watch.pass serial others.failed
    × (count ≡ began_at watch.pass.first watch.began times))
IsBehind watch serial others times (Part next) = (¬ EndsAt watch.pass serial others.failed)
    × (next ≡ record {
      pass = gone_on watch.pass serial;
      began = began_at watch.pass.first watch.began times;
      all_wait = watch.all_wait;
    })
