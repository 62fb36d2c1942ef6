use Rattle.std.proofs.Common.{◌≡◌, length, ◌-◌}
use Rattle.custody_store.specs.Marks.{IsSound}
use Rattle.custody_store.proofs.buffer.Buffer.oldest.Given as goal

abbrev pub invariant-loop-self : goal.invariant-loop-self
invariant-loop-self g l = IsSound (length l.self-inside.claims.items) l.self-inside.generation l.self-inside.least l.self-inside.chunks.items × (l.self-inside ≡ record l.initial.self-inside { least = l.self-inside.least })

abbrev pub decreases-loop-self : goal.decreases-loop-self
decreases-loop-self g l = length l.self-inside.chunks.items - l.self-inside.least
