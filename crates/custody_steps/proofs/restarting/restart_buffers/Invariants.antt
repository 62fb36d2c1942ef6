use Rattle.std.proofs.Common.{◌≡◌, ℕ, ◌<◌}
use Rattle.custody_store.specs.Places.{contents_at, closed_at, IsThere}
use Rattle.relay_net.specs.Network.{is_in_memory}
use Rattle.custody_steps.proofs.StartingAgain.{StartedBelow}
use Rattle.custody_steps.proofs.restarting.restart_buffers.Given as goal

abbrev pub invariant-loop-buffer : goal.invariant-loop-buffer
invariant-loop-buffer g l = StartedBelow (contents_at l.fn.places) (is_in_memory l.net) l.place l.buffer (contents_at l.places)
    × ((p : ℕ) → closed_at l.places p ≡ closed_at l.fn.places p)
    × ((b : ℕ) → b < l.count → IsThere l.places l.place b)
