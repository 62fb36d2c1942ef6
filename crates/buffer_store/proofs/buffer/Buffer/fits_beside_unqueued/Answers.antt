use Rattle.std.proofs.Common.{ℕ, ◌+◌, ◌≤◌, IsTrue, arith, map, rules, subst}
use Rattle.std.proofs.lemmas.Grind.{common_steps}
use Rattle.buffer_state.specs.Shown.{numbered_facts}
use Rattle.buffer_state.specs.State.{size, total_size}
use Rattle.buffer_store.specs.Room.{queued_in}
use Rattle.buffer_store.proofs.Freeing.{shown_size}
use Rattle.buffer_store.proofs.buffer.Buffer.fits_beside_unqueued.Goals as goal

pub returns : goal.returns
returns g c =
    let state = c.args.self.now.chunks in
    let all = total_size state + size c.args.entries.now in
    let most = c.args.self.now.limits.total in
    let shown : (IsTrue c.frees.result → all ≤ most + queued_in (map numbered_facts state.chunks)) × (all ≤ most + queued_in (map numbered_facts state.chunks) → IsTrue c.frees.result) =
    first_of (search rules, grind (arith, common_steps)) in
    subst (λ (queued : ℕ). (IsTrue c.frees.result → all ≤ most + queued) × (all ≤ most + queued → IsTrue c.frees.result)) (shown_size state.chunks) shown
