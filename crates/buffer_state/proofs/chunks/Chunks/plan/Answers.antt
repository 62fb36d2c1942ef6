use Rattle.std.proofs.Common.{◌≡◌, ◌≤◌, ◌<◌, ◌+◌, ◌⊎◌, ℕ, length, sym, ap, subst, arith}
use Rattle.buffer_state.specs.State.{State, IsStagedOf, size, size_at}
use Rattle.buffer_state.specs.Steps.{CanAppend, greatest_size, last_serial}
use Rattle.buffer_state.specs.Views.{state_of}
use Rattle.buffer_state.proofs.Steps.{place_can}
use Rattle.std.proofs.Common.{None, option_map, ◌∙◌}
use Rattle.buffer_state.specs.State.{chunk_at}
use Rattle.buffer_state.specs.Slots.{Slot}
use Rattle.buffer_state.proofs.Serials.{lookup_above}
use Rattle.buffer_state.proofs.Slots.{lookup_chunks}
use Rattle.buffer_state.proofs.chunks.Chunks.plan.Goals.{else-place-self-via-then-place-self+else-self, else-place-self-via-else-place-self}
use Rattle.std.proofs.Common.{None, option_map, ◌∙◌}
use Rattle.buffer_state.specs.State.{chunk_at}
use Rattle.buffer_state.specs.Slots.{Slot}
use Rattle.buffer_state.proofs.Serials.{lookup_above}
use Rattle.buffer_state.proofs.Slots.{lookup_chunks}
use Rattle.buffer_state.proofs.chunks.Chunks.plan.Goals as goal

pub returns-clause-can : goal.returns-clause-can
returns-clause-can g c =
    let bytes : length c.as_bytes.result.now ≡ size c.args.entries.now = ap length c.as_bytes.ensures.all in
    let here = subst (λ (n : ℕ). (IsStagedOf (state_of c.self.inside.table c.self.inside.queue.items c.self.inside.next) c.place-place.result c.args.tag.now
    × (size_at (state_of c.self.inside.table c.self.inside.queue.items c.self.inside.next) c.place-place.result + n ≤ greatest_size)) ⊎ (c.place-place.result ≡ c.self.inside.next)) bytes
    (subst (λ (state : State). (IsStagedOf state c.place-place.result c.args.tag.now × (size_at state c.place-place.result + length c.as_bytes.result.now ≤ greatest_size)) ⊎ (c.place-place.result ≡ state.next))
    (sym c.self.view_is) c.place-place.ensures.here) in
    let fits = c.place-place.type_inv in
    let more : c.place-place.result ≡ c.self.inside.next → c.self.inside.next < last_serial = elim c.else-place-self.branch [
      | else-place-self-via-then-place-self+else-self w ↦ λ e. (let d = w.if-self.false in omega (arith, d, fits, e))
      | else-place-self-via-else-place-self w ↦ λ e. absurd (w.if-place-self.false e)
    ] in
    let le = c.if-size-limit.false in
    let least = c.min-limit.ensures in
    subst (λ (state : State). CanAppend state c.place-place.result c.args.tag.now c.args.entries.now) c.self.view_is
    (place_can c.self.inside.table c.self.inside.waiting c.self.inside.queue c.self.inside.next c.place-place.result c.args.tag.now c.args.entries.now c.self.invariant here more (omega (arith, bytes, le, least)))

pub returns-clause-free : goal.returns-clause-free
returns-clause-free g c = subst (λ (state : State). chunk_at state state.next ≡ None) c.self.view_is
    (lookup_chunks c.self.inside.table c.self.inside.next ∙ ap (option_map (λ (slot : Slot). slot.chunk)) (lookup_above c.self.inside.table c.self.inside.next c.self.invariant.below))
