use Rattle.std.proofs.Common.{◌≡◌, ◌≤◌, ◌+◌, ℕ, List, refl, sym, ap, ◌∙◌, arith}
use Rattle.buffer_state.specs.declared.chunk.Stage.TheVariants.{Staged}
use Rattle.buffer_state.specs.State.{State, size, size_at}
use Rattle.buffer_state.specs.Steps.{greatest_size, appended}
use Rattle.buffer_state.specs.Slots.{Slot, slot_size, grown}
use Rattle.buffer_state.specs.Views.{state_of}
use Rattle.buffer_state.proofs.Steps.{and_some, changed_is, sound_same, grown_view, size_there, found_at}
use Rattle.buffer_state.proofs.chunks.Chunks.grow.Goals as goal

pub grow-requires : goal.grow-requires
grow-requires g c =
    let found = found_at c.self.inside.table c.self.inside.queue.items c.self.inside.next c.args.serial _ Staged c.self.view_is c.requires.staged in
    let small : slot_size found.0 + size c.args.entries.now ≤ greatest_size = (
    let k = c.requires.small in
    let e : size_at c.args.self.now c.args.serial ≡ slot_size found.0 = ap (λ (state : State). size_at state c.args.serial) (sym c.self.view_is) ∙ size_there _ c.self.inside.queue.items c.self.inside.next c.args.serial found.0 found.1 in
    omega (arith, k, e)
    ) in
    record { small = and_some _ (λ (slot : Slot). slot_size slot + size c.args.entries.now ≤ greatest_size) found.0 found.1 small }

pub invariant_of-self : goal.invariant_of-self
invariant_of-self g c =
    let found = found_at c.self.inside.table c.self.inside.queue.items c.self.inside.next c.args.serial _ Staged c.self.view_is c.requires.staged in
    rw (c.grow.ensures ∙ changed_is c.self.inside.table c.args.serial (grown c.args.entries.now) found.0 found.1)
    (sound_same c.self.inside.table c.self.inside.waiting c.self.inside.queue c.self.inside.next c.self.invariant c.args.serial found.0 (grown c.args.entries.now found.0) found.1 refl)

pub returns : goal.returns
returns g c = λ tag.
    let found = found_at c.self.inside.table c.self.inside.queue.items c.self.inside.next c.args.serial _ Staged c.self.view_is c.requires.staged in
    ap (λ (t : List (ℕ × Slot)). state_of t c.self.inside.queue.items c.self.inside.next) (c.grow.ensures ∙ changed_is c.self.inside.table c.args.serial (grown c.args.entries.now) found.0 found.1)
    ∙ grown_view c.self.inside.table c.self.inside.next c.args.serial found.0 found.1 c.self.inside.queue.items tag c.args.entries.now (grown c.args.entries.now found.0) refl
    ∙ ap (appended c.args.serial tag c.args.entries.now) c.self.view_is
