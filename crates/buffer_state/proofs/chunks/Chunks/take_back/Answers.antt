use Rattle.std.proofs.Common.{◌≡◌, ◌+◌, ℕ, List, sym, ap, ◌∙◌}
use Rattle.buffer_state.specs.declared.chunk.Stage.TheVariants.{Staged}
use Rattle.buffer_state.specs.State.{State}
use Rattle.buffer_state.specs.Steps.{appended, taken_back}
use Rattle.buffer_state.specs.Slots.{Slot}
use Rattle.buffer_state.specs.Views.{state_of}
use Rattle.buffer_state.proofs.Steps.{found_at}
use Rattle.buffer_state.proofs.Rooms.{sound_back, back_view, as_before}
use Rattle.buffer_state.proofs.chunks.Chunks.take_back.Goals as goal

pub invariant_of-self : goal.invariant_of-self
invariant_of-self g c =
    let found = found_at c.self.inside.table c.self.inside.queue.items c.self.inside.next c.args.serial _ Staged c.self.view_is c.requires.staged in
    let newest : c.args.serial + 1 ≡ c.self.inside.next = c.requires.newest ∙ ap (λ (state : State). state.next) (sym c.self.view_is) in
    rw c.remove.ensures (sound_back c.self.inside.table c.self.inside.waiting c.self.inside.queue c.self.inside.next c.args.serial found.0 found.1 found.2 c.self.invariant newest)

pub returns-clause-gone : goal.returns-clause-gone
returns-clause-gone g c =
    let found = found_at c.self.inside.table c.self.inside.queue.items c.self.inside.next c.args.serial _ Staged c.self.view_is c.requires.staged in
    ap (λ (t : List (ℕ × Slot)). state_of t c.self.inside.queue.items c.args.serial) c.remove.ensures
    ∙ back_view c.self.inside.table c.self.inside.waiting c.self.inside.queue c.self.inside.next c.args.serial found.0 found.1 found.2 c.self.inside.queue.items c.self.invariant.rising
    ∙ ap (taken_back c.args.serial) c.self.view_is

pub returns-clause-before : goal.returns-clause-before
returns-clause-before g c = λ before tag entries first is.
    let found = found_at c.self.inside.table c.self.inside.queue.items c.self.inside.next c.args.serial _ Staged c.self.view_is c.requires.staged in
    let newest : c.args.serial + 1 ≡ c.self.inside.next = c.requires.newest ∙ ap (λ (state : State). state.next) (sym c.self.view_is) in
    let state : state_of c.self.inside.table c.self.inside.queue.items (c.args.serial + 1) ≡ appended c.args.serial tag entries before
    = ap (state_of c.self.inside.table c.self.inside.queue.items) newest ∙ c.self.view_is ∙ is in
    ap (λ (t : List (ℕ × Slot)). state_of t c.self.inside.queue.items c.args.serial) c.remove.ensures
    ∙ back_view c.self.inside.table c.self.inside.waiting c.self.inside.queue (c.args.serial + 1) c.args.serial found.0 found.1 found.2 c.self.inside.queue.items c.self.invariant.rising
    ∙ as_before c.self.inside.table c.self.inside.queue.items c.args.serial before tag entries c.self.invariant.rising first state
