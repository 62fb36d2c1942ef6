use Rattle.std.proofs.Common.{◌≡◌, ◌≤◌, ◌+◌, length, sym, ap, IsSomeAnd, arith}
use Rattle.buffer_state.specs.State.{size}
use Rattle.buffer_state.specs.Steps.{greatest_size}
use Rattle.buffer_state.specs.Slots.{Slot, slot_at, slot_size}
use Rattle.buffer_state.proofs.Serials.{some_and}
use Rattle.buffer_state.proofs.Tables.{grown_fits, total_small}
use Rattle.buffer_state.proofs.table.Table.grow.Goals as goal

pub overflow_add-self : goal.overflow_add-self
overflow_add-self g c =
    let t = total_small _ c.self.inside.tags c.self.inside.total c.self.invariant in
    let small : IsSomeAnd (slot_at c.self.inside.chunks.entries c.args.serial) (λ (slot : Slot). slot_size slot + size c.args.entries.now ≤ greatest_size) = rw c.self.view_is c.requires.small in
    let r = some_and _ (λ (slot : Slot). slot_size slot + size c.args.entries.now ≤ greatest_size) c.in-Some.chunk.now small (sym c.in-Some.ensures.value) in
    let l : length c.as_bytes.result.now ≡ size c.args.entries.now = ap length c.as_bytes.ensures.all in
    let m = r in
    omega (arith, t, m, l)

pub invariant_of-self-2 : goal.invariant_of-self-2
invariant_of-self-2 g c =
    let h = c.get_mut.follows.holds c.grow.new.self in
    let small : IsSomeAnd (slot_at c.self.inside.chunks.entries c.args.serial) (λ (slot : Slot). slot_size slot + size c.args.entries.now ≤ greatest_size) = rw c.self.view_is c.requires.small in
    let r = some_and _ (λ (slot : Slot). slot_size slot + size c.args.entries.now ≤ greatest_size) c.in-Some.chunk.now small (sym c.in-Some.ensures.value) in
    rw (h.0, c.grow.ensures) (grown_fits _ c.self.inside.tags c.self.inside.total c.args.serial _ c.in-Some.chunk.now c.args.entries.now (sym c.in-Some.ensures.value) c.self.invariant (ap length c.as_bytes.ensures.all) r)
