use Rattle.std.proofs.Common.{◌≡◌, true, cond, refl, sym, ap, ◌∙◌, arith, ℕ, List}
use Rattle.std.specs.BTreeMap.{is_at}
use Rattle.std.specs.Ordering.{nat_cmp}
use Rattle.buffer_state.specs.declared.chunk.Stage.TheVariants.{Staged}
use Rattle.buffer_state.specs.Slots.{Slot}
use Rattle.buffer_state.specs.Views.{state_of}
use Rattle.buffer_state.proofs.Serials.{on_err_at, on_ok_at}
use Rattle.buffer_state.proofs.Steps.{and_some, sound_room, sound_waiting, found_at, waiting_claims}
use Rattle.buffer_state.proofs.chunks.Chunks.ready.Goals as goal

pub invariant_of-result : goal.invariant_of-result
invariant_of-result g c =
    sound_waiting c.self.inside.table c.self.inside.waiting c.make_room.new.waiting c.make_room.new.queue c.self.inside.next (on_err_at _ c.make_room.ensures.refused (sym c.is_err.ensures.value ∙ c.if-is_err.true))
    (sound_room c.self.inside.table c.self.inside.waiting c.self.inside.queue c.self.inside.next c.self.invariant c.make_room.new.queue c.make_room.ensures.items c.make_room.ensures.len c.make_room.ensures.kept)

pub returns-then-is_err-clause-err : goal.returns-then-is_err-clause-err
returns-then-is_err-clause-err g c = ap (λ (xs : List ℕ). state_of c.self.inside.table xs c.self.inside.next) c.make_room.ensures.items ∙ c.self.view_is

pub invariant_of-result-2 : goal.invariant_of-result-2
invariant_of-result-2 g c =
    let found = found_at c.self.inside.table c.self.inside.queue.items c.self.inside.next c.args.serial _ Staged c.self.view_is c.requires in
    let mid = sound_room c.self.inside.table c.self.inside.waiting c.self.inside.queue c.self.inside.next c.self.invariant c.make_room.new.queue c.make_room.ensures.items c.make_room.ensures.len c.make_room.ensures.kept in
    let few = waiting_claims c.self.inside.table c.self.inside.waiting c.make_room.new.queue c.self.inside.next mid in
    let room = on_ok_at _ c.make_room.ensures.room (sym c.is_err.ensures.value ∙ c.if-is_err.false) in
    record {
      rising = mid.rising;
      below = mid.below;
      distinct = mid.distinct;
      free = mid.free;
      room = omega (arith, few, room);
      waits = λ q. on_ok_at _ c.make_room.ensures.waits (sym c.is_err.ensures.value ∙ c.if-is_err.false) q ∙ ap (cond (is_at (nat_cmp c.args.serial) q) true) (mid.waits q);
      listed = c.make_room.ensures.listed c.self.invariant.listed;
      ready = and_some _ (λ (slot : Slot). slot.chunk.stage ≡ Staged) found.0 found.1 found.2;
    }

pub returns-clause-ok : goal.returns-clause-ok
returns-clause-ok g c = (
  ap (λ (xs : List ℕ). state_of c.self.inside.table xs c.self.inside.next) c.make_room.ensures.items ∙ c.self.view_is,
  refl,
)
