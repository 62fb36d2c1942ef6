use Rattle.std.proofs.Common.{◌≡◌, ℕ, cond, List, ap, ◌∙◌, arith}
use Rattle.std.specs.Map.{set_value}
use Rattle.std.specs.BTreeMap.{is_at}
use Rattle.std.specs.Ordering.{nat_cmp}
use Rattle.buffer_state.specs.declared.chunk.Stage.TheVariants.{Queued, Claimed}
use Rattle.buffer_state.specs.State.{is_queued}
use Rattle.buffer_state.specs.Steps.{queued_last}
use Rattle.buffer_state.specs.Slots.{Slot, put}
use Rattle.buffer_state.specs.Views.{is_waiting, is_claimed, state_of}
use Rattle.buffer_state.proofs.Slots.{without_free}
use Rattle.buffer_state.proofs.Steps.{changed_is, sound_queue, queue_view, claim_part, one, waits_itself, found_at}
use Rattle.buffer_state.proofs.chunks.Chunks.give_back.Goals as goal

pub push_back_reserved-requires : goal.push_back_reserved-requires
push_back_reserved-requires g c =
    let found = found_at c.self.inside.table c.self.inside.queue.items c.self.inside.next c.args.serial _ Claimed c.self.view_is c.requires in
    let h = claim_part c.self.inside.table c.args.serial found.0 found.1 in
    let e : one found.0 ≡ 1 = ap (λ stage. cond (is_claimed stage) 1 0) found.2 in
    let r = c.self.invariant.room in
    omega (arith, h, e, r)

pub invariant_of-self : goal.invariant_of-self
invariant_of-self g c =
    let found = found_at c.self.inside.table c.self.inside.queue.items c.self.inside.next c.args.serial _ Claimed c.self.view_is c.requires in
    let e : one found.0 ≡ 1 = ap (λ stage. cond (is_claimed stage) 1 0) found.2 in
    let r = c.self.invariant.room in
    let len = c.push_back_reserved.ensures.len in
    let cap = c.push_back_reserved.ensures.capacity in
    rw (c.put.ensures ∙ changed_is c.self.inside.table c.args.serial (put Queued) found.0 found.1)
    (sound_queue c.self.inside.table c.self.inside.waiting c.self.inside.queue c.self.inside.next c.self.invariant c.args.serial found.0 c.self.inside.waiting c.push_back_reserved.new.self found.1 (ap is_queued found.2)
    c.push_back_reserved.ensures.items (omega (arith, e, r, len, cap))
    (waits_itself c.self.inside.table c.self.inside.waiting c.self.inside.queue c.self.inside.next c.self.invariant c.args.serial found.0 found.1 (ap is_waiting found.2)) c.self.invariant.listed)

pub returns : goal.returns
returns g c =
    let found = found_at c.self.inside.table c.self.inside.queue.items c.self.inside.next c.args.serial _ Claimed c.self.view_is c.requires in
    ap (λ (t : List (ℕ × Slot)). state_of t c.push_back_reserved.new.self.items c.self.inside.next) (c.put.ensures ∙ changed_is c.self.inside.table c.args.serial (put Queued) found.0 found.1)
    ∙ ap (λ (xs : List ℕ). state_of (set_value (is_at (nat_cmp c.args.serial)) c.self.inside.table (put Queued found.0)) xs c.self.inside.next) c.push_back_reserved.ensures.items
    ∙ queue_view c.self.inside.table c.self.inside.next c.args.serial found.0 found.1 c.self.inside.queue.items (without_free c.self.inside.table c.self.inside.next c.args.serial found.0 c.self.inside.queue.items found.1 (ap is_queued found.2) c.self.invariant.free)
    ∙ ap (queued_last c.args.serial) c.self.view_is
