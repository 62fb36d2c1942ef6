use Rattle.std.proofs.Common.{◌≡◌, ◌+◌, length, sym, ◌∙◌, arith}
use Rattle.buffer_state.specs.Slots.{slot_size}
use Rattle.buffer_state.proofs.Tables.{part_of, gone_staged, gone_other}
use Rattle.buffer_state.proofs.table.Table.remove.Goals as goal

pub overflow_sub-self : goal.overflow_sub-self
overflow_sub-self g c =
    let p = part_of _ c.self.inside.tags c.self.inside.total c.args.serial _ c.self.invariant (sym c.in-Some.ensures.value) in
    let s : c.size.result ≡ slot_size c.in-Some.chunk = c.size.ensures in
    omega (arith, p, s)

pub invariant_of-self-then-is_staged : goal.invariant_of-self-then-is_staged
invariant_of-self-then-is_staged g c =
    let p = part_of _ c.self.inside.tags c.self.inside.total c.args.serial _ c.self.invariant (sym c.in-Some.ensures.value) in
    let s : c.size.result ≡ slot_size c.in-Some.chunk = c.size.ensures in
    let len : length c.remove.new.self.entries + 1 ≡ length c.self.inside.chunks.entries = c.in-Some.ensures.len in
    gone_staged _ _ c.args.serial c.in-Some.chunk c.self.inside.tags c.remove-then-is_staged.new.self c.self.inside.total _ c.self.invariant (sym c.in-Some.ensures.value)
    c.remove.ensures.entries c.remove.ensures.ordered len (omega (arith, p, s)) (sym c.is_staged.ensures ∙ c.if-is_staged.true)
    (λ tag. rw (← c.tag.ensures) (c.remove-then-is_staged.ensures tag))

pub invariant_of-self-else-is_staged : goal.invariant_of-self-else-is_staged
invariant_of-self-else-is_staged g c =
    let p = part_of _ c.self.inside.tags c.self.inside.total c.args.serial _ c.self.invariant (sym c.in-Some.ensures.value) in
    let s : c.size.result ≡ slot_size c.in-Some.chunk = c.size.ensures in
    let len : length c.remove.new.self.entries + 1 ≡ length c.self.inside.chunks.entries = c.in-Some.ensures.len in
    gone_other _ _ c.args.serial c.in-Some.chunk c.self.inside.tags c.self.inside.total _ c.self.invariant (sym c.in-Some.ensures.value)
    c.remove.ensures.entries c.remove.ensures.ordered len (omega (arith, p, s)) (sym c.is_staged.ensures ∙ c.if-is_staged.false)
