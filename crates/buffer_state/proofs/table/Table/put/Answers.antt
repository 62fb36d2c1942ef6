use Rattle.std.proofs.Common.{◌≡◌, true, false, sym, rules}
use Rattle.buffer_state.specs.State.{is_staged}
use Rattle.buffer_state.proofs.Tables.{left_fits, put_fits}
use Rattle.buffer_state.proofs.table.Table.put.Goals as goal

pub invariant_of-self-then-not-is_staged : goal.invariant_of-self-then-not-is_staged
invariant_of-self-then-not-is_staged g c =
    let h = c.get_mut.follows.holds c.put.new.self in
    let was : is_staged c.in-Some.chunk.now.chunk.stage ≡ false = search rules in
    rw (h.0, c.put.ensures) (put_fits _ c.self.inside.tags c.self.inside.total c.args.serial c.in-Some.chunk.now c.args.stage (sym c.in-Some.ensures.value) c.self.invariant c.requires was)

pub invariant_of-self-2 : goal.invariant_of-self-2
invariant_of-self-2 g c =
    let h = c.get_mut.follows.holds c.put-2.new.self in
    let on : is_staged c.in-Some.chunk.now.chunk.stage ≡ true = search rules in
    rw (h.0, c.put-2.ensures) (left_fits _ c.self.inside.tags c.remove.new.self c.self.inside.total c.args.serial c.in-Some.chunk.now c.args.stage (sym c.in-Some.ensures.value) c.self.invariant
    c.requires on (λ tag. rw (← c.tag.ensures) (c.remove.ensures tag)))
