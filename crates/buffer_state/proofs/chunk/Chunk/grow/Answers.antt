use Rattle.std.proofs.Common.{◌≡◌, length, refl, ap, arith}
use Rattle.std.specs.List.{concat}
use Rattle.buffer_state.specs.State.{size}
use Rattle.buffer_state.specs.Slots.{Slot}
use Rattle.buffer_state.proofs.Alike.{few, kept_more}
use Rattle.buffer_state.proofs.chunk.Chunk.grow.Goals as goal

pub overflow_add-self-2 : goal.overflow_add-self-2
overflow_add-self-2 g c =
    let held = c.self.invariant.counted in
    let n = c.count.ensures in
    let a = few c.self.inside.content (concat c.self.inside.content) c.self.invariant.each refl in
    let b = few c.args.entries.now (concat c.args.entries.now) c.as_bytes.ensures.stored refl in
    let v : size c.self.inside.content ≡ size c.args.self.now.chunk.entries = ap (λ (s : Slot). size s.chunk.entries) c.self.view_is in
    let m = c.requires.small in
    omega (arith, held, n, a, b, v, m)

pub invariant_of-self : goal.invariant_of-self
invariant_of-self g c = rw c.then.ensures (kept_more c.self.inside.count c.self.inside.size c.count.result (length c.as_bytes.result.now) c.self.inside.content c.args.entries.now c.self.invariant
    (record { counted = c.count.ensures; sized = ap length c.as_bytes.ensures.all; each = c.as_bytes.ensures.stored }))
