use Rattle.std.proofs.Common.{◌≡◌, ℕ, false, List, [], ◌∷◌, ◌++◌, refl, sym, ap, ◌∙◌, arith}
use Rattle.std.specs.Prelude.{filter}
use Rattle.buffer_state.specs.State.{is_queued}
use Rattle.buffer_state.specs.Views.{passes_at}
use Rattle.buffer_state.proofs.Serials.{one_further}
use Rattle.buffer_state.proofs.chunks.pop_queued.Goals as goal

pub loop-serial-preserved : goal.loop-serial-preserved
loop-serial-preserved g c =
    let inv = c.loop-serial.invariant in
    let items : c.loop-serial.queue.items ≡ c.in-Some.serial ∷ c.pop_front.new.self.items = c.in-Some.ensures.items in
    let off : passes_at is_queued c.args.table.now c.in-Some.serial ≡ false = sym c.is_queued.ensures ∙ c.if-is_queued.false in
    let len = c.pop_front.ensures.len in
    let cap = c.pop_front.ensures.capacity in
    let before = inv.2 in (
      (inv.0.0 ++ c.in-Some.serial ∷ [], inv.0.1 ∙ ap (λ (xs : List ℕ). inv.0.0 ++ xs) items ∙ one_further inv.0.0 c.in-Some.serial c.pop_front.new.self.items),
      inv.1 ∙ ap (filter (passes_at is_queued c.args.table.now)) items ∙ rw off refl,
      omega (arith, len, before),
      cap ∙ inv.3,
    )
