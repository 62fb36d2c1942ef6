use Rattle.std.proofs.Common.{ℕ, sym, subst}
use Rattle.buffer_state.specs.State.{IsAt}
use Rattle.buffer_state.specs.declared.chunk.Stage.TheVariants.{Claimed}
use Rattle.buffer_store.specs.Buffers.{Held}
use Rattle.ack_receipt.specs.Books.{IsAccounted}
use Rattle.ack_receipt.proofs.Accounts.{accounted_queued, queued_is_not_claimed}
use Rattle.ack_receipt.proofs.Sound.{sound_chunks}
use Rattle.ack_receipt.proofs.booked.Booked.give_back.Goals as goal

pub invariant_of-self : goal.invariant_of-self
invariant_of-self g c =
    let i = c.self.inside in
    let h = c.self.invariant.2 in
    let account : IsAccounted c.give_back.new.self.chunks i.past.first i.past.appends i.past.removed =
    subst (λ (b : Held g.row.D.Denot). IsAccounted b.chunks i.past.first i.past.appends i.past.removed) (sym c.give_back.ensures.state) (accounted_queued i.buffer.chunks i.past.first i.past.appends i.past.removed h.accounted c.serial-serial.result) in
    (c.self.invariant.0, c.self.invariant.1, sound_chunks i.buffer i.past.first i.past.appends i.past.lines i.lines i.waiting.entries i.past.synced i.past.removed h c.give_back.new.self account)

pub returns-then-is_claimed-clause-ended : goal.returns-then-is_claimed-clause-ended
returns-then-is_claimed-clause-ended g c = λ h.
    queued_is_not_claimed c.self.inside.buffer.chunks c.serial-serial.result
    (subst (λ (b : Held g.row.D.Denot). IsAt Claimed b.chunks c.serial-serial.result) c.give_back.ensures.state
    (subst (λ (n : ℕ). IsAt Claimed c.give_back.new.self.chunks n) (sym c.serial-serial.ensures) h))
