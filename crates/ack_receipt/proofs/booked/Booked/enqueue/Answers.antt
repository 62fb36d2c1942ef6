use Rattle.std.proofs.Common.{sym, subst}
use Rattle.buffer_state.specs.State.{State}
use Rattle.ack_receipt.specs.Books.{IsAccounted}
use Rattle.ack_receipt.proofs.Accounts.{accounted_queued}
use Rattle.ack_receipt.proofs.Sound.{sound_chunks}
use Rattle.ack_receipt.proofs.booked.Booked.enqueue.Goals as goal

pub invariant_of-self-2 : goal.invariant_of-self-2
invariant_of-self-2 g c =
    let i = c.self.inside in
    let h = c.self.invariant.2 in
    let account : IsAccounted c.enqueue.new.self.chunks i.past.first i.past.appends i.past.removed =
    subst (λ (z : State). IsAccounted z i.past.first i.past.appends i.past.removed) (sym c.in_ok-enqueue.ensures.ok) (accounted_queued i.buffer.chunks i.past.first i.past.appends i.past.removed h.accounted c.args.serial) in
    (c.self.invariant.0, c.self.invariant.1, sound_chunks i.buffer i.past.first i.past.appends i.past.lines i.lines i.waiting.entries i.past.synced i.past.removed h c.enqueue.new.self account)
