use Rattle.std.proofs.Common.{sym, subst}
use Rattle.buffer_store.specs.Buffers.{Held}
use Rattle.ack_receipt.specs.Books.{IsAccounted}
use Rattle.ack_receipt.proofs.Accounts.{accounted_claimed}
use Rattle.ack_receipt.proofs.Sound.{sound_chunks}
use Rattle.ack_receipt.proofs.booked.Booked.claim.Goals as goal

pub invariant_of-self : goal.invariant_of-self
invariant_of-self g c =
    let i = c.self.inside in
    let h = c.self.invariant.2 in
    let account : IsAccounted c.claim.new.self.chunks i.past.first i.past.appends i.past.removed =
    subst (λ (b : Held g.row.D.Denot). IsAccounted b.chunks i.past.first i.past.appends i.past.removed) (sym c.claim.ensures.state) (accounted_claimed i.buffer.chunks i.past.first i.past.appends i.past.removed h.accounted) in
    (c.self.invariant.0, c.self.invariant.1, sound_chunks i.buffer i.past.first i.past.appends i.past.lines i.lines i.waiting.entries i.past.synced i.past.removed h c.claim.new.self account)
