use Rattle.std.proofs.Common.{◌≡◌, ◌++◌, ◌∷◌, [], sym, subst, length}
use Rattle.buffer_state.specs.State.{State}
use Rattle.ack_receipt.specs.Told.{ToldPast}
use Rattle.ack_receipt.specs.Books.{IsAccounted, IsSound, book_of}
use Rattle.ack_receipt.proofs.Accounts.{accounted_removed}
use Rattle.ack_receipt.proofs.Sound.{sound_removed}
use Rattle.ack_receipt.proofs.booked.Booked.let_go.Goals as goal

pub invariant_of-self-2 : goal.invariant_of-self-2
invariant_of-self-2 g c =
    let i = c.self.inside in
    let h = c.self.invariant.2 in
    let s = c.args.serial in
    let account : IsAccounted c.purge.new.self.chunks i.past.first i.past.appends (i.past.removed ++ s ∷ []) =
    subst (λ (z : State). IsAccounted z i.past.first i.past.appends (i.past.removed ++ s ∷ [])) (sym c.in_ok-purge.ensures.ok)
    (accounted_removed i.buffer.chunks i.past.first i.past.appends i.past.removed h.accounted s c.stays_in_order.ensures.rising) in
    subst (λ (t : ToldPast). (i.count ≡ length t.appends) × (i.synced ≡ t.synced) × IsSound (book_of c.purge.new.self t.first t.appends t.lines i.lines i.waiting.entries t.synced t.removed)) (sym c.then_removed.ensures)
    (c.self.invariant.0, c.self.invariant.1, sound_removed i.buffer i.past.first i.past.appends i.past.lines i.lines i.waiting.entries i.past.synced i.past.removed h c.purge.new.self (i.past.removed ++ s ∷ []) account)
