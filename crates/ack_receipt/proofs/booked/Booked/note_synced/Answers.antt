use Rattle.std.proofs.Common.{◌≡◌, sym, subst, length}
use Rattle.ack_receipt.specs.Told.{ToldPast}
use Rattle.ack_receipt.specs.Books.{IsSound, book_of}
use Rattle.ack_receipt.proofs.Sound.{sound_synced}
use Rattle.ack_receipt.proofs.booked.Booked.note_synced.Goals as goal

pub invariant_of-self : goal.invariant_of-self
invariant_of-self g c =
    let i = c.self.inside in
    let h = c.self.invariant.2 in
    subst (λ (t : ToldPast). (i.count ≡ length t.appends) × (i.count ≡ t.synced) × IsSound (book_of i.buffer t.first t.appends t.lines i.lines i.waiting.entries t.synced t.removed)) (sym c.then_synced.ensures)
    (c.self.invariant.0, c.self.invariant.0, sound_synced i.buffer i.past.first i.past.appends i.past.lines i.lines i.waiting.entries i.past.synced i.past.removed h i.buffer h.accounted)
