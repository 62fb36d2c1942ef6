use Rattle.std.proofs.Common.{◌≡◌, ◌<◌, ℕ, IsSome, refl, sym, subst, length}
use Rattle.buffer_state.specs.State.{chunk_at}
use Rattle.ack_receipt.specs.Told.{ToldPast}
use Rattle.ack_receipt.specs.Books.{IsSound, book_of}
use Rattle.ack_receipt.proofs.Accounts.{accounted_new, below_next}
use Rattle.ack_receipt.proofs.Sound.{sound_new}
use Rattle.ack_receipt.proofs.booked.Booked.new.Goals as goal

pub invariant_of-result : goal.invariant_of-result
invariant_of-result g c =
    let chunks = c.args.buffer.chunks in
    let given : (s : ℕ) → IsSome (chunk_at chunks s) → s < chunks.next = below_next chunks c.stays_in_order.ensures.below in
    subst (λ (t : ToldPast). (0 ≡ length t.appends) × (0 ≡ t.synced) × IsSound (book_of c.args.buffer t.first t.appends t.lines c.new.result c.new-2.result.entries t.synced t.removed)) (sym c.new-past.ensures)
    (refl, refl, sound_new c.args.buffer c.new.result c.new-2.result.entries (accounted_new chunks given) c.new.ensures.count c.new.ensures.none c.new-2.ensures.empty)
