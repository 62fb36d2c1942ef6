use Rattle.std.proofs.Common.{rules, ◌≡◌, ◌∙◌, ◌<◌, Some, sym, subst, length, arith}
use Rattle.ack_receipt.specs.Told.{ToldPast}
use Rattle.ack_receipt.specs.Books.{IsSound, book_of, waiting_at}
use Rattle.ack_receipt.proofs.Answered.{some_long}
use Rattle.ack_receipt.proofs.Sound.{sound_redeemed}
use Rattle.ack_receipt.proofs.booked.Booked.redeem.Goals as goal

pub write_reserved-requires-clause-room : goal.write_reserved-requires-clause-room
write_reserved-requires-clause-room g c =
    let waits = subst (λ b. waiting_at b.waiting c.args.place ≡ Some c.args.line) (sym c.self.view_is) c.requires.waits in
    let one = some_long c.remove.result c.args.line _ _ (c.remove.ensures.value ∙ waits) c.remove.ensures.len in
    let room = c.self.invariant.2.waits.room in
    omega arith

pub write_reserved-requires-clause-number : goal.write_reserved-requires-clause-number
write_reserved-requires-clause-number g c =
    let waits = subst (λ b. waiting_at b.waiting c.args.place ≡ Some c.args.line) (sym c.self.view_is) c.requires.waits in
    let one = some_long c.remove.result c.args.line _ _ (c.remove.ensures.value ∙ waits) c.remove.ensures.len in
    let few = c.self.invariant.2.waits.few in
    let pages = c.self.invariant.2.on_pages.count in
    let y = c.self.invariant.0 in
    let fits : c.self.inside.count < 18446744073709551616 = search (rules, arith) in
    omega arith

pub invariant_of-self : goal.invariant_of-self
invariant_of-self g c =
    let i = c.self.inside in
    let waits = subst (λ b. waiting_at b.waiting c.args.place ≡ Some c.args.line) (sym c.self.view_is) c.requires.waits in
    let below = subst (λ b. c.args.place < b.synced) (sym c.self.view_is) c.requires.synced in
    subst (λ (t : ToldPast). (i.count ≡ length t.appends) × (i.synced ≡ t.synced) × IsSound (book_of i.buffer t.first t.appends t.lines c.write_reserved.new.self c.remove.new.self.entries t.synced t.removed)) (sym c.then_line.ensures) (
      c.self.invariant.0,
      c.self.invariant.1,
      sound_redeemed i.buffer i.past.first i.past.appends i.past.lines i.lines i.waiting.entries i.past.synced i.past.removed c.self.invariant.2 c.args.place c.args.line c.write_reserved.new.self c.remove.new.self.entries
          waits below c.remove.ensures.updates.0 (some_long c.remove.result c.args.line _ _ (c.remove.ensures.value ∙ waits) c.remove.ensures.len) c.write_reserved.ensures.written c.write_reserved.ensures.room,
    )
