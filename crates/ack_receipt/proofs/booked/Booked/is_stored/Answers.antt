use Rattle.std.proofs.Common.{◌≡◌, List, ℕ, sym, subst, rules}
use Rattle.std.specs.Prelude.{IsSomeAnd, IsTrue}
use Rattle.buffer_state.specs.State.{chunk_at}
use Rattle.buffer_store.specs.Durability.{BeganWell}
use Rattle.ack_receipt.specs.Books.{Book}
use Rattle.ack_receipt.specs.Evidences.{IsLike}
use Rattle.ack_receipt.proofs.Answered.{whole_of_like}
use Rattle.ack_receipt.proofs.booked.Booked.is_stored.Goals as goal

pub returns-clause-whole : goal.returns-clause-whole
returns-clause-whole g c = λ began.
    let like : IsTrue c.are_same.result → IsLike c.args.self.now.buffer.chunks c.args.serial c.args.stored.now = search rules in
    let read = c.in_ok-entries.ensures.entries (subst (λ (b : Book g.row.D.Denot). BeganWell g.D.Dir.is_honest g.D.Dir.history b.buffer) (sym c.self.view_is) began) in
    whole_of_like (chunk_at c.args.self.now.buffer.chunks c.args.serial) c.args.stored.now c.in_ok-entries.entries c.are_same.result
    (subst (λ (b : Book g.row.D.Denot). IsSomeAnd (chunk_at b.buffer.chunks c.args.serial) (λ chunk. c.in_ok-entries.entries ≡ chunk.entries)) c.self.view_is read)
    (subst (λ (entries : List (List ℕ)). (IsTrue c.are_same.result → c.in_ok-entries.entries ≡ entries) × (c.in_ok-entries.entries ≡ entries → IsTrue c.are_same.result)) c.entries-2.ensures c.are_same.ensures)
    like

pub returns-in_err-entries-clause-undamaged : goal.returns-in_err-entries-clause-undamaged
returns-in_err-entries-clause-undamaged g c = λ began.
    let undamaged = c.in_err-entries.ensures.undamaged (subst (λ (b : Book g.row.D.Denot). BeganWell g.D.Dir.is_honest g.D.Dir.history b.buffer) (sym c.self.view_is) began) in
    search rules
