use Rattle.std.proofs.Common.{◌≡◌, subst}
use Rattle.std.specs.Prelude.{IfOk, IsSomeAnd}
use Rattle.buffer_state.specs.State.{chunk_at}
use Rattle.buffer_store.specs.Durability.{BeganWell}
use Rattle.ack_receipt.specs.Books.{Book}
use Rattle.ack_receipt.proofs.locked.LockedBuffer.body.Goals as goal

pub returns-clause-entries : goal.returns-clause-entries
returns-clause-entries g c = subst
    (λ (b : Book g.row.D.Denot). BeganWell g.D.Dir.is_honest g.D.Dir.history b.buffer
    → IfOk c.body.result (λ entries. IsSomeAnd (chunk_at b.buffer.chunks c.args.claim.now.serial) (λ chunk. entries ≡ chunk.entries)))
    c.self.view_is c.body.ensures.entries
