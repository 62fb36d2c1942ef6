use Rattle.std.proofs.Common.{ℕ, ◌≡◌, ◌∙◌, List, Err, ap, subst}
use Rattle.std.specs.Prelude.{OnOk}
use Rattle.ack_receipt.specs.Books.{Book}
use Rattle.buffer_state.specs.Steps.{planned}
use Rattle.buffer_state.specs.declared.limits.AppendFault.TheVariants.{Full}
use Rattle.buffer_store.specs.declared.fault.BufferFault.{BufferFault}
use Rattle.buffer_store.specs.declared.fault.BufferFault.TheVariants as answer
use Rattle.ack_receipt.specs.Room.{HasRoom}
use Rattle.ack_receipt.proofs.Asking.{full_planned, room_made, room_missing}
use Rattle.ack_receipt.proofs.locked.LockedBuffer.ask_room.Goals as goal

pub returns-in-Err-Full-clause-ok : goal.returns-in-Err-Full-clause-ok
returns-in-Err-Full-clause-ok g c =
    let now = c.args.self.now.buffer in
    let full =
    subst (λ (b : Book _). planned b.buffer.limits b.buffer.chunks c.tag.result.now c.entries-entries.result.now ≡ Err Full) c.self.view_is
    (full_planned c.self.inside.booked c.tag.result.now c.entries-entries.result.now c.plan.result c.plan.ensures.refused c.plan.ensures.failed
    (c.in-Err-Full.is ∙ ap (λ (f : BufferFault). Err f) c.in-Err-Full.field-0-is)) in
    subst (λ (t : List ℕ). OnOk c.room_by_dropping.result (HasRoom c.args.terms.now.takes now.limits now.chunks t c.args.delivery.now.message.entries)) c.tag.ensures
    (subst (λ (e : List (List ℕ)). OnOk c.room_by_dropping.result (HasRoom c.args.terms.now.takes now.limits now.chunks c.tag.result.now e)) c.entries-entries.ensures
    (room_made c.args.terms.now.takes now.limits now.chunks c.tag.result.now c.entries-entries.result.now c.room_by_dropping.result c.room_by_dropping.ensures.ok full))

pub returns-in-Err-Full-clause-full : goal.returns-in-Err-Full-clause-full
returns-in-Err-Full-clause-full g c =
    let now = c.args.self.now.buffer in
    let full =
    subst (λ (b : Book _). planned b.buffer.limits b.buffer.chunks c.tag.result.now c.entries-entries.result.now ≡ Err Full) c.self.view_is
    (full_planned c.self.inside.booked c.tag.result.now c.entries-entries.result.now c.plan.result c.plan.ensures.refused c.plan.ensures.failed
    (c.in-Err-Full.is ∙ ap (λ (f : BufferFault). Err f) c.in-Err-Full.field-0-is)) in
    subst (λ (t : List ℕ). c.room_by_dropping.result ≡ Err answer.Full → HasRoom c.args.terms.now.takes now.limits now.chunks t c.args.delivery.now.message.entries → ⊥) c.tag.ensures
    (subst (λ (e : List (List ℕ)). c.room_by_dropping.result ≡ Err answer.Full → HasRoom c.args.terms.now.takes now.limits now.chunks c.tag.result.now e → ⊥) c.entries-entries.ensures
    (room_missing c.args.terms.now.takes now.limits now.chunks c.tag.result.now c.entries-entries.result.now c.room_by_dropping.result c.room_by_dropping.ensures.full full))
