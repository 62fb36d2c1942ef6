use Rattle.std.proofs.Common.{◌≡◌, ℕ, true, sym, ◌∙◌, Contains, IsTrue, ◌↔◌}
use Rattle.std.proofs.lemmas.Bool.{false≢true}
use Rattle.std.proofs.lemmas.Result.{IfOk-weaker}
use Rattle.custody_store.specs.Book.{Message, Delivery}
use Rattle.relay_net.specs.Ways.{HasLeaf}
use Rattle.custody_steps.specs.Steps.{CanAcknowledge, OfDelivery}
use Rattle.custody_steps.specs.WorldOf.{world_of}
use Rattle.custody_steps.proofs.Keeping as keeping
use Rattle.custody_steps.proofs.world.World.can_acknowledge.Goals as goal

pub returns-in_default-clause-ok : goal.returns-in_default-clause-ok
returns-in_default-clause-ok g c =
    let w = c.args.self.now in
    keeping.never _ (keeping.none_of w.places w.book c.args.number (CanAcknowledge w.net.now) c.in_default.ensures)

pub returns-in_default-message-clause-ok : goal.returns-in_default-message-clause-ok
returns-in_default-message-clause-ok g c =
    let w = c.args.self.now in
    keeping.never _ (keeping.of_none w.places w.book c.args.number c.in-Some.found.now.delivery c.in-Some.ensures (CanAcknowledge w.net.now) (rw c.message.ensures at c.in_default-message.ensures))

pub returns-then-not-is_open-clause-ok : goal.returns-then-not-is_open-clause-ok
returns-then-not-is_open-clause-ok g c =
    let w = c.args.self.now in
    let found = c.in-Some.found.now.delivery in
    let m = c.in-Some-message.message.now in
    let sent = rw c.message.ensures at c.in-Some-message.ensures in
    keeping.never _ (λ o. let may = keeping.both_of w.places w.book c.args.number found c.in-Some.ensures m sent (CanAcknowledge w.net.now) o in
    let e = may.is_open in false≢true (sym c.if-not-is_open.true ∙ (c.is_open.ensures ∙ e)))

pub is_whole-requires : goal.is_whole-requires
is_whole-requires g c =
    let w = c.args.self.now in
    let found = c.in-Some.found.now.delivery in
    let sent = rw c.message.ensures at c.in-Some-message.ensures in
    w.ending c.args.number found c.in-Some-message.message.now (sym c.in-Some.ensures) (sym sent)

pub returns-clause-ok : goal.returns-clause-ok
returns-clause-ok g c =
    let w = c.args.self.now in
    let found = c.in-Some.found.now.delivery in
    let m = c.in-Some-message.message.now in
    let sent = rw c.message.ensures at c.in-Some-message.ensures in
    let P : Delivery → Message → Type 0 = CanAcknowledge w.net.now in
    IfOk-weaker c.is_whole.result (λ x. IsTrue x ↔ ((buffer : ℕ) → HasLeaf w.net.now found.entrance found.tag m.entries buffer → Contains found.appended buffer)) (λ x. IsTrue x ↔ OfDelivery (world_of w) c.args.number P)
    (λ x is. (
      λ e. keeping.of_both w.places w.book c.args.number found c.in-Some.ensures m sent P (record { is_open = sym c.is_open.ensures ∙ c.if-not-is_open.false; is_whole = is.0 e }),
      λ o. is.1 (keeping.both_of w.places w.book c.args.number found c.in-Some.ensures m sent P o).is_whole,
    )) c.is_whole.ensures

pub returns-clause-err : goal.returns-clause-err
returns-clause-err g c =
    let w = c.args.self.now in
    let found = c.in-Some.found.now.delivery in
    let m = c.in-Some-message.message.now in
    let sent = rw c.message.ensures at c.in-Some-message.ensures in
    let Q : Delivery → Message → Type 0 = λ d x. d.is_open ≡ true in
    keeping.at_error c.is_whole.result (keeping.of_both w.places w.book c.args.number found c.in-Some.ensures m sent Q (sym c.is_open.ensures ∙ c.if-not-is_open.false))
