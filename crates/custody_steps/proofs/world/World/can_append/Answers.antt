use Rattle.std.proofs.Common.{◌≡◌, true, sym, ◌∙◌, Contains, IsTrue, ◌↔◌}
use Rattle.std.proofs.lemmas.Bool.{false≢true}
use Rattle.std.proofs.lemmas.Result.{IfOk-weaker}
use Rattle.custody_store.specs.Buffers.{CanTake}
use Rattle.custody_store.specs.Book.{Message, Delivery}
use Rattle.relay_net.specs.Ways.{HasLeaf}
use Rattle.custody_steps.specs.Steps.{CanAppend, OfDelivery}
use Rattle.custody_steps.specs.WorldOf.{world_of}
use Rattle.custody_steps.proofs.Keeping as keeping
use Rattle.custody_steps.proofs.world.World.can_append.Goals as goal
use Rattle.custody_steps.proofs.world.World.can_append.Goals.{then-not-is_open-via-then-not-is_open, then-not-is_open-via-else-not-is_open+then-has_appended}

pub returns-in_default-clause-ok : goal.returns-in_default-clause-ok
returns-in_default-clause-ok g c =
    let w = c.args.self.now in
    let P : Delivery → Message → Type 0 = λ d m. CanAppend w.net.now (world_of w) d m c.args.buffer c.args.serial in
    keeping.never _ (keeping.none_of w.places w.book c.args.number P c.in_default.ensures)

pub returns-in_default-message-clause-ok : goal.returns-in_default-message-clause-ok
returns-in_default-message-clause-ok g c =
    let w = c.args.self.now in
    let P : Delivery → Message → Type 0 = λ d m. CanAppend w.net.now (world_of w) d m c.args.buffer c.args.serial in
    keeping.never _ (keeping.of_none w.places w.book c.args.number c.in-Some.found.now.delivery c.in-Some.ensures P (rw c.message.ensures at c.in_default-message.ensures))

pub returns-then-not-is_open-clause-ok : goal.returns-then-not-is_open-clause-ok
returns-then-not-is_open-clause-ok g c =
    let w = c.args.self.now in
    let found = c.in-Some.found.now.delivery in
    let m = c.in-Some-message.message.now in
    let sent = rw c.message.ensures at c.in-Some-message.ensures in
    let P : Delivery → Message → Type 0 = λ d x. CanAppend w.net.now (world_of w) d x c.args.buffer c.args.serial in
    keeping.never _ (λ o. let may = keeping.both_of w.places w.book c.args.number found c.in-Some.ensures m sent P o in
    elim c.then-not-is_open.branch [
      | then-not-is_open-via-then-not-is_open x ↦ let e = may.is_open in false≢true (sym x.if-not-is_open.true ∙ (c.is_open.ensures ∙ e))
      | then-not-is_open-via-else-not-is_open+then-has_appended x ↦ may.is_new (x.has_appended.ensures.0 x.if-has_appended.true)
    ])

pub returns-then-not-takes-clause-ok : goal.returns-then-not-takes-clause-ok
returns-then-not-takes-clause-ok g c =
    let w = c.args.self.now in
    let found = c.in-Some.found.now.delivery in
    let m = c.in-Some-message.message.now in
    let sent = rw c.message.ensures at c.in-Some-message.ensures in
    let P : Delivery → Message → Type 0 = λ d x. CanAppend w.net.now (world_of w) d x c.args.buffer c.args.serial in
    keeping.never _ (λ o. let may = keeping.both_of w.places w.book c.args.number found c.in-Some.ensures m sent P o in
    let told = rw (c.as_bytes.ensures.bytes, c.tag.ensures, c.entrance-at.ensures) at c.takes.ensures in
    false≢true (sym c.if-not-takes.true ∙ told.1 may.can_take))

pub has_leaf-requires : goal.has_leaf-requires
has_leaf-requires g c =
    let w = c.args.self.now in
    let found = c.in-Some.found.now.delivery in
    let m = c.in-Some-message.message.now in
    let sent = rw c.message.ensures at c.in-Some-message.ensures in
    w.ending c.args.number found m (sym c.in-Some.ensures) (sym sent)

pub returns-clause-ok : goal.returns-clause-ok
returns-clause-ok g c =
    let w = c.args.self.now in
    let found = c.in-Some.found.now.delivery in
    let m = c.in-Some-message.message.now in
    let sent = rw c.message.ensures at c.in-Some-message.ensures in
    let P : Delivery → Message → Type 0 = λ d x. CanAppend w.net.now (world_of w) d x c.args.buffer c.args.serial in
    let fresh : ¬ Contains found.appended c.args.buffer = λ h. false≢true (sym c.if-has_appended.false ∙ c.has_appended.ensures.1 h) in
    let told = rw (c.as_bytes.ensures.bytes, c.tag.ensures, c.entrance-at.ensures) at c.takes.ensures in
    IfOk-weaker c.has_leaf.result (λ x. IsTrue x ↔ HasLeaf w.net.now found.entrance found.tag m.entries c.args.buffer) (λ x. IsTrue x ↔ OfDelivery (world_of w) c.args.number P)
    (λ x is. (
      λ e. keeping.of_both w.places w.book c.args.number found c.in-Some.ensures m sent P (record { is_open = sym c.is_open.ensures ∙ c.if-not-is_open.false; is_leaf = is.0 e; is_new = fresh; can_take = told.0 c.if-not-takes.false }),
      λ o. is.1 (keeping.both_of w.places w.book c.args.number found c.in-Some.ensures m sent P o).is_leaf,
    )) c.has_leaf.ensures

pub returns-clause-err : goal.returns-clause-err
returns-clause-err g c =
    let w = c.args.self.now in
    let found = c.in-Some.found.now.delivery in
    let m = c.in-Some-message.message.now in
    let sent = rw c.message.ensures at c.in-Some-message.ensures in
    let Q : Delivery → Message → Type 0 = λ d x. (d.is_open ≡ true) × (¬ Contains d.appended c.args.buffer) × CanTake ((world_of w).buffers d.entrance.relay c.args.buffer) d.tag c.args.serial in
    let fresh : ¬ Contains found.appended c.args.buffer = λ h. false≢true (sym c.if-has_appended.false ∙ c.has_appended.ensures.1 h) in
    let told = rw (c.as_bytes.ensures.bytes, c.tag.ensures, c.entrance-at.ensures) at c.takes.ensures in
    keeping.at_error c.has_leaf.result (keeping.of_both w.places w.book c.args.number found c.in-Some.ensures m sent Q (sym c.is_open.ensures ∙ c.if-not-is_open.false, fresh, told.0 c.if-not-takes.false))
