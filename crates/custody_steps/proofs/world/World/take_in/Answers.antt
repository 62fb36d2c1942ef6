use Rattle.std.proofs.Common.{refl, ap, ◌∙◌, arith}
use Rattle.std.proofs.lemmas.Option.{slice_get_within}
use Rattle.custody_store.specs.Book.{Book, Message, Delivery, changed_at, appended_to_buffer, with_room, less_room}
use Rattle.custody_steps.specs.Steps.{CanAppend, with_appended}
use Rattle.custody_steps.specs.WorldFrom.{world_from}
use Rattle.custody_steps.specs.WorldOf.{world_of}
use Rattle.custody_steps.proofs.Delivered.{appended-same}
use Rattle.custody_steps.proofs.Deliveries.{length-from}
use Rattle.custody_steps.proofs.Keeping as keeping
use Rattle.custody_steps.proofs.Views.{same_world}
use Rattle.custody_store.specs.Places.{closed_at}
use Rattle.custody_steps.proofs.world.World.take_in.Goals as goal

pub make_room-requires : goal.make_room-requires
make_room-requires g c =
    let w = c.args.self.now in
    let P : Delivery → Message → Type 0 = λ d m. CanAppend w.net.now (world_of w) d m c.args.buffer c.args.serial in
    let o = keeping.is_of (world_of w) c.args.number P c.requires in
    let within = slice_get_within (world_of w).deliveries c.args.number o.delivery o.delivery_is in
    let many = length-from (closed_at w.places) 0 w.book.deliveries in
    omega arith

pub invariant_of-self : goal.invariant_of-self
invariant_of-self g c =
    let w = c.args.self.now in
    let k = keeping.known_again w.net.now w.places w.book c.make_room.new.self (keeping.known_of w) c.in_err-make_room.ensures.err in
    record { answers = k.answers; closed = k.closed; sent = k.sent; ending = k.ending; shown = k.shown }

pub invariant_of-self-in_default : goal.invariant_of-self-in_default
invariant_of-self-in_default g c =
    let w = c.args.self.now in
    let P : Delivery → Message → Type 0 = λ d m. CanAppend w.net.now (world_of w) d m c.args.buffer c.args.serial in
    absurd (keeping.none_of w.places w.book c.args.number P (rw c.in_ok-make_room.ensures.ok at c.in_default.ensures) c.requires)

pub returns-in_default-clause-ok : goal.returns-in_default-clause-ok
returns-in_default-clause-ok g c =
    let w = c.args.self.now in
    let P : Delivery → Message → Type 0 = λ d m. CanAppend w.net.now (world_of w) d m c.args.buffer c.args.serial in
    absurd (keeping.none_of w.places w.book c.args.number P (rw c.in_ok-make_room.ensures.ok at c.in_default.ensures) c.requires)

pub invariant_of-self-in_default-message : goal.invariant_of-self-in_default-message
invariant_of-self-in_default-message g c =
    let w = c.args.self.now in
    let P : Delivery → Message → Type 0 = λ d m. CanAppend w.net.now (world_of w) d m c.args.buffer c.args.serial in
    let at = rw c.in_ok-make_room.ensures.ok at c.in-Some.ensures in
    absurd (keeping.of_none w.places w.book c.args.number c.in-Some.found.now.delivery at P (rw (c.in_ok-make_room.ensures.ok, c.message.ensures) at c.in_default-message.ensures) c.requires)

pub returns-in_default-message-clause-ok : goal.returns-in_default-message-clause-ok
returns-in_default-message-clause-ok g c =
    let w = c.args.self.now in
    let P : Delivery → Message → Type 0 = λ d m. CanAppend w.net.now (world_of w) d m c.args.buffer c.args.serial in
    let at = rw c.in_ok-make_room.ensures.ok at c.in-Some.ensures in
    absurd (keeping.of_none w.places w.book c.args.number c.in-Some.found.now.delivery at P (rw (c.in_ok-make_room.ensures.ok, c.message.ensures) at c.in_default-message.ensures) c.requires)

pub invariant_of-self-in-Break-branch-2 : goal.invariant_of-self-in-Break-branch-2
invariant_of-self-in-Break-branch-2 g c =
    let w = c.args.self.now in
    let roomy = keeping.known_room w.net.now w.places w.book c.make_room.new.self (keeping.known_of w) (changed_at w.book.room c.args.number with_room) c.in_ok-make_room.ensures.ok in
    let k = keeping.known_same w.net.now w.places c.make.new.self c.make_room.new.self roomy c.make.ensures.same in
    record { answers = k.answers; closed = k.closed; sent = k.sent; ending = k.ending; shown = k.shown }

pub returns-in_err-make-clause-err : goal.returns-in_err-make-clause-err
returns-in_err-make-clause-err g c =
    let w = c.args.self.now in
    keeping.at_error c.from_residual-in_err-make.result (same_world w.places c.make.new.self c.make.ensures.same c.make_room.new.self ∙ ap (world_from w.places) c.in_ok-make_room.ensures.ok)

pub take_in-requires-clause-takes : goal.take_in-requires-clause-takes
take_in-requires-clause-takes g c =
    let w = c.args.self.now in
    let found = c.in-Some.found.now.delivery in
    let m = c.in-Some-message.message.now in
    let P : Delivery → Message → Type 0 = λ d x. CanAppend w.net.now (world_of w) d x c.args.buffer c.args.serial in
    let at = rw c.in_ok-make_room.ensures.ok at c.in-Some.ensures in
    let sent = rw (c.in_ok-make_room.ensures.ok, c.message.ensures) at c.in-Some-message.ensures in
    let may = keeping.both_of w.places w.book c.args.number found at m sent P c.requires in
    rw (c.entrance-place.ensures, c.tag.ensures, c.make.ensures.same.contents found.entrance.relay c.args.buffer) may.can_take

pub invariant_of-self-in-Break-branch-3 : goal.invariant_of-self-in-Break-branch-3
invariant_of-self-in-Break-branch-3 g c =
    let w = c.args.self.now in
    let roomy = keeping.known_room w.net.now w.places w.book c.make_room.new.self (keeping.known_of w) (changed_at w.book.room c.args.number with_room) c.in_ok-make_room.ensures.ok in
    let made = keeping.known_same w.net.now w.places c.make.new.self c.make_room.new.self roomy c.make.ensures.same in
    let k = keeping.known_same w.net.now c.make.new.self c.take_in.new.self c.make_room.new.self made c.in_err-take_in.ensures.err in
    record { answers = k.answers; closed = k.closed; sent = k.sent; ending = k.ending; shown = k.shown }

pub returns-in_err-take_in-clause-err : goal.returns-in_err-take_in-clause-err
returns-in_err-take_in-clause-err g c =
    let w = c.args.self.now in
    keeping.at_error c.from_residual-in_err-take_in.result
    (same_world c.make.new.self c.take_in.new.self c.in_err-take_in.ensures.err c.make_room.new.self
    ∙ same_world w.places c.make.new.self c.make.ensures.same c.make_room.new.self
    ∙ ap (world_from w.places) c.in_ok-make_room.ensures.ok)

pub invariant_of-self-2 : goal.invariant_of-self-2
invariant_of-self-2 g c =
    let w = c.args.self.now in
    let book = c.make_room.new.self in
    let roomy = keeping.known_room w.net.now w.places w.book book (keeping.known_of w) (changed_at w.book.room c.args.number with_room) c.in_ok-make_room.ensures.ok in
    let made = keeping.known_same w.net.now w.places c.make.new.self book roomy c.make.ensures.same in
    let taken = keeping.known_changed w.net.now c.make.new.self c.take_in.new.self book made c.entrance-place.result.relay c.args.buffer _ c.in_ok-take_in.ensures.ok refl in
    let k = keeping.known_delivery w.net.now c.take_in.new.self book c.mark_appended.new.self taken (appended_to_buffer c.args.buffer) c.args.number (changed_at book.room c.args.number less_room) (appended-same c.args.buffer) c.mark_appended.ensures in
    record { answers = k.answers; closed = k.closed; sent = k.sent; ending = k.ending; shown = k.shown }

pub returns-clause-ok : goal.returns-clause-ok
returns-clause-ok g c =
    let w = c.args.self.now in
    let book = c.make_room.new.self in
    let found = c.in-Some.found.now.delivery in
    let m = c.in-Some-message.message.now in
    let P : Delivery → Message → Type 0 = λ d x. CanAppend w.net.now (world_of w) d x c.args.buffer c.args.serial in
    let at = rw c.in_ok-make_room.ensures.ok at c.in-Some.ensures in
    let sent = rw (c.in_ok-make_room.ensures.ok, c.message.ensures) at c.in-Some-message.ensures in
    let may = keeping.both_of w.places w.book c.args.number found at m sent P c.requires in
    let sent_now = rw c.message.ensures at c.in-Some-message.ensures in
    keeping.appended_world w.places c.make.new.self c.take_in.new.self book c.mark_appended.new.self c.args.number c.args.buffer c.args.serial found c.in-Some.ensures m sent_now c.make.ensures.same
    (rw (c.entrance-place.ensures, c.tag.ensures, c.entries.ensures) at c.in_ok-take_in.ensures.ok)
    (rw (c.make.ensures.same.contents found.entrance.relay c.args.buffer) may.can_take)
    (changed_at book.room c.args.number less_room) c.mark_appended.ensures
    ∙ ap (λ (b : Book). with_appended (world_from w.places b) c.args.number c.args.buffer c.args.serial) c.in_ok-make_room.ensures.ok
