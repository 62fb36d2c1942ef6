use Rattle.std.proofs.Common.{map, subst, sym}
use Rattle.std.proofs.lemmas.List.{length-map}
use Rattle.std.proofs.lemmas.Result.{on_ok_weaker}
use Rattle.custody_store.specs.Book.{told_events}
use Rattle.custody_store.specs.Book.{Book, Opened, HasRoom, with_room}
use Rattle.custody_store.proofs.BookChanges.{room_changed, room_there}
use Rattle.custody_store.proofs.book.Book.make_room.Goals as goal

pub returns-clause-ok : goal.returns-clause-ok
returns-clause-ok g c =
    let s = c.self.inside in
    rw (← c.self.view_is)
    (on_ok_weaker c.make_room.result
    (room_changed s.messages.items s.deliveries.items (told_events s.acknowledged.items) c.args.delivery c.index_mut-opened.result.now c.make_room.new.self
    (rw (← c.self.view_is) at c.requires) c.index_mut-opened.ensures.value with_room) c.make_room.ensures.ok)

pub returns-clause-there : goal.returns-clause-there
returns-clause-there g c =
    let s = c.self.inside in
    let within = rw (← c.self.view_is) at c.requires in
    on_ok_weaker c.make_room.result (λ e. subst (λ (b : Book). HasRoom b c.args.delivery)
    (sym (room_changed s.messages.items s.deliveries.items (told_events s.acknowledged.items) c.args.delivery c.index_mut-opened.result.now c.make_room.new.self within c.index_mut-opened.ensures.value with_room e))
    (room_there (map (λ (d : Opened). d.room) s.deliveries.items) c.args.delivery (simp length-map (simp length-map at within)))) c.make_room.ensures.ok
