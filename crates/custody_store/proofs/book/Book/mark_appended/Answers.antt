use Rattle.std.proofs.Common.{map}
use Rattle.std.proofs.lemmas.List.{length-map}
use Rattle.custody_store.specs.Book.{told_events}
use Rattle.custody_store.specs.Book.{Opened, appended_to_buffer, less_room}
use Rattle.custody_store.proofs.BookChanges.{both_changed, room_within}
use Rattle.custody_store.proofs.book.Book.mark_appended.Goals as goal

pub returns : goal.returns
returns g c =
    let s = c.self.inside in
    let within = room_within (map (λ (d : Opened). d.room) s.deliveries.items) c.args.delivery (rw (← c.self.view_is) at c.requires) in
    rw (← c.self.view_is)
    (both_changed s.messages.items s.deliveries.items (told_events s.acknowledged.items) c.args.delivery c.index_mut-opened.result.now c.mark_appended.new.self
    (simp length-map (simp length-map at within)) c.index_mut-opened.ensures.value (appended_to_buffer c.args.buffer) less_room c.mark_appended.ensures)
