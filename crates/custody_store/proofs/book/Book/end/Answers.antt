use Rattle.custody_store.specs.Book.{told_events}
use Rattle.custody_store.specs.Book.{ended}
use Rattle.custody_store.proofs.BookChanges.{delivery_changed}
use Rattle.custody_store.proofs.book.Book.end.Goals as goal

pub returns : goal.returns
returns g c =
    let s = c.self.inside in
    rw (← c.self.view_is)
    (delivery_changed s.messages.items s.deliveries.items (told_events s.acknowledged.items) c.args.delivery c.index_mut-opened.result.now c.end.new.self
    (rw (← c.self.view_is) at c.requires) c.index_mut-opened.ensures.value ended c.end.ensures)
