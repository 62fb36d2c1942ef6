use Rattle.custody_store.proofs.BookChanges.{got_delivery}
use Rattle.custody_store.proofs.book.Book.delivery.Goals as goal

pub returns : goal.returns
returns g c = rw (← c.self.view_is) (got_delivery c.self.inside.deliveries.items c.deref.result.now c.args.number c.get.result c.deref.ensures.value c.get.ensures.lookup)
