use Rattle.relay_net.proofs.Gets.{got}
use Rattle.custody_store.proofs.book.Book.message.Goals as goal

pub returns : goal.returns
returns g c = rw (← c.self.view_is) (got c.self.inside.messages.items c.deref.result.now c.args.number c.get.result c.deref.ensures.value c.get.ensures.lookup)
