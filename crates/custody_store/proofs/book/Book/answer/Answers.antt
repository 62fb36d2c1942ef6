use Rattle.std.proofs.Common.{◌++◌, List, ap, sym, ◌∙◌}
use Rattle.custody_store.specs.Book.{Told}
use Rattle.custody_store.specs.Book.{told_events}
use Rattle.custody_store.specs.Book.{acknowledged_message, book_from}
use Rattle.custody_store.proofs.BookChanges.{message_changed, told-read, stored-added}
use Rattle.custody_store.proofs.book.Book.answer.Goals as goal

pub returns-clause-ok : goal.returns-clause-ok
returns-clause-ok g c =
    let s = c.self.inside in
    let n = c.args.message in
    let within = rw (← c.self.view_is) at c.requires in
    let messages = message_changed acknowledged_message s.messages.items n c.index_mut-sent.result.now c.acknowledge.new.self within c.index_mut-sent.ensures.value c.acknowledge.ensures in
    let told = c.in_ok-events.ensures ∙ sym (told-read s.messages.items n c.index.result.now within c.index.ensures) in
    let acknowledged = stored-added s.acknowledged.items c.in_ok-events.events.items _ c.in_ok-append.ensures.items ∙ ap (λ (more : List Told). told_events s.acknowledged.items ++ more) told in
    rw (← c.self.view_is) (λ i. record (book_from s.messages.items s.deliveries.items (told_events s.acknowledged.items)) { messages = messages i; acknowledged = acknowledged i })
