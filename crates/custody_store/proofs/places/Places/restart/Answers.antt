use Rattle.custody_store.specs.Contents.{Contents, restarted_chunks}
use Rattle.custody_store.proofs.Changes.{changed_by}
use Rattle.custody_store.proofs.places.Places.restart.Goals as goal

pub returns-clause-changed : goal.returns-clause-changed
returns-clause-changed g c = changed_by (λ (x : Contents). record x { chunks = restarted_chunks c.args.in_memory x.chunks }) c.args.self.now c.args.place c.args.buffer c.index_mut-there.result.now c.index_mut-found.result.now c.restart.new.self c.requires.there c.index_mut-there.ensures.value c.index_mut-found.ensures.value c.restart.ensures
