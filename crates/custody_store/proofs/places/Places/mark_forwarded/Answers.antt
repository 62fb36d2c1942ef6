use Rattle.std.proofs.Common.{Some, true}
use Rattle.custody_store.specs.Contents.{Contents, changed}
use Rattle.custody_store.proofs.Changes.{changed_by}
use Rattle.custody_store.proofs.places.Places.mark_forwarded.Goals as goal

pub returns : goal.returns
returns g c = changed_by (λ (x : Contents). record x { chunks = changed x.chunks c.args.serial (λ chunk. Some (record chunk { forwarded = true })) }) c.args.self.now c.args.place c.args.buffer c.index_mut-there.result.now c.index_mut-found.result.now c.mark_forwarded.new.self c.requires.there c.index_mut-there.ensures.value c.index_mut-found.ensures.value c.mark_forwarded.ensures
