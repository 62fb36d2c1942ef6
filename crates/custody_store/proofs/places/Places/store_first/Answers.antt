use Rattle.std.proofs.Common.{◌++◌, [], take}
use Rattle.std.specs.Option.{option_map_or}
use Rattle.custody_store.specs.Buffers.{events_of}
use Rattle.std.proofs.lemmas.Result.{on_ok_weaker, on_err_weaker}
use Rattle.custody_store.specs.Contents.{Contents, chunk_at}
use Rattle.custody_store.proofs.Changes.{changed_by, same_by}
use Rattle.custody_store.proofs.places.Places.store_first.Goals as goal

pub returns-clause-ok : goal.returns-clause-ok
returns-clause-ok g c =
    on_ok_weaker c.store_first.result (λ e. changed_by (λ (x : Contents). record x { sink = x.sink ++ option_map_or (λ chunk. events_of chunk.tag (take c.args.count chunk.entries)) (chunk_at x.chunks c.args.serial) [] }) c.args.self.now c.args.place c.args.buffer c.index_mut-there.result.now c.index_mut-found.result.now c.store_first.new.self c.requires.there c.index_mut-there.ensures.value c.index_mut-found.ensures.value e) c.store_first.ensures.ok

pub returns-clause-err : goal.returns-clause-err
returns-clause-err g c =
    on_err_weaker c.store_first.result (λ e. same_by c.args.self.now c.args.place c.args.buffer c.index_mut-there.result.now c.index_mut-found.result.now c.store_first.new.self c.requires.there c.index_mut-there.ensures.value c.index_mut-found.ensures.value e) c.store_first.ensures.err
