use Rattle.std.proofs.Common.{Some}
use Rattle.std.proofs.lemmas.Result.{on_ok_weaker, on_err_weaker}
use Rattle.custody_store.specs.Contents.{Contents, changed}
use Rattle.custody_store.proofs.Changes.{changed_by, same_by}
use Rattle.custody_store.proofs.places.Places.restage.Goals as goal

pub returns-clause-ok : goal.returns-clause-ok
returns-clause-ok g c =
    on_ok_weaker c.restage.result (λ e. changed_by (λ (x : Contents). record x { chunks = changed x.chunks c.args.serial (λ chunk. Some (record chunk { stage = c.args.stage })) }) c.args.self.now c.args.place c.args.buffer c.index_mut-there.result.now c.index_mut-found.result.now c.restage.new.self c.requires.there c.index_mut-there.ensures.value c.index_mut-found.ensures.value e) c.restage.ensures.ok

pub returns-clause-err : goal.returns-clause-err
returns-clause-err g c =
    on_err_weaker c.restage.result (λ e. same_by c.args.self.now c.args.place c.args.buffer c.index_mut-there.result.now c.index_mut-found.result.now c.restage.new.self c.requires.there c.index_mut-there.ensures.value c.index_mut-found.ensures.value e) c.restage.ensures.err
