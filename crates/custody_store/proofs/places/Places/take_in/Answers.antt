use Rattle.step_lines.specs.Texts.{texts_of}
use Rattle.std.proofs.lemmas.Result.{on_ok_weaker, on_err_weaker}
use Rattle.custody_store.specs.Contents.{Contents, taken_in}
use Rattle.custody_store.proofs.Changes.{changed_by, same_by}
use Rattle.custody_store.proofs.places.Places.take_in.Goals as goal

pub returns-clause-ok : goal.returns-clause-ok
returns-clause-ok g c =
    on_ok_weaker c.take_in.result (λ e. changed_by (λ (x : Contents). record x { chunks = taken_in x.chunks c.args.serial c.args.tag.now (texts_of c.args.entries.now) }) c.args.self.now c.args.place c.args.buffer c.index_mut-there.result.now c.index_mut-found.result.now c.take_in.new.self c.requires.there c.index_mut-there.ensures.value c.index_mut-found.ensures.value e) c.take_in.ensures.ok

pub returns-clause-err : goal.returns-clause-err
returns-clause-err g c =
    on_err_weaker c.take_in.result (λ e. same_by c.args.self.now c.args.place c.args.buffer c.index_mut-there.result.now c.index_mut-found.result.now c.take_in.new.self c.requires.there c.index_mut-there.ensures.value c.index_mut-found.ensures.value e) c.take_in.ensures.err
