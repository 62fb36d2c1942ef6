use Rattle.std.proofs.Common.{refl}
use Rattle.custody_store.specs.Contents.{Contents}
use Rattle.custody_store.proofs.Changes.{changed_by, contents_there, contents_written}
use Rattle.custody_store.proofs.places.Places.answer.Goals as goal

pub returns-clause-others : goal.returns-clause-others
returns-clause-others g c =
    let after = contents_written c.args.self.now c.args.place c.args.buffer c.index_mut-there.result.now c.answer.new.self c.requires.there c.index_mut-there.ensures.value in
    rw after (changed_by (λ (x : Contents). c.answer.new.self) c.args.self.now c.args.place c.args.buffer c.index_mut-there.result.now c.index_mut-found.result.now c.answer.new.self c.requires.there c.index_mut-there.ensures.value c.index_mut-found.ensures.value refl)

pub returns-clause-chunks : goal.returns-clause-chunks
returns-clause-chunks g c =
    let after = contents_written c.args.self.now c.args.place c.args.buffer c.index_mut-there.result.now c.answer.new.self c.requires.there c.index_mut-there.ensures.value in
    let before = contents_there c.args.self.now c.args.place c.args.buffer c.index_mut-there.result.now c.index_mut-found.result.now c.requires.there c.index_mut-there.ensures.value c.index_mut-found.ensures.value in
    rw (after, before) c.answer.ensures.chunks

pub returns-clause-sink : goal.returns-clause-sink
returns-clause-sink g c =
    let after = contents_written c.args.self.now c.args.place c.args.buffer c.index_mut-there.result.now c.answer.new.self c.requires.there c.index_mut-there.ensures.value in
    let before = contents_there c.args.self.now c.args.place c.args.buffer c.index_mut-there.result.now c.index_mut-found.result.now c.requires.there c.index_mut-there.ensures.value c.index_mut-found.ensures.value in
    rw (after, before) c.answer.ensures.sink

pub returns-clause-ok : goal.returns-clause-ok
returns-clause-ok g c =
    let after = contents_written c.args.self.now c.args.place c.args.buffer c.index_mut-there.result.now c.answer.new.self c.requires.there c.index_mut-there.ensures.value in
    let before = contents_there c.args.self.now c.args.place c.args.buffer c.index_mut-there.result.now c.index_mut-found.result.now c.requires.there c.index_mut-there.ensures.value c.index_mut-found.ensures.value in
    rw (after, before) c.answer.ensures.ok

pub returns-clause-err : goal.returns-clause-err
returns-clause-err g c =
    let after = contents_written c.args.self.now c.args.place c.args.buffer c.index_mut-there.result.now c.answer.new.self c.requires.there c.index_mut-there.ensures.value in
    let before = contents_there c.args.self.now c.args.place c.args.buffer c.index_mut-there.result.now c.index_mut-found.result.now c.requires.there c.index_mut-there.ensures.value c.index_mut-found.ensures.value in
    rw (after, before) c.answer.ensures.err
