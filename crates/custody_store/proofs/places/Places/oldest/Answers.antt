use Rattle.std.proofs.Common.{◌∙◌, ap, not, refl}
use Rattle.custody_store.specs.Places.{IsThere}
use Rattle.custody_store.proofs.Members.{if_some}
use Rattle.custody_store.proofs.Changes.{same_by, contents_there, room_written, there_if_some, known_if_none}
use Rattle.custody_store.proofs.places.Places.oldest.Goals as goal

pub returns-then-is_none : goal.returns-then-is_none
returns-then-is_none g c = record {
  same = record { contents = λ p b. refl; closed = λ p. refl };
  there = tt;
  some = tt;
  none = rw (known_if_none c.buffer.result _ (c.is_none.ensures ∙ ap not c.if-is_none.true) c.buffer.ensures.none) (λ serial. refl);
}

pub returns-clause-same : goal.returns-clause-same
returns-clause-same g c =
    let there = there_if_some c.buffer.result (IsThere c.args.self.now c.args.place c.args.buffer) _ (c.is_none.ensures ∙ ap not c.if-is_none.false) c.buffer.ensures.some in
    same_by c.args.self.now c.args.place c.args.buffer c.index_mut-there.result.now c.index_mut-found.result.now c.oldest.new.self there c.index_mut-there.ensures.value c.index_mut-found.ensures.value c.oldest.ensures.same

pub returns-clause-there : goal.returns-clause-there
returns-clause-there g c =
    let there = there_if_some c.buffer.result (IsThere c.args.self.now c.args.place c.args.buffer) _ (c.is_none.ensures ∙ ap not c.if-is_none.false) c.buffer.ensures.some in
    if_some c.oldest.result _ _ (λ serial h. room_written c.args.self.now c.args.place c.args.buffer c.index_mut-there.result.now c.oldest.new.self there c.index_mut-there.ensures.value) c.oldest.ensures.some

pub returns-clause-some : goal.returns-clause-some
returns-clause-some g c =
    let there = there_if_some c.buffer.result (IsThere c.args.self.now c.args.place c.args.buffer) _ (c.is_none.ensures ∙ ap not c.if-is_none.false) c.buffer.ensures.some in
    rw (contents_there c.args.self.now c.args.place c.args.buffer c.index_mut-there.result.now c.index_mut-found.result.now there c.index_mut-there.ensures.value c.index_mut-found.ensures.value) c.oldest.ensures.some

pub returns-clause-none : goal.returns-clause-none
returns-clause-none g c =
    let there = there_if_some c.buffer.result (IsThere c.args.self.now c.args.place c.args.buffer) _ (c.is_none.ensures ∙ ap not c.if-is_none.false) c.buffer.ensures.some in
    rw (contents_there c.args.self.now c.args.place c.args.buffer c.index_mut-there.result.now c.index_mut-found.result.now there c.index_mut-there.ensures.value c.index_mut-found.ensures.value) c.oldest.ensures.none
