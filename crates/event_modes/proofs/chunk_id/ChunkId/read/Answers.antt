use Rattle.std.specs.Bool.{then_some}
use Rattle.event_modes.specs.declared.chunk_id.ChunkId.{ChunkId}
use Rattle.std.proofs.Common.{Bool, ap, ◌∙◌, sym, Some}
use Rattle.std.specs.Result.{result_ok}
use Rattle.std.proofs.lemmas.Bool.Decides.{Decides-eqb}
use Rattle.std.proofs.lemmas.Slice.Eq.{slice_eq-Decides}
use Rattle.event_modes.specs.ChunkIds.{chunk_text}
use Rattle.event_modes.proofs.Texts.{decoded_room, decoded_whole}
use Rattle.event_modes.proofs.chunk_id.ChunkId.read.Goals as goal

pub returns-in_err-ok-clause-only : goal.returns-in_err-ok-clause-only
returns-in_err-ok-clause-only c = λ id fits e.
    let v = decoded_room id c.args.text.now c.decode_slice.result e c.decode_slice.ensures.value in
    let k = c.in_err-ok.ensures.value ∙ ap result_ok v in
    absurd cc

pub returns-clause-only : goal.returns-clause-only
returns-clause-only c = λ id fits e.
    let w = decoded_whole id c.args.text.now _ c.decode_slice.new.output c.decode_slice.result e c.decode_slice.ensures.value c.decode_slice.ensures.written in
    let f = c.from_bytes-id.ensures id _ fits w in
    let same = slice_eq-Decides Decides-eqb c.as_slice.result.now c.args.text.now c.eq.result c.eq.ensures in
    let t = c.text.ensures ∙ ap chunk_text f ∙ sym e in
    let q = same.1 (c.as_slice.ensures ∙ t) in
    c.then_some.ensures ∙ ap (λ (b : Bool). then_some b c.from_bytes-id.result) q ∙ ap (λ (x : ChunkId). Some x) f
