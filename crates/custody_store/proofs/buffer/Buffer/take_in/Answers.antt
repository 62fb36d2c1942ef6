use Rattle.std.proofs.Common.{◌<◌, ◌≤◌, ◌++◌, [], ◌∷◌, List, Option, Some, cond, length, sym, ap, ◌∙◌, arith}
use Rattle.std.proofs.lemmas.Bool.{lt-ltb, le-ltb}
use Rattle.std.proofs.lemmas.List.{length-map}
use Rattle.std.proofs.lemmas.Result.{on_ok_weaker}
use Rattle.step_lines.specs.Texts.{texts_of}
use Rattle.custody_store.specs.Buffers.{Chunk}
use Rattle.custody_store.specs.Contents.{changed, longer, new_chunk}
use Rattle.custody_store.proofs.buffer.Buffer.take_in.Goals as goal

pub returns-then-serial-len-clause-ok : goal.returns-then-serial-len-clause-ok
returns-then-serial-len-clause-ok g c =
    let s = c.self.inside in
    let old = c.args.self.now in
    let n = s.chunks.ok.0 in
    let texts = texts_of c.args.entries.now in
    let within : c.args.serial < length old.chunks = rw (← c.self.view_is) (simp length-map (omega arith)) in
    on_ok_weaker c.grow.result (λ h. h ∙ ap (λ (chunks : List (Option Chunk)). record old { chunks = chunks })
    (ap (λ b. cond b (changed old.chunks c.args.serial (longer texts)) (old.chunks ++ Some (new_chunk c.args.tag.now texts) ∷ [])) (sym (lt-ltb c.args.serial (length old.chunks) within)))) c.grow.ensures.ok

pub returns-else-serial-len-clause-ok : goal.returns-else-serial-len-clause-ok
returns-else-serial-len-clause-ok g c =
    let s = c.self.inside in
    let old = c.args.self.now in
    let n = s.chunks.ok.0 in
    let texts = texts_of c.args.entries.now in
    let past : length old.chunks ≤ c.args.serial = rw (← c.self.view_is) (simp length-map (omega arith)) in
    on_ok_weaker c.add_chunk.result (λ h. h ∙ ap (λ (chunks : List (Option Chunk)). record old { chunks = chunks })
    (ap (λ b. cond b (changed old.chunks c.args.serial (longer texts)) (old.chunks ++ Some (new_chunk c.args.tag.now texts) ∷ [])) (sym (le-ltb c.args.serial (length old.chunks) past)))) c.add_chunk.ensures.ok

pub returns-then-serial-len-clause-err : goal.returns-then-serial-len-clause-err
returns-then-serial-len-clause-err g c = c.grow.ensures.err

pub returns-else-serial-len-clause-err : goal.returns-else-serial-len-clause-err
returns-else-serial-len-clause-err g c = c.add_chunk.ensures.err

pub grow-requires : goal.grow-requires
grow-requires g c =
    let n = c.self.inside.chunks.ok.0 in
    rw (← c.self.view_is) (simp length-map (omega (arith, n)))
