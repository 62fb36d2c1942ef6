use Rattle.std.proofs.Common.{◌≡◌, ◌<◌, ◌≤◌, ℕ, List, [], ◌++◌, ap, length, take, subst, sym, refl, arith, rules, append-nil}
use Rattle.std.specs.Io.KnownBytes.{Consumes, ReadConsumes}
use Rattle.std.proofs.KnownBytes.{Consumes-trans, Consumes-kept, Consumes-whole}
use Rattle.program_text.proofs.reading.read_pieces.Goals.{in-Ok-2+in_ok-extend_from_slice-in-Ok-2, in-Err}
use Rattle.program_text.proofs.reading.read_pieces.Goals as goal

pub returns-in-Ok-eq0-clause-whole : goal.returns-in-Ok-eq0-clause-whole
returns-in-Ok-eq0-clause-whole g c =
    let input = g.R.CountedRead.remaining in
    let read = subst (λ r. ReadConsumes (input c.loop.input) (input c.read.new.self) r c.read.new.piece) c.in-Ok-eq0.is c.read.ensures.bytes in
    let zero : c.in-Ok-eq0.field-0 ≡ 0 = search rules in
    let some : 0 < length c.read.new.piece = omega (arith, c.requires, c.loop.auto.piece, c.read.auto.piece) in
    let nothing : Consumes (input c.loop.input) (input c.read.new.self) [] =
    subst (λ n. Consumes (input c.loop.input) (input c.read.new.self) (take n c.read.new.piece)) zero read.0 in
    Consumes-whole (input c.args.input.now) (input c.read.new.self) c.loop.text.items (λ whole. c.loop.text.items ≡ whole)
    (subst (Consumes (input c.args.input.now) (input c.read.new.self)) (append-nil c.loop.text.items)
    (Consumes-trans (input c.args.input.now) (input c.loop.input) (input c.read.new.self) c.loop.text.items [] c.loop.invariant.reads nothing))
    (read.1 zero some) refl

pub loop-preserved : goal.loop-preserved
loop-preserved g c =
    let input = g.R.CountedRead.remaining in
    let goes_on = λ (bytes : List ℕ). Consumes (input c.args.input.now) (input c.read.new.self) bytes in
    elim c.match-read.branch [
      | in-Ok-2+in_ok-extend_from_slice-in-Ok-2 w ↦
          let piece = take w.in-Ok-2.n c.read.new.piece in
          let grown : c.match-read.text.items ≡ c.loop.text.items ++ piece = search rules in
          record {
            reads = subst goes_on (sym grown)
                (Consumes-trans (input c.args.input.now) (input c.loop.input) (input c.read.new.self) c.loop.text.items piece c.loop.invariant.reads w.in-Ok-2.ensures.bytes.0);
            bound = search rules;
            calls = search rules;
          }
      | in-Err w ↦
          record {
            reads = subst goes_on (sym (ap (λ v. v.items) w.text-is))
                (Consumes-kept (input c.args.input.now) (input c.loop.input) (input c.read.new.self) c.loop.text.items c.loop.invariant.reads w.in-Err.ensures.bytes);
            bound = subst (λ (v : List ℕ). length v ≤ 1073741824) (sym (ap (λ v. v.items) w.text-is)) c.loop.invariant.bound;
            calls = search rules;
          }
    ]
