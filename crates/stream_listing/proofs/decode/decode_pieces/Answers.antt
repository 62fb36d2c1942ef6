use Rattle.std.proofs.Common.{◌≡◌, ◌<◌, ◌++◌, ℕ, List, [], length, take, inl, sym, subst, arith, rules, append-nil, Ok, Err}
use Rattle.std.specs.Io.KnownBytes.{Consumes, ReadConsumes}
use Rattle.std.proofs.KnownBytes.{Appends-nil, Consumes-nil, Consumes-trans, Consumes-kept}
use Rattle.stream_listing.specs.declared.decode.Stop.TheVariants.{Read}
use Rattle.stream_listing.specs.Decoding.{Lists}
use Rattle.stream_listing.proofs.DecodeSteps.{early_output, piece_output, cut_output, finish_output, reads_none, lines_written, piece_read, piece_pending}
use Rattle.stream_listing.proofs.decode.decode_pieces.Goals.{in-Ok+in_default+in_default-listed, in-Err}
use Rattle.stream_listing.proofs.decode.decode_pieces.Goals as goal

pub loop-init : goal.loop-init
loop-init g c = record {
  text = [];
  arrivals = [];
  consumed = Consumes-nil (g.R.CountedRead.remaining c.args.input.now);
  reads = rw (c.new-decoder.ensures.hex, c.new-decoder.ensures.held) reads_none;
  written = Appends-nil (g.W.Write.contents c.args.out.now);
  sound = c.new-decoder.ensures.fault;
  pending = inl c.new-decoder.ensures.held;
  calls = search rules;
}

pub returns-in-Ok-eq0-clause-printed : goal.returns-in-Ok-eq0-clause-printed
returns-in-Ok-eq0-clause-printed g c =
    let so_far = c.loop.invariant in
    let input = g.R.CountedRead.remaining in
    let out = g.W.Write.contents in
    let read = subst (λ r. ReadConsumes (input c.loop.input) (input c.read.new.self) r c.read.new.piece) c.in-Ok-eq0.is c.read.ensures.bytes in
    let zero : c.in-Ok-eq0.field-0 ≡ 0 = search rules in
    let some : 0 < length c.read.new.piece = omega (arith, c.requires, c.loop.auto.piece, c.read.auto.piece) in
    let nothing : Consumes (input c.loop.input) (input c.read.new.self) [] =
    subst (λ n. Consumes (input c.loop.input) (input c.read.new.self) (take n c.read.new.piece)) zero read.0 in
    finish_output (input c.args.input.now) (input c.read.new.self) (out c.args.out.now) (out c.loop.out) (out c.finish.new.out)
    so_far.text c.loop.decoder.hex c.loop.decoder.feed.held so_far.arrivals c.finish.result
    (subst (Consumes (input c.args.input.now) (input c.read.new.self)) (append-nil so_far.text)
    (Consumes-trans (input c.args.input.now) (input c.loop.input) (input c.read.new.self) so_far.text [] so_far.consumed nothing))
    (read.1 zero some) so_far.reads so_far.written so_far.pending c.finish.ensures

pub returns-in-Err-put_all-clause-printed : goal.returns-in-Err-put_all-clause-printed
returns-in-Err-put_all-clause-printed g c =
    let so_far = c.loop.invariant in
    let input = g.R.CountedRead.remaining in
    let out = g.W.Write.contents in
    let piece = take c.in-Ok.n c.read.new.piece in
    let before = c.loop.decoder in
    let after = c.list-listed.new.self in
    let lists = subst (λ (l : List ℕ). Lists before.hex before.feed piece l c.list-listed.result after.hex after.feed) (sym c.deref.ensures.value) c.list-listed.ensures in
    let failed = c.in-Err-put_all.ensures.err in
    cut_output (input c.args.input.now) (input c.loop.input) (input c.read.new.self) (out c.args.out.now) (out c.loop.out) (out c.put_all.new.out)
    so_far.text piece c.deref.result.now failed.0 before.hex after.hex before.feed after.feed so_far.arrivals c.list-listed.result
    so_far.consumed c.in-Ok.ensures.bytes.0 so_far.reads so_far.written lists failed.2 failed.1

pub returns-in-Err-listed-clause-printed : goal.returns-in-Err-listed-clause-printed
returns-in-Err-listed-clause-printed g c =
    let so_far = c.loop.invariant in
    let input = g.R.CountedRead.remaining in
    let out = g.W.Write.contents in
    let piece = take c.in-Ok.n c.read.new.piece in
    let before = c.loop.decoder in
    let after = c.list-listed.new.self in
    let stop = c.in-Err-listed.stop in
    let lists = subst (λ (l : List ℕ). Lists before.hex before.feed piece l (Err stop) after.hex after.feed) (sym c.deref.ensures.value) c.in-Err-listed.ensures in
    piece_output (input c.args.input.now) (input c.loop.input) (input c.read.new.self)
    (out c.args.out.now) (out c.loop.out) (out c.put_all.new.out) (out c.end.new.out)
    so_far.text piece c.deref.result.now before.hex after.hex before.feed after.feed so_far.arrivals stop c.end.result
    so_far.consumed c.in-Ok.ensures.bytes.0 so_far.reads so_far.written lists c.in_default.ensures.ok c.end.ensures

pub returns-in-Err-2-clause-printed : goal.returns-in-Err-2-clause-printed
returns-in-Err-2-clause-printed g c =
    let so_far = c.loop.invariant in
    let input = g.R.CountedRead.remaining in
    let out = g.W.Write.contents in
    early_output (input c.args.input.now) (input c.read.new.self) (out c.args.out.now) (out c.loop.out) (out c.end-in-Err-2.new.out)
    so_far.text c.loop.decoder.hex c.loop.decoder.feed.held so_far.arrivals c.of_reader.result c.end-in-Err-2.result
    (Consumes-kept (input c.args.input.now) (input c.loop.input) (input c.read.new.self) so_far.text so_far.consumed c.in-Err-2.ensures.bytes)
    so_far.reads so_far.written (c.of_reader.ensures c.loop.decoder.hex c.loop.decoder.feed.held) c.end-in-Err-2.ensures

pub loop-preserved : goal.loop-preserved
loop-preserved g c =
    let so_far = c.loop.invariant in
    let input = g.R.CountedRead.remaining in
    let out = g.W.Write.contents in
    elim c.match-read.branch [
      | in-Ok+in_default+in_default-listed w ↦
          let piece = take w.in-Ok.n c.read.new.piece in
          let before = c.loop.decoder in
          let after = w.list-listed.new.self in
          let lists = subst (λ (l : List ℕ). Lists before.hex before.feed piece l (Ok tt) after.hex after.feed) (sym w.deref.ensures.value) w.in_default-listed.ensures in
          record {
            text = so_far.text ++ piece;
            arrivals = so_far.arrivals ++ lists.arrivals;
            consumed = Consumes-trans (input c.args.input.now) (input c.loop.input) (input c.read.new.self) so_far.text piece so_far.consumed w.in-Ok.ensures.bytes.0;
            reads = rw w.decoder-is (piece_read so_far.text piece w.deref.result.now before.hex after.hex before.feed after.feed so_far.arrivals tt so_far.reads lists);
            written = rw w.out-is
                (lines_written (out c.args.out.now) (out c.loop.out) (out w.put_all.new.out) w.deref.result.now so_far.arrivals lists.arrivals
                so_far.written lists.whole w.in_default.ensures.ok);
            sound = rw w.decoder-is lists.after.sound;
            pending = rw w.decoder-is (piece_pending piece w.deref.result.now before.hex after.hex before.feed after.feed tt lists);
            calls = search rules;
          }
      | in-Err w ↦
          record {
            text = so_far.text;
            arrivals = so_far.arrivals;
            consumed = Consumes-kept (input c.args.input.now) (input c.loop.input) (input c.read.new.self) so_far.text so_far.consumed w.in-Err.ensures.bytes;
            reads = rw w.decoder-is so_far.reads;
            written = rw w.out-is so_far.written;
            sound = rw w.decoder-is so_far.sound;
            pending = rw w.decoder-is so_far.pending;
            calls = search rules;
          }
    ]

pub returns-clause-printed : goal.returns-clause-printed
returns-clause-printed g c =
    let so_far = c.loop.invariant in
    let input = g.R.CountedRead.remaining in
    let out = g.W.Write.contents in
    early_output (input c.args.input.now) (input c.loop.input) (out c.args.out.now) (out c.loop.out) (out c.end-2.new.out)
    so_far.text c.loop.decoder.hex c.loop.decoder.feed.held so_far.arrivals Read c.end-2.result
    so_far.consumed so_far.reads so_far.written tt c.end-2.ensures
