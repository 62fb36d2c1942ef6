use Rattle.std.proofs.Common.{◌≡◌, ◌<◌, [], length, take, ap, sym, subst, arith, rules, append-nil}
use Rattle.std.specs.Io.KnownBytes.{Consumes, ReadConsumes}
use Rattle.std.proofs.KnownBytes.{Consumes-nil, Consumes-trans, Consumes-kept}
use Rattle.event_listing.specs.declared.stop.Stop.TheVariants.{Read}
use Rattle.event_listing.specs.Forms.{form_of}
use Rattle.event_listing.specs.Reading.{longest_item}
use Rattle.event_listing.proofs.Outputs.{shows_none}
use Rattle.event_listing.proofs.Pieces.{FileOn, file_cut, file_ended, file_stopped, piece_long, piece_more, prints_none}
use Rattle.event_listing.proofs.sink.print_pieces.Goals as goal
use Rattle.event_listing.proofs.sink.print_pieces.Goals.{in-Ok+in_default+else-len-gt-LONGEST_ITEM, in-Err}

pub loop-init : goal.loop-init
loop-init g c = record {
  read = [];
  text = [];
  consumed = Consumes-nil (g.R.CountedRead.remaining c.args.input.now);
  written = shows_none c.args.out.now;
  printed = prints_none (form_of c.args.form) c.args.choice.now c.new-held.result.bytes.items c.new-held.ensures.bytes;
  at_is = omega (arith, c.new-held.ensures.at, ap length c.new-held.ensures.bytes);
}

pub returns-in-Ok-eq0 : goal.returns-in-Ok-eq0
returns-in-Ok-eq0 g c =
    let so_far = c.loop.invariant in
    let input = g.R.CountedRead.remaining in
    let read = subst (λ r. ReadConsumes (input c.loop.input) (input c.read.new.self) r c.read.new.piece) c.in-Ok-eq0.is c.read.ensures.bytes in
    let zero : c.in-Ok-eq0.field-0 ≡ 0 = search rules in
    let some : 0 < length c.read.new.piece = omega (arith, c.requires, c.loop.auto.piece, c.read.auto.piece) in
    let nothing : Consumes (input c.loop.input) (input c.read.new.self) [] =
    subst (λ n. Consumes (input c.loop.input) (input c.read.new.self) (take n c.read.new.piece)) zero read.0 in
    let behind : c.len.result ≡ length c.loop.held.bytes.items = search rules in
    file_ended (form_of c.args.form) c.args.choice.now (input c.args.input.now) (input c.read.new.self) c.args.out.now c.loop.out so_far.read so_far.text c.loop.held.bytes.items c.loop.held.at c.len.result
    (subst (Consumes (input c.args.input.now) (input c.read.new.self)) (append-nil so_far.read)
    (Consumes-trans (input c.args.input.now) (input c.loop.input) (input c.read.new.self) so_far.read [] so_far.consumed nothing))
    (read.1 zero some) so_far.written so_far.printed so_far.at_is behind

pub returns-in-Err-print : goal.returns-in-Err-print
returns-in-Err-print g c =
    let so_far = c.loop.invariant in
    let input = g.R.CountedRead.remaining in
    let piece = take c.in-Ok.n c.read.new.piece in
    file_cut (form_of c.args.form) c.args.choice.now (input c.args.input.now) (input c.read.new.self) c.args.out.now c.loop.out c.print.new.out so_far.read piece so_far.text c.loop.held.bytes.items
    c.loop.held.at (c.print.new.self.at, c.print.new.self.bytes.items) c.in-Err-print.stop
    (Consumes-trans (input c.args.input.now) (input c.loop.input) (input c.read.new.self) so_far.read piece so_far.consumed c.in-Ok.ensures.bytes.0)
    so_far.written so_far.printed c.in-Err-print.ensures

pub returns-then-len-gt-LONGEST_ITEM : goal.returns-then-len-gt-LONGEST_ITEM
returns-then-len-gt-LONGEST_ITEM g c =
    let input = g.R.CountedRead.remaining in
    let left = c.print.new.self.bytes.items in
    let same : c.len-in-Ok.result ≡ length left = search rules in
    let long : longest_item < length left = omega arith in
    piece_long (form_of c.args.form) c.args.choice.now (input c.args.input.now) (input c.read.new.self) c.args.out.now c.print.new.out left c.print.new.self.at
    (piece_more (form_of c.args.form) c.args.choice.now (input c.args.input.now) (input c.loop.input) (input c.read.new.self) c.args.out.now c.loop.out c.print.new.out c.loop.held.bytes.items
    (take c.in-Ok.n c.read.new.piece) left c.loop.held.at c.print.new.self.at c.print.result c.in_default.field-0 c.loop.invariant c.in-Ok.ensures.bytes.0 c.print.ensures c.in_default.is)
    long

pub loop-preserved : goal.loop-preserved
loop-preserved g c =
    let input = g.R.CountedRead.remaining in
    let form = form_of c.args.form in
    let chosen = c.args.choice.now in
    let known = input c.args.input.now in
    let now = input c.read.new.self in
    let old = c.args.out.now in
    let so_far = c.loop.invariant in
    elim c.match-read.branch [
      | in-Ok+in_default+else-len-gt-LONGEST_ITEM w ↦
          subst (λ o. FileOn form chosen known now old o c.match-read.held.bytes.items c.match-read.held.at) (sym w.out-is)
          (subst (λ h. FileOn form chosen known now old w.print.new.out h.bytes.items h.at) (sym w.held-is)
          (piece_more form chosen known (input c.loop.input) now old c.loop.out w.print.new.out c.loop.held.bytes.items (take w.in-Ok.n c.read.new.piece) w.print.new.self.bytes.items c.loop.held.at
          w.print.new.self.at w.print.result w.in_default.field-0 so_far w.in-Ok.ensures.bytes.0 w.print.ensures w.in_default.is))
      | in-Err w ↦
          let kept : FileOn form chosen known now old c.loop.out c.loop.held.bytes.items c.loop.held.at = record {
            read = so_far.read;
            text = so_far.text;
            consumed = Consumes-kept known (input c.loop.input) now so_far.read so_far.consumed w.in-Err.ensures.bytes;
            written = so_far.written;
            printed = so_far.printed;
            at_is = so_far.at_is;
          } in
          subst (λ o. FileOn form chosen known now old o c.match-read.held.bytes.items c.match-read.held.at) (sym w.out-is)
          (subst (λ h. FileOn form chosen known now old c.loop.out h.bytes.items h.at) (sym w.held-is) kept)
    ]

pub returns-in-Err-2 : goal.returns-in-Err-2
returns-in-Err-2 g c =
    let so_far = c.loop.invariant in
    let input = g.R.CountedRead.remaining in
    file_stopped (form_of c.args.form) c.args.choice.now (input c.args.input.now) (input c.read.new.self) c.args.out.now c.loop.out so_far.read so_far.text c.loop.held.bytes.items c.of_reader.result
    (Consumes-kept (input c.args.input.now) (input c.loop.input) (input c.read.new.self) so_far.read so_far.consumed c.in-Err-2.ensures.bytes) so_far.written so_far.printed

pub returns : goal.returns
returns g c =
    let so_far = c.loop.invariant in
    let input = g.R.CountedRead.remaining in
    file_stopped (form_of c.args.form) c.args.choice.now (input c.args.input.now) (input c.loop.input) c.args.out.now c.loop.out so_far.read so_far.text c.loop.held.bytes.items Read so_far.consumed so_far.written so_far.printed
