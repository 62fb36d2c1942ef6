use Rattle.std.proofs.Common.{◌++◌, drop}
use Rattle.event_listing.specs.Forms.{form_of}
use Rattle.event_listing.specs.declared.stop.Stop.TheVariants.{Memory}
use Rattle.event_listing.proofs.Pieces.{piece_lost, piece_unput}
use Rattle.event_listing.proofs.sink.Held.print.Goals as goal

pub returns-in-Err : goal.returns-in-Err
returns-in-Err g c =
    let held = c.args.self.now in
    piece_lost (form_of c.args.form) c.args.choice.now (held.at, held.bytes.items ++ c.args.piece.now) (held.at, c.extend_from_slice.new.self.items) c.args.out.now Memory

pub returns-in_default-print_held : goal.returns-in_default-print_held
returns-in_default-print_held g c =
    let held = c.args.self.now in
    piece_lost (form_of c.args.form) c.args.choice.now (held.at, held.bytes.items ++ c.args.piece.now) (held.at, c.extend_from_slice.new.self.items) c.args.out.now Memory

pub returns-in-Err-put : goal.returns-in-Err-put
returns-in-Err-put g c =
    let held = c.args.self.now in
    piece_unput (form_of c.args.form) c.args.choice.now (held.at, held.bytes.items ++ c.args.piece.now) (held.at, c.extend_from_slice.new.self.items) c.args.out.now c.put.new.self c.deref.result.now
    c.extend_from_slice.new.self.items c.in-Ok.printed.lines.items c.deref-2.result.now (drop c.in-Ok.printed.used c.deref.result.now) c.in-Err-put.stop c.deref.ensures.value c.in_default.ensures.items
    c.in-Ok.ensures.all c.deref-2.ensures.value c.in-Err-put.ensures
