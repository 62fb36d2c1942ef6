use Rattle.std.proofs.Common.{◌≡◌, ◌+◌, take, ap, ◌∙◌, arith}
use Rattle.chunk_journal.specs.Places.{bytes_at}
use Rattle.file_pieces.specs.Pieces.{CanTake, places_room}
use Rattle.file_pieces.specs.Reading.{ReadsOn}
use Rattle.file_pieces.proofs.ReadOn.{adds_read, adds_unread}
use Rattle.file_pieces.proofs.adding.copy_span.Goals as goal

pub returns-in-Ok-clause-adds : goal.returns-in-Ok-clause-adds
returns-in-Ok-clause-adds g c =
    let run = c.args.run.places.now in
    let packed = c.read_span.new.into in
    let told = c.split_at.result.0.now in
    let end : c.in-Ok.end ≡ 0 + places_room run = c.in-Ok.ensures.end in
    adds_read g.D.Dir.is_honest g.D.Dir.history g.D.Dir.opened g.D.Dir.bytes_left g.D.Dir.fault_count c.args.from c.args.to c.in-Ok.end c.add_told.result (places_room run) (λ seen. CanTake seen run) (λ seen. ReadsOn 0 (places_room run) (bytes_at seen run) c.split_at_mut-window.result.1.now packed) told
    (λ seen. bytes_at seen run) c.args.dir.now c.read_span.new.dir c.add_told.new.dir c.in-Ok.ensures.reads (c.add_told.ensures c.args.from) (omega (arith, c.split_at.ensures.front_len, end))
    (λ seen can given. c.split_at.ensures.front ∙ ap (λ n. take n packed) end ∙ given)

pub returns-in-Err-clause-adds : goal.returns-in-Err-clause-adds
returns-in-Err-clause-adds g c =
    let run = c.args.run.places.now in
    adds_unread g.D.Dir.is_honest g.D.Dir.history g.D.Dir.opened g.D.Dir.bytes_left g.D.Dir.fault_count c.args.from c.args.to c.in-Err.fault (places_room run) (λ seen. CanTake seen run) (λ seen. ReadsOn 0 (places_room run) (bytes_at seen run) c.split_at_mut-window.result.1.now c.read_span.new.into)
    (λ seen. bytes_at seen run) c.args.dir.now c.read_span.new.dir c.in-Err.ensures.reads
