use Rattle.std.proofs.Common.{◌+◌, length, sym, ap, subst, ◌∙◌, arith}
use Rattle.std.specs.List.{AllByRecursion}
use Rattle.buffer_state.specs.State.{size}
use Rattle.chunk_journal.specs.Places.{IsWithin, bytes_at}
use Rattle.chunk_journal.specs.Records.{Append, record_bytes}
use Rattle.event_modes.proofs.Stored.{no_longer}
use Rattle.file_pieces.specs.Pieces.{pieces_bytes}
use Rattle.journal_files.proofs.Fronts.{told_append, append_record, append_end, adds_there}
use Rattle.journal_files.proofs.Wanting.{err_no_ok, err_no_value}
use Rattle.journal_files.proofs.spelling.tell_entries.Goals as goal

pub spell_front-requires-clause-count : goal.spell_front-requires-clause-count
spell_front-requires-clause-count g c = omega (arith, c.count.ensures, c.size.ensures, no_longer c.args.chunk.now.chunk.entries c.stays_stored.ensures)

pub returns-clause-bytes : goal.returns-clause-bytes
returns-clause-bytes g c = λ seen are.
    let chunk = c.args.chunk.now.chunk in
    told_append (pieces_bytes seen c.args.pieces.now.items) (pieces_bytes seen c.put_piece.new.pieces.items) c.in_ok-front.front.items (bytes_at seen c.at.result.now)
    c.args.serial chunk.tag c.tag.result.now chunk.entries c.count.result c.size.result c.tag.ensures c.count.ensures c.size.ensures c.in_ok-front.ensures
    (c.in_ok-put_piece.ensures.bytes seen) (ap (bytes_at seen) c.at.ensures ∙ are.1)

pub returns-clause-within : goal.returns-clause-within
returns-clause-within g c = λ seen small are before.
    c.in_ok-put_piece.ensures.within seen small (subst (AllByRecursion (IsWithin (length seen))) (sym c.at.ensures) are.0) before

pub returns-in_err-front-clause-record : goal.returns-in_err-front-clause-record
returns-in_err-front-clause-record g c = append_record c.args.serial c.args.chunk.now.chunk.tag c.args.chunk.now.chunk.entries c.ranges.serial.fits c.requires.tag c.requires.small c.stays_stored.ensures

pub returns-in_err-front-clause-bytes : goal.returns-in_err-front-clause-bytes
returns-in_err-front-clause-bytes g c = err_no_ok c.in_err-front.field-0.0 c.from_residual.result _ c.from_residual.ensures.1

pub returns-in_err-front-clause-within : goal.returns-in_err-front-clause-within
returns-in_err-front-clause-within g c = err_no_ok c.in_err-front.field-0.0 c.from_residual.result _ c.from_residual.ensures.1

pub returns-in_err-front-clause-len : goal.returns-in_err-front-clause-len
returns-in_err-front-clause-len g c = err_no_value c.in_err-front.field-0.0 c.from_residual.result _ c.from_residual.ensures.1

pub returns-in_err-front-clause-places : goal.returns-in_err-front-clause-places
returns-in_err-front-clause-places g c = err_no_ok c.in_err-front.field-0.0 c.from_residual.result _ c.from_residual.ensures.1

pub returns-in_err-end-clause-record : goal.returns-in_err-end-clause-record
returns-in_err-end-clause-record g c = append_record c.args.serial c.args.chunk.now.chunk.tag c.args.chunk.now.chunk.entries c.ranges.serial.fits c.requires.tag c.requires.small c.stays_stored.ensures

pub returns-in_err-end-clause-bytes : goal.returns-in_err-end-clause-bytes
returns-in_err-end-clause-bytes g c = err_no_ok c.in_err-end.field-0.0 c.from_residual-in_err-end.result _ c.from_residual-in_err-end.ensures.1

pub returns-in_err-end-clause-within : goal.returns-in_err-end-clause-within
returns-in_err-end-clause-within g c = err_no_ok c.in_err-end.field-0.0 c.from_residual-in_err-end.result _ c.from_residual-in_err-end.ensures.1

pub returns-in_err-end-clause-len : goal.returns-in_err-end-clause-len
returns-in_err-end-clause-len g c = err_no_value c.in_err-end.field-0.0 c.from_residual-in_err-end.result _ c.from_residual-in_err-end.ensures.1

pub returns-in_err-end-clause-places : goal.returns-in_err-end-clause-places
returns-in_err-end-clause-places g c = err_no_ok c.in_err-end.field-0.0 c.from_residual-in_err-end.result _ c.from_residual-in_err-end.ensures.1

pub returns-in_err-extent-clause-record : goal.returns-in_err-extent-clause-record
returns-in_err-extent-clause-record g c = append_record c.args.serial c.args.chunk.now.chunk.tag c.args.chunk.now.chunk.entries c.ranges.serial.fits c.requires.tag c.requires.small c.stays_stored.ensures

pub returns-in_err-extent-clause-bytes : goal.returns-in_err-extent-clause-bytes
returns-in_err-extent-clause-bytes g c = err_no_ok c.in_err-extent.field-0.0 c.from_residual-in_err-extent.result _ c.from_residual-in_err-extent.ensures.1

pub returns-in_err-extent-clause-within : goal.returns-in_err-extent-clause-within
returns-in_err-extent-clause-within g c = err_no_ok c.in_err-extent.field-0.0 c.from_residual-in_err-extent.result _ c.from_residual-in_err-extent.ensures.1

pub returns-in_err-extent-clause-len : goal.returns-in_err-extent-clause-len
returns-in_err-extent-clause-len g c = err_no_value c.in_err-extent.field-0.0 c.from_residual-in_err-extent.result _ c.from_residual-in_err-extent.ensures.1

pub returns-in_err-extent-clause-places : goal.returns-in_err-extent-clause-places
returns-in_err-extent-clause-places g c = err_no_ok c.in_err-extent.field-0.0 c.from_residual-in_err-extent.result _ c.from_residual-in_err-extent.ensures.1

pub returns-in_err-put_piece-clause-record : goal.returns-in_err-put_piece-clause-record
returns-in_err-put_piece-clause-record g c = append_record c.args.serial c.args.chunk.now.chunk.tag c.args.chunk.now.chunk.entries c.ranges.serial.fits c.requires.tag c.requires.small c.stays_stored.ensures

pub returns-in_err-put_piece-clause-bytes : goal.returns-in_err-put_piece-clause-bytes
returns-in_err-put_piece-clause-bytes g c = err_no_ok c.in_err-put_piece.field-0.0 c.from_residual-in_err-put_piece.result _ c.from_residual-in_err-put_piece.ensures.1

pub returns-in_err-put_piece-clause-within : goal.returns-in_err-put_piece-clause-within
returns-in_err-put_piece-clause-within g c = err_no_ok c.in_err-put_piece.field-0.0 c.from_residual-in_err-put_piece.result _ c.from_residual-in_err-put_piece.ensures.1

pub returns-in_err-put_piece-clause-len : goal.returns-in_err-put_piece-clause-len
returns-in_err-put_piece-clause-len g c = err_no_value c.in_err-put_piece.field-0.0 c.from_residual-in_err-put_piece.result _ c.from_residual-in_err-put_piece.ensures.1

pub returns-in_err-put_piece-clause-places : goal.returns-in_err-put_piece-clause-places
returns-in_err-put_piece-clause-places g c = err_no_ok c.in_err-put_piece.field-0.0 c.from_residual-in_err-put_piece.result _ c.from_residual-in_err-put_piece.ensures.1

pub returns-in_err-append-clause-record : goal.returns-in_err-append-clause-record
returns-in_err-append-clause-record g c = append_record c.args.serial c.args.chunk.now.chunk.tag c.args.chunk.now.chunk.entries c.ranges.serial.fits c.requires.tag c.requires.small c.stays_stored.ensures

pub returns-in_err-append-clause-bytes : goal.returns-in_err-append-clause-bytes
returns-in_err-append-clause-bytes g c = err_no_ok c.in_err-append.field-0.0 c.from_residual-in_err-append.result _ c.from_residual-in_err-append.ensures.1

pub returns-in_err-append-clause-within : goal.returns-in_err-append-clause-within
returns-in_err-append-clause-within g c = err_no_ok c.in_err-append.field-0.0 c.from_residual-in_err-append.result _ c.from_residual-in_err-append.ensures.1

pub returns-in_err-append-clause-len : goal.returns-in_err-append-clause-len
returns-in_err-append-clause-len g c = err_no_value c.in_err-append.field-0.0 c.from_residual-in_err-append.result _ c.from_residual-in_err-append.ensures.1

pub returns-in_err-append-clause-places : goal.returns-in_err-append-clause-places
returns-in_err-append-clause-places g c = err_no_ok c.in_err-append.field-0.0 c.from_residual-in_err-append.result _ c.from_residual-in_err-append.ensures.1

pub returns-clause-record : goal.returns-clause-record
returns-clause-record g c = append_record c.args.serial c.args.chunk.now.chunk.tag c.args.chunk.now.chunk.entries c.ranges.serial.fits c.requires.tag c.requires.small c.stays_stored.ensures

pub returns-clause-len : goal.returns-clause-len
returns-clause-len g c =
    let chunk = c.args.chunk.now.chunk in
    append_end c.args.serial chunk.tag c.tag.result.now chunk.entries c.count.result c.size.result c.in_ok-front.front.items c.args.len c.len.result c.size-2.result c.in_ok-end.end c.tag.ensures c.count.ensures c.size.ensures c.in_ok-front.ensures c.in_ok-end.ensures (c.len.ensures ∙ c.in_ok-front.front.ok.0) c.size-2.ensures

pub returns-clause-places : goal.returns-clause-places
returns-clause-places g c =
    let chunk = c.args.chunk.now.chunk in
    adds_there c.args.serial c.in_ok-extent.extent c.in_ok-end.end (c.args.len + length (record_bytes (Append c.args.serial chunk.tag chunk.entries))) c.size-3.result (size chunk.entries) c.args.places.now c.append.new.self c.in_ok-extent.ensures
    (returns-clause-len g c) c.size-3.ensures c.in_ok-append.ensures.ok
