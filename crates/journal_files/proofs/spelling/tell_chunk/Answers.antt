use Rattle.std.proofs.Common.{◌≡◌, ◌+◌, length}
use Rattle.chunk_journal.specs.Records.{Queue, record_bytes}
use Rattle.chunk_journal.specs.Journal.{journal_bytes}
use Rattle.chunk_journal.specs.Meaning.{chunk_records}
use Rattle.file_pieces.specs.Pieces.{pieces_bytes}
use Rattle.journal_files.proofs.Fronts.{if_ok, queue_is, queued_bytes, queued_length, queued_records}
use Rattle.journal_files.proofs.Steps.{on_ok}
use Rattle.journal_files.proofs.spelling.tell_chunk.Goals as goal

pub returns-in-Queued : goal.returns-in-Queued
returns-in-Queued g c =
    let serial = c.args.serial in
    let chunk = c.args.chunk.now.chunk in
    let queued = queue_is serial chunk.stage c.stage.result c.stage.ensures c.in-Queued.is in
    let first = c.in_ok-end.ensures in
    let second = c.tell_queue.ensures in
    record {
      bytes = on_ok c.tell_queue.result second.bytes (λ is. λ seen are. queued_bytes serial chunk queued (pieces_bytes seen c.args.pieces.now.items) (pieces_bytes seen c.tell_entries.new.pieces.items) (pieces_bytes seen c.tell_queue.new.pieces.items) (first.bytes seen are) (is seen));
      within = on_ok c.tell_queue.result second.within (λ is. λ seen small are before. is seen small (first.within seen small are before));
      len = if_ok (λ end. end ≡ c.in_ok-end.end + length (record_bytes (Queue serial))) (λ end. end ≡ c.args.len + length (journal_bytes (chunk_records (serial, chunk)))) c.tell_queue.result second.len
          (λ end is. queued_length serial chunk queued c.args.len c.in_ok-end.end end first.len is);
      places = on_ok c.tell_queue.result second.bytes (λ is. first.places);
      records = on_ok c.tell_queue.result second.bytes (λ is. queued_records serial chunk queued first.record second.record);
    }
