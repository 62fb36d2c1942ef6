use Rattle.std.proofs.Common.{◌+◌, Ok, Err, length, ap, arith}
use Rattle.std.proofs.lemmas.List.{length-take}
use Rattle.chunk_journal.specs.Places.{bytes_from}
use Rattle.file_pieces.specs.Pieces.{CanTake}
use Rattle.file_pieces.proofs.Spans.{run_next, run_taken}
use Rattle.file_pieces.proofs.Steps.{added_start, added_run, added_less, added_all, room_run, open_yet}
use Rattle.file_pieces.proofs.adding.copy_places.Goals as goal

pub loop-count-init : goal.loop-count-init
loop-count-init g c = record { within = omega arith; so_far = added_start g.D.Dir.is_honest g.D.Dir.history g.D.Dir.opened g.D.Dir.bytes_left g.D.Dir.fault_count c.args.from c.args.to c.args.places.now (λ place. place.length) bytes_from (λ seen. CanTake seen c.args.places.now) c.args.dir.now }

pub copy_run-requires-clause-source : goal.copy_run-requires-clause-source
copy_run-requires-clause-source g c =
    open_yet g.D.Dir.is_honest g.D.Dir.history g.D.Dir.opened g.D.Dir.bytes_left g.D.Dir.fault_count c.args.from c.args.to c.args.places.now (λ place. place.length) bytes_from (λ seen. CanTake seen c.args.places.now) (Ok (tt {0})) c.loop-count.count c.args.dir.now c.loop-count.dir c.args.from c.loop-count.invariant.so_far c.requires.source

pub copy_run-requires-clause-open : goal.copy_run-requires-clause-open
copy_run-requires-clause-open g c =
    open_yet g.D.Dir.is_honest g.D.Dir.history g.D.Dir.opened g.D.Dir.bytes_left g.D.Dir.fault_count c.args.from c.args.to c.args.places.now (λ place. place.length) bytes_from (λ seen. CanTake seen c.args.places.now) (Ok (tt {0})) c.loop-count.count c.args.dir.now c.loop-count.dir c.args.to c.loop-count.invariant.so_far c.requires.open

pub copy_run-requires-clause-room : goal.copy_run-requires-clause-room
copy_run-requires-clause-room g c =
    let run = c.run_of-run.result.places.now in
    room_run g.D.Dir.is_honest g.D.Dir.history g.D.Dir.opened g.D.Dir.bytes_left g.D.Dir.fault_count c.args.from c.args.to c.args.places.now (λ place. place.length) bytes_from (λ seen. CanTake seen c.args.places.now) (Ok (tt {0})) c.loop-count.count (c.loop-count.count + length run) run c.args.dir.now c.loop-count.dir
    (run_next c.args.places.now c.split_at.result.1.now c.run_of-run.result.places.now c.loop-count.count c.split_at.ensures.back c.run_of-run.ensures.first) c.requires.room c.loop-count.invariant.so_far

pub returns-in-Err-clause-adds : goal.returns-in-Err-clause-adds
returns-in-Err-clause-adds g c =
    let run = c.run_of-run.result.places.now in
    added_less g.D.Dir.is_honest g.D.Dir.history g.D.Dir.opened g.D.Dir.bytes_left g.D.Dir.fault_count c.args.from c.args.to c.args.places.now (λ place. place.length) bytes_from (λ seen. CanTake seen c.args.places.now) c.in-Err.fault (c.loop-count.count + length run) c.args.dir.now c.copy_run.new.dir
    (added_run g.D.Dir.is_honest g.D.Dir.history g.D.Dir.opened g.D.Dir.bytes_left g.D.Dir.fault_count c.args.from c.args.to c.args.places.now (λ place. place.length) bytes_from (λ seen. CanTake seen c.args.places.now) (tt {0}) (Err c.in-Err.fault) c.loop-count.count (c.loop-count.count + length run) run c.args.dir.now c.loop-count.dir c.copy_run.new.dir (λ seen. CanTake seen run)
    (run_next c.args.places.now c.split_at.result.1.now c.run_of-run.result.places.now c.loop-count.count c.split_at.ensures.back c.run_of-run.ensures.first) (λ seen can. run_taken seen c.args.places.now c.split_at.result.1.now c.run_of-run.result.places.now c.loop-count.count c.split_at.ensures.back c.run_of-run.ensures.first can) c.loop-count.invariant.so_far c.in-Err.ensures.adds)

pub loop-count-preserved : goal.loop-count-preserved
loop-count-preserved g c =
    let run = c.run_of-run.result.places.now in
    record {
      within = omega (arith, ap length c.run_of-run.ensures.first, length-take (length run) c.split_at.result.1.now, c.split_at.ensures.back_len);
      so_far = added_run g.D.Dir.is_honest g.D.Dir.history g.D.Dir.opened g.D.Dir.bytes_left g.D.Dir.fault_count c.args.from c.args.to c.args.places.now (λ place. place.length) bytes_from (λ seen. CanTake seen c.args.places.now) (tt {0}) (Ok (tt {0})) c.loop-count.count (c.loop-count.count + length run) run c.args.dir.now c.loop-count.dir c.copy_run.new.dir (λ seen. CanTake seen run)
          (run_next c.args.places.now c.split_at.result.1.now c.run_of-run.result.places.now c.loop-count.count c.split_at.ensures.back c.run_of-run.ensures.first) (λ seen can. run_taken seen c.args.places.now c.split_at.result.1.now c.run_of-run.result.places.now c.loop-count.count c.split_at.ensures.back c.run_of-run.ensures.first can) c.loop-count.invariant.so_far c.in_default.ensures.adds;
    }

pub returns-clause-adds : goal.returns-clause-adds
returns-clause-adds g c = added_all g.D.Dir.is_honest g.D.Dir.history g.D.Dir.opened g.D.Dir.bytes_left g.D.Dir.fault_count c.args.from c.args.to c.args.places.now (λ place. place.length) bytes_from (λ seen. CanTake seen c.args.places.now) (Ok (tt {0})) c.loop-count.count c.args.dir.now c.loop-count.dir (omega (arith, c.loop-count-test.false)) c.loop-count.invariant.so_far
