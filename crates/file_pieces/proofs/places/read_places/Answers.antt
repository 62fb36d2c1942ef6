use Rattle.std.proofs.Common.{◌≡◌, ℕ, List, ◌+◌, ◌++◌, Ok, length, take, ap, sym, ◌∙◌, arith}
use Rattle.std.proofs.lemmas.List.{length-take, take_all}
use Rattle.std.proofs.lemmas.List.Sums.{sum_by-append}
use Rattle.chunk_journal.specs.Places.{bytes_at, bytes_from}
use Rattle.chunk_journal.specs.declared.places.Extent.{Extent}
use Rattle.file_pieces.specs.Pieces.{CanTake, places_room}
use Rattle.file_pieces.specs.Reading.{ReadsOn}
use Rattle.file_pieces.proofs.Spans.{run_next, run_taken}
use Rattle.file_pieces.proofs.Sums.{flat_run}
use Rattle.file_pieces.proofs.ReadOn.{reads_done, reads_then, reads_not, reads_as}
use Rattle.file_pieces.proofs.places.read_places.Goals as goal

pub loop-count-preserved : goal.loop-count-preserved
loop-count-preserved g c =
    let i = c.loop-count.count in
    let end = c.loop-count.end in
    let places = c.args.places.now in
    let run = c.run_of-run.result.places.now in
    let old = c.loop-count.into in
    let new = c.read_run.new.into in
    let next : take (i + length run) places ≡ take i places ++ run = run_next places c.split_at.result.1.now run i c.split_at.ensures.back c.run_of-run.ensures.first in
    let room : places_room (take (i + length run) places) ≡ places_room (take i places) + places_room run = ap places_room next ∙ sum_by-append (λ (p : Extent). p.length) (take i places) run in
    record {
      within = omega (arith, ap length c.run_of-run.ensures.first, length-take (length run) c.split_at.result.1.now, c.split_at.ensures.back_len);
      reached = omega (arith, c.in-Ok.ensures.end, c.loop-count.invariant.reached, room);
      so_far = reads_then g.D.Dir.is_honest g.D.Dir.history g.D.Dir.opened g.D.Dir.bytes_left g.D.Dir.fault_count c.args.file (tt {0}) (Ok (tt {0})) (λ seen. CanTake seen places) (λ seen. CanTake seen run) (λ seen. take end old ≡ bytes_at seen (take i places)) (λ seen. ReadsOn end (places_room run) (bytes_at seen run) old new)
          (λ seen. take c.in-Ok.behind new ≡ bytes_at seen (take (i + length run) places)) c.args.dir.now c.loop-count.dir c.read_run.new.dir c.loop-count.invariant.so_far
          (reads_done g.D.Dir.is_honest g.D.Dir.history g.D.Dir.opened g.D.Dir.bytes_left g.D.Dir.fault_count c.args.file c.in-Ok.behind (tt {0}) (λ seen. CanTake seen run) (λ seen. ReadsOn end (places_room run) (bytes_at seen run) old new) c.loop-count.dir c.read_run.new.dir c.in-Ok.ensures.reads)
          (λ seen can. run_taken seen places c.split_at.result.1.now run i c.split_at.ensures.back c.run_of-run.ensures.first can)
          (λ seen can before more. ap (λ (n : ℕ). take n new) c.in-Ok.ensures.end ∙ more ∙ ap (λ (l : List ℕ). l ++ bytes_at seen run) before ∙ flat_run (bytes_from seen) (take i places) run (take (i + length run) places) next);
    }

pub returns-in-Err-clause-reads : goal.returns-in-Err-clause-reads
returns-in-Err-clause-reads g c =
    let places = c.args.places.now in
    let run = c.run_of-run.result.places.now in
    let old = c.loop-count.into in
    let new = c.read_run.new.into in
    reads_not g.D.Dir.is_honest g.D.Dir.history g.D.Dir.opened g.D.Dir.bytes_left g.D.Dir.fault_count c.args.file (tt {0}) c.in-Err.fault (λ seen. CanTake seen places) (λ seen. CanTake seen run) (λ seen. take c.loop-count.end old ≡ bytes_at seen (take c.loop-count.count places))
    (λ seen. ReadsOn c.loop-count.end (places_room run) (bytes_at seen run) old new) (λ seen. new ≡ bytes_at seen places) c.args.dir.now c.loop-count.dir c.read_run.new.dir c.loop-count.invariant.so_far c.in-Err.ensures.reads
    (λ seen can. run_taken seen places c.split_at.result.1.now run c.loop-count.count c.split_at.ensures.back c.run_of-run.ensures.first can)

pub returns-clause-reads : goal.returns-clause-reads
returns-clause-reads g c =
    let places = c.args.places.now in
    let into = c.loop-count.into in
    let all : take c.loop-count.count places ≡ places = take_all c.loop-count.count places (omega (arith, c.loop-count-test.false)) in
    let end : take c.loop-count.end into ≡ into = take_all c.loop-count.end into (omega (arith, c.loop-count.invariant.reached, ap places_room all, c.requires.fits, c.loop-count.auto.into)) in
    reads_as g.D.Dir.is_honest g.D.Dir.history g.D.Dir.opened g.D.Dir.bytes_left g.D.Dir.fault_count c.args.file (Ok (tt {0})) (λ seen. CanTake seen places) (λ seen. CanTake seen places) (λ seen. take c.loop-count.end into ≡ bytes_at seen (take c.loop-count.count places))
    (λ seen. into ≡ bytes_at seen places) c.args.dir.now c.loop-count.dir c.loop-count.invariant.so_far (λ seen can. can) (λ seen can given. sym end ∙ given ∙ ap (bytes_at seen) all)
