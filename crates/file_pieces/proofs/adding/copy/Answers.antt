use Rattle.std.proofs.Common.{ℕ, ◌≡◌, ◌≤◌, ◌+◌, Ok, Err, length, subst, arith}
use Rattle.file_pieces.specs.Pieces.{HasPart, part_of}
use Rattle.file_pieces.proofs.Steps.{Copied, copied_start, copied_on, copied_less, still_open}
use Rattle.file_pieces.proofs.adding.copy.Goals as goal

pub loop-done-init : goal.loop-done-init
loop-done-init g c = (omega arith, copied_start g.D.Dir.is_honest g.D.Dir.history g.D.Dir.opened g.D.Dir.bytes_left g.D.Dir.fault_count c.args.from c.args.to c.args.at c.args.count c.args.dir.now)

pub copy_part-requires-clause-source : goal.copy_part-requires-clause-source
copy_part-requires-clause-source g c =
    still_open g.D.Dir.is_honest g.D.Dir.history g.D.Dir.opened g.D.Dir.bytes_left g.D.Dir.fault_count c.args.from c.args.to (Ok (tt {0})) c.loop-done.done (λ seen. HasPart seen c.args.at c.args.count) (λ seen. part_of seen c.args.at c.loop-done.done) c.args.dir.now c.loop-done.dir c.args.from c.loop-done.invariant.1 c.requires.source

pub copy_part-requires-clause-open : goal.copy_part-requires-clause-open
copy_part-requires-clause-open g c =
    still_open g.D.Dir.is_honest g.D.Dir.history g.D.Dir.opened g.D.Dir.bytes_left g.D.Dir.fault_count c.args.from c.args.to (Ok (tt {0})) c.loop-done.done (λ seen. HasPart seen c.args.at c.args.count) (λ seen. part_of seen c.args.at c.loop-done.done) c.args.dir.now c.loop-done.dir c.args.to c.loop-done.invariant.1 c.requires.open

pub copy_part-requires-clause-room : goal.copy_part-requires-clause-room
copy_part-requires-clause-room g c =
    let so_far = c.loop-done.invariant.1.room in
    omega (arith, so_far, c.requires.room, c.split_at_mut-part.ensures.front_len, c.min-next.ensures, c.loop-done-test.true)

pub returns-in-Err-clause-adds : goal.returns-in-Err-clause-adds
returns-in-Err-clause-adds g c =
    let next = length c.split_at_mut-part.result.0.now in
    let within : c.loop-done.done + next ≤ c.args.count = omega (arith, c.split_at_mut-part.ensures.front_len, c.min-next.ensures, c.loop-done-test.true) in
    copied_less g.D.Dir.is_honest g.D.Dir.history g.D.Dir.opened g.D.Dir.bytes_left g.D.Dir.fault_count c.args.from c.args.to c.args.at c.args.count c.in-Err.fault (c.loop-done.done + next) c.args.dir.now c.copy_part.new.dir within
    (copied_on g.D.Dir.is_honest g.D.Dir.history g.D.Dir.opened g.D.Dir.bytes_left g.D.Dir.fault_count c.args.from c.args.to c.args.at c.args.count (tt {0}) (Err c.in-Err.fault) c.loop-done.done next c.args.dir.now c.loop-done.dir c.copy_part.new.dir within c.loop-done.invariant.1 c.in-Err.ensures.adds)

pub loop-done-preserved : goal.loop-done-preserved
loop-done-preserved g c =
    let next = length c.split_at_mut-part.result.0.now in
    let is : next ≡ c.min-next.result = omega (arith, c.split_at_mut-part.ensures.front_len, c.min-next.ensures) in
    let within : c.loop-done.done + next ≤ c.args.count = omega (arith, is, c.min-next.ensures, c.loop-done-test.true) in (
      omega (arith, within, is),
      subst (λ (n : ℕ). Copied g.D.Dir.is_honest g.D.Dir.history g.D.Dir.opened g.D.Dir.bytes_left g.D.Dir.fault_count c.args.from c.args.to c.args.at c.args.count c.args.dir.now c.copy_part.new.dir (c.loop-done.done + n) (Ok (tt {0}))) is
          (copied_on g.D.Dir.is_honest g.D.Dir.history g.D.Dir.opened g.D.Dir.bytes_left g.D.Dir.fault_count c.args.from c.args.to c.args.at c.args.count (tt {0}) (Ok (tt {0})) c.loop-done.done next c.args.dir.now c.loop-done.dir c.copy_part.new.dir within c.loop-done.invariant.1 c.in_default.ensures.adds),
    )

pub returns-clause-adds : goal.returns-clause-adds
returns-clause-adds g c =
    let all : c.loop-done.done ≡ c.args.count = omega (arith, c.loop-done.invariant.0, c.loop-done-test.false) in
    subst (λ (n : ℕ). Copied g.D.Dir.is_honest g.D.Dir.history g.D.Dir.opened g.D.Dir.bytes_left g.D.Dir.fault_count c.args.from c.args.to c.args.at c.args.count c.args.dir.now c.loop-done.dir n (Ok (tt {0}))) all c.loop-done.invariant.1
