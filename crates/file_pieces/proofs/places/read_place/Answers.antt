use Rattle.std.proofs.Common.{◌≡◌, length, subst, ◌∙◌, arith}
use Rattle.chunk_journal.specs.Places.{bytes_from}
use Rattle.file_pieces.specs.Pieces.{part_of}
use Rattle.file_pieces.proofs.Sums.{written_behind}
use Rattle.file_pieces.proofs.ReadOn.{cause_on}
use Rattle.file_pieces.proofs.places.read_place.Goals as goal

pub returns-in-Ok-clause-reads : goal.returns-in-Ok-clause-reads
returns-in-Ok-clause-reads g c =
    let e = c.in-Ok.ensures in
    let place = c.args.place in
    let part = c.split_at_mut-part in
    let front = c.split_at_mut-behind in
    let count : length part.result.0.now ≡ place.length = part.ensures.front_len ∙ c.length-count.ensures.value in
    let begins = c.at.ensures.value in
    record {
      honest = e.reads.honest;
      time = e.reads.time;
      same = e.reads.same;
      stays_open = e.reads.stays_open;
      room = e.reads.room;
      cause = cause_on (g.D.Dir.fault_count c.args.dir.now) (g.D.Dir.fault_count c.read_exact.new.dir) c.in-Ok.field-0 _ e.reads.cause;
      ok = λ h name seen is found has. written_behind c.args.done place.length c.args.into.now front.result.0.now c.read_exact.new.into part.result.1.now (bytes_from seen place) front.ensures.front front.ensures.front_len
          (omega (arith, e.len, count)) (subst (λ n. c.read_exact.new.into ≡ part_of seen place.at n) count (subst (λ k. c.read_exact.new.into ≡ part_of seen k (length part.result.0.now)) begins (e.reads.ok h name seen is found (omega (arith, has.0, count, begins), omega (arith, has.1, count, begins)))));
      whole = λ h name seen is found has short. absurd (cc short);
    }
