use Rattle.std.proofs.Common.{◌≡◌, length, sym, subst}
use Rattle.file_pieces.specs.Pieces.{HasPart, part_of}
use Rattle.file_pieces.proofs.Spans.{span_taken}
use Rattle.file_pieces.proofs.ReadOn.{as_short, cause_as, cause_on}
use Rattle.file_pieces.proofs.places.read_span.Goals as goal

pub returns-in-Ok-clause-reads : goal.returns-in-Ok-clause-reads
returns-in-Ok-clause-reads g c =
    let e = c.in-Ok.ensures in
    let run = c.args.run in
    let count : length c.split_at_mut-part.result.0.now ≡ run.span = c.split_at_mut-part.ensures.front_len in
    record {
      honest = e.reads.honest;
      time = e.reads.time;
      same = e.reads.same;
      stays_open = e.reads.stays_open;
      room = e.reads.room;
      cause = cause_on (g.D.Dir.fault_count c.args.dir.now) (g.D.Dir.fault_count c.read_exact.new.dir) c.in-Ok.field-0 _ e.reads.cause;
      ok = λ h name seen is found can. c.pack.ensures.bytes seen (subst (λ n. c.read_exact.new.into ≡ part_of seen run.at n) (sym e.len)
          (e.reads.ok h name seen is found (subst (HasPart seen run.at) (sym count) (span_taken seen run.places.now run.at run.span c.requires.span can))));
      whole = λ h name seen is found can short. absurd (cc short);
    }

pub returns-in-Err-clause-reads : goal.returns-in-Err-clause-reads
returns-in-Err-clause-reads g c =
    let e = c.in-Err.ensures in
    let run = c.args.run in
    let count : length c.split_at_mut-part.result.0.now ≡ run.span = c.split_at_mut-part.ensures.front_len in
    record {
      honest = e.reads.honest;
      time = e.reads.time;
      same = e.reads.same;
      stays_open = e.reads.stays_open;
      room = e.reads.room;
      cause = cause_as (g.D.Dir.fault_count c.args.dir.now) (g.D.Dir.fault_count c.read_exact.new.dir) c.in-Err.fault e.reads.cause;
      ok = λ h name seen is found can. tt;
      whole = λ h name seen is found can short. e.reads.whole h name seen is found (subst (HasPart seen run.at) (sym count) (span_taken seen run.places.now run.at run.span c.requires.span can)) (as_short c.in-Err.fault short);
    }
