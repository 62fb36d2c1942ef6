use Rattle.std.proofs.Common.{◌≡◌, length, drop, arith, rules}
use Rattle.file_pieces.proofs.Sums.{read_whole}
use Rattle.file_pieces.proofs.reading.read_exact.Goals as goal

pub returns-in_err-read-clause-reads : goal.returns-in_err-read-clause-reads
returns-in_err-read-clause-reads g c =
    let read = c.in_err-read.ensures in
    record {
      honest = read.device.honest;
      time = read.device.time;
      same = read.same;
      stays_open = read.opened;
      room = read.other_room;
      cause = search rules;
      ok = λ honest name seen named found has. search rules;
      whole = λ honest name seen named found has short. search rules;
    }

pub returns-then-read-into-clause-reads : goal.returns-then-read-into-clause-reads
returns-then-read-into-clause-reads g c =
    let read = c.in_ok-read.ensures in
    record {
      honest = read.device.honest;
      time = read.device.time;
      same = read.same;
      stays_open = read.opened;
      room = read.other_room;
      cause = search rules;
      ok = λ honest name seen named found has. tt;
      whole = λ honest name seen named found has short.
          let count = read.count honest name seen named found in
          let len : length c.read_at.new.into ≡ length c.args.into.now = search rules in
          let part = has.0 in
          let less = c.if-read-into.true in
          omega arith;
    }

pub returns-clause-reads : goal.returns-clause-reads
returns-clause-reads g c =
    let read = c.in_ok-read.ensures in
    record {
      honest = read.device.honest;
      time = read.device.time;
      same = read.same;
      stays_open = read.opened;
      room = read.other_room;
      cause = search rules;
      ok = λ honest name seen named found has.
          let count = read.count honest name seen named found in
          let part = has.0 in
          read_whole c.args.into.now c.read_at.new.into (drop c.args.at seen) c.in_ok-read.read (omega (arith, count, part)) (read.bytes honest name seen named found);
      whole = λ honest name seen named found has short. absurd (cc short);
    }

pub returns-clause-there : goal.returns-clause-there
returns-clause-there g c honest name seen named found =
    let count = c.in_ok-read.ensures.count honest name seen named found in
    let len : length c.read_at.new.into ≡ length c.args.into.now = search rules in
    omega (arith, count, len, c.if-read-into.false)
