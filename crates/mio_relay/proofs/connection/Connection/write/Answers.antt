use Rattle.std.proofs.Common.{◌∙◌}
use Rattle.mio_relay.proofs.Writing.{written_more}
use Rattle.mio_relay.proofs.connection.Connection.write.Goals as goal

pub loop-preserved : goal.loop-preserved
loop-preserved g c =
    let old = c.loop.invariant.same in
    let new = c.write_some.ensures.same in
    record {
      same = record { origin = new.origin ∙ old.origin; came = new.came ∙ old.came; entry = new.entry ∙ old.entry };
      waits = c.write_some.ensures.waits ∙ c.loop.invariant.waits;
      written = written_more c.args.self.now c.loop.self c.write_some.new.self c.loop.invariant.written c.write_some.ensures.written;
    }
