use Rattle.std.proofs.Common.{arith}
use Rattle.custody_store.proofs.Slots.{takes_there}
use Rattle.custody_store.proofs.buffer.Buffer.takes.Goals as goal

pub returns-then-serial-len : goal.returns-then-serial-len
returns-then-serial-len g c =
    let s = c.self.inside in
    rw (← c.self.view_is) (takes_there s.generation s.chunks.items c.args.serial c.index.result.now c.args.tag.now c.is_staged_of.result (omega arith) c.index.ensures c.is_staged_of.ensures)
