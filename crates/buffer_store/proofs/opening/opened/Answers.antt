use Rattle.std.proofs.Common.{refl}
use Rattle.buffer_store.proofs.Told.{durable_new}
use Rattle.buffer_store.proofs.opening.opened.Goals as goal

pub invariant_of-result : goal.invariant_of-result
invariant_of-result g c = record {
  tags = c.requires.tags;
  durable = λ began. durable_new g.D.Dir.is_honest g.D.Dir.history _ refl (c.requires.honest began.0) (record { keeps = c.requires.keeps began.0 began.1; means = c.requires.means });
}
