use Rattle.mio_relay.proofs.Heaviest.{HoldAtMost, HoldsSo}
use Rattle.mio_relay.proofs.holding.heaviest_of.Given as goal

abbrev pub invariant-loop-key : goal.invariant-loop-key
invariant-loop-key g l = record {
  below : HoldAtMost l.most l.key l.slots;
  so : HoldsSo l.most l.heaviest l.slots;
}
