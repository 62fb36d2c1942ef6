use Rattle.mio_relay.specs.Connections.{GoOn}
use Rattle.mio_relay.specs.Turning.{StandOn}
use Rattle.mio_relay.proofs.serving.note_all.Given as goal

abbrev pub invariant-loop-note : goal.invariant-loop-note
invariant-loop-note g l = record {
  goes : GoOn l.initial.connections l.connections;
  stands : StandOn l.initial.connections l.connections;
}
