use Rattle.std.proofs.Common.{refl}
use Rattle.mio_relay.proofs.Turning.{stand_on, stand_still}
use Rattle.mio_relay.proofs.serving.note_all.Goals as goal

pub loop-note-init : goal.loop-note-init
loop-note-init g c = record { goes = λ sources all. all; stands = stand_still _ c.args.connections.now refl }

pub loop-note-preserved : goal.loop-note-preserved
loop-note-preserved g c =
    let was = c.loop-note.invariant in
    record {
      goes = λ sources all. c.note_one.ensures.goes sources (was.goes sources all);
      stands = stand_on c.args.connections.now c.loop-note.connections c.note_one.new.connections was.stands c.note_one.ensures.stands;
    }
