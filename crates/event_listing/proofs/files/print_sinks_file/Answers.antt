use Rattle.event_listing.proofs.Sequence.{named_ended}
use Rattle.event_listing.proofs.files.print_sinks_file.Goals as goal

pub returns-in-Ok : goal.returns-in-Ok
returns-in-Ok g c =
    named_ended c.args.choice.now (g.O.Open.text_of c.args.files.now c.args.name.now) c.args.name.now c.args.out.now c.print_file.new.out
    (g.V.Write.contents c.args.notes.now) (g.V.Write.contents c.note_end.new.notes) c.in-Ok.end c.is_sound.result c.note_end.ensures.0 c.note_end.ensures.1 c.in-Ok.ensures c.is_sound.ensures
    c.note_end.ensures.2 c.note_end.ensures.3
