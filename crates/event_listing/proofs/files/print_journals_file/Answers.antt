use Rattle.event_listing.proofs.Sequence.{journal_ended}
use Rattle.event_listing.proofs.files.print_journals_file.Goals as goal

pub returns-in-Ok : goal.returns-in-Ok
returns-in-Ok g c =
    journal_ended c.args.choice.now (g.O.Open.text_of c.args.files.now c.args.name.now) c.args.name.now c.args.out.now c.open_journal.new.out
    (g.V.Write.contents c.args.notes.now) (g.V.Write.contents c.note_journal.new.notes) c.in-Ok.end c.is_sound.result c.note_journal.ensures.0 c.note_journal.ensures.1 c.in-Ok.ensures c.is_sound.ensures
    c.note_journal.ensures.2 c.note_journal.ensures.3
