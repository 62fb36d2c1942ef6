use Rattle.std.proofs.Common.{Err, subst}
use Rattle.folder_listing.specs.Placed.{known_from}
use Rattle.event_listing.specs.Forms.{Items}
use Rattle.event_listing.specs.Reading.{PrintsFile}
use Rattle.event_listing.proofs.Passes.{pass_ended, pass_stopped, pass_unread}
use Rattle.event_listing.proofs.follow.print_pass.Goals as goal

pub returns-in-Ok : goal.returns-in-Ok
returns-in-Ok g c =
    pass_ended (g.O.Open.text_of c.args.files.now c.args.name.now) c.args.choice.now c.args.name.now c.args.at c.args.growth c.args.out.now c.print_rest.new.out
    (g.V.Write.contents c.args.notes.now, g.V.Write.contents c.end_pass.new.notes) c.in-Ok.end c.end_pass.result c.in-Ok.ensures c.end_pass.ensures

pub returns-in-Err-Read : goal.returns-in-Err-Read
returns-in-Err-Read g c =
    pass_unread (g.O.Open.text_of c.args.files.now c.args.name.now) c.args.choice.now c.args.name.now c.args.at c.args.growth c.args.out.now c.print_rest.new.out
    (g.V.Write.contents c.args.notes.now, g.V.Write.contents c.note_unread.new.notes)
    (subst (λ stop. PrintsFile Items c.args.choice.now (known_from (g.O.Open.text_of c.args.files.now c.args.name.now) c.args.at) c.args.out.now c.print_rest.new.out (Err stop)) c.in-Err-Read.field-0-is
    c.in-Err-Read.ensures)

pub returns-in-Err : goal.returns-in-Err
returns-in-Err g c =
    pass_stopped (g.O.Open.text_of c.args.files.now c.args.name.now) c.args.choice.now c.args.name.now c.args.at c.args.growth c.args.out.now c.print_rest.new.out
    (g.V.Write.contents c.args.notes.now, g.V.Write.contents c.note_stop.new.notes) c.in-Err.stop c.note_stop.result c.in-Err.ensures c.note_stop.ensures
