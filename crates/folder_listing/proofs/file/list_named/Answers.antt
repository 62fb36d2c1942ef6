use Rattle.folder_listing.proofs.Listed.{unread_so}
use Rattle.folder_listing.proofs.file.list_named.Goals as goal

pub returns-in-Err-Read : goal.returns-in-Err-Read
returns-in-Err-Read g c =
    unread_so c.args.kind (g.O.Open.text_of c.args.files.now c.args.name.now) c.args.name.now c.unread_lines.result (λ listed. listed.lines.items) (λ listed. listed.is_sound) c.unread_lines.ensures
