use Rattle.std.proofs.Common.{◌∙◌}
use Rattle.conf_listing.proofs.Drafting.{accepted_lines}
use Rattle.conf_listing.proofs.draft.lines_of.Goals as goal

pub returns : goal.returns
returns g c =
    accepted_lines c.args.is_accepted c.args.has_mark c.args.adapted.now.entries.items c.in_ok-lines.lines.items c.as_bytes.result.now c.extend_from_slice.new.self.items
    c.if-not-is_accepted.false c.in_ok-lines.ensures (c.as_bytes.ensures.value ∙ c.mark_note.ensures) c.in_ok-extend_from_slice.ensures.items
