use Rattle.event_listing.proofs.Eventful.{lined}
use Rattle.event_listing.proofs.event.put_event.Goals as goal

pub returns : goal.returns
returns g c =
    lined c.args.tag.now c.args.entry.now c.args.lines.items c.into_inner-all.result.items c.push.new.self.items c.new-writer.result c.put_members.new.writer
    c.new-writer.ensures.before c.new-writer.ensures.tokens c.in_ok-put_members.ensures c.into_inner-all.ensures.items c.in_ok-push.ensures.items
