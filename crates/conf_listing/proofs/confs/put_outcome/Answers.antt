use Rattle.conf_listing.proofs.EachConf.{lists_text}
use Rattle.conf_listing.proofs.confs.put_outcome.Goals as goal

pub returns-in-Text : goal.returns-in-Text
returns-in-Text g c = lists_text c.args.name.now c.args.outcome.now c.in-Text.field-0 c.args.lines.now.items c.in-Text.is
