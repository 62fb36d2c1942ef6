use Rattle.conf_text.specs.Views.{tree_of}
use Rattle.relay_conf.specs.Elements.{heading_of}
use Rattle.conf_listing.specs.Items.{section_item}
use Rattle.conf_listing.proofs.Accounting.{row_more}
use Rattle.conf_listing.proofs.adapting.Adapting.open.Goals as goal

pub returns : goal.returns
returns g c =
    row_more c.args.self.now.entries.items c.push.new.self.items c.in_ok-inside.row (section_item (heading_of (tree_of c.args.element.now))) c.in_ok-inside.ensures c.in_ok-push.ensures.items
