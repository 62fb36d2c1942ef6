use Rattle.std.proofs.Common.{◌∙◌, ap}
use Rattle.label_plan.specs.Lines.{lines_without_labels}
use Rattle.relayctl.proofs.label.fresh_read.Goals as goal

pub returns : goal.returns
returns g c = record {
  given = c.in_ok-text.text.items;
  net_is = c.in_ok-text.ensures.whole;
  text_is = c.in_ok-without_labels.ensures ∙ ap lines_without_labels c.deref.ensures.value;
}
