use Rattle.std.proofs.Common.{◌≡◌, drop, map}
use Rattle.std.specs.List.{list_any}
use Rattle.conf_text.specs.Views.{tree_of}
use Rattle.relay_conf.proofs.Labelling.{is_label_of}
use Rattle.relay_conf.proofs.labels.has_label.Given as goal

abbrev pub invariant-loop-element : goal.invariant-loop-element
invariant-loop-element g l = list_any (is_label_of l.name) (map tree_of (drop l.element-index l.elements)) ≡ list_any (is_label_of l.name) (map tree_of l.elements)
