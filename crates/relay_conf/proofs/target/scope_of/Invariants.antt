use Rattle.std.proofs.Common.{◌≡◌, ◌+◌, ◌≤◌, drop, map}
use Rattle.std.specs.List.{position_or_len}
use Rattle.std.specs.Str.{bytes_eq}
use Rattle.conf_text.specs.Views.{tree_of}
use Rattle.relay_conf.specs.Labels.{labels_of}
use Rattle.relay_conf.proofs.target.scope_of.Given as goal

abbrev pub invariant-loop-element : goal.invariant-loop-element
invariant-loop-element g l = record {
  small : l.number ≤ 1 + l.element-index;
  so_far : l.number + position_or_len (λ label. bytes_eq label l.name) (labels_of (map tree_of (drop l.element-index l.elements))) ≡ 1 + position_or_len (λ label. bytes_eq label l.name) (labels_of (map tree_of l.elements));
}
