use Rattle.std.proofs.Common.{◌≡◌, drop, map}
use Rattle.std.specs.Option.{option_map, option_or}
use Rattle.conf_text.specs.Views.{tree_of}
use Rattle.relay_conf.specs.Elements.{last_child}
use Rattle.relay_conf.proofs.element.last_child.Given as goal

abbrev pub invariant-loop-child : goal.invariant-loop-child
invariant-loop-child g l = option_or (last_child l.name (map tree_of (drop l.child-index l.children))) (option_map (λ e. tree_of e.now) l.found) ≡ last_child l.name (map tree_of l.children)
