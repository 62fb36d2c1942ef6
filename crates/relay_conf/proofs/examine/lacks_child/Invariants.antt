use Rattle.std.proofs.Common.{◌≡◌, drop, map}
use Rattle.std.specs.List.{list_any}
use Rattle.conf_text.specs.Views.{tree_of}
use Rattle.relay_conf.specs.Elements.{is_named}
use Rattle.relay_conf.proofs.examine.lacks_child.Given as goal

abbrev pub invariant-loop-child : goal.invariant-loop-child
invariant-loop-child g l = list_any (is_named l.name) (map tree_of (drop l.child-index l.children)) ≡ list_any (is_named l.name) (map tree_of l.children)
