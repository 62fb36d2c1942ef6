use Rattle.std.proofs.Common.{◌≡◌, ◌++◌, ◌∷◌, map, take}
use Rattle.conf_text.specs.Trees.{trees}
use Rattle.conf_text.specs.Views.{tree_of}
use Rattle.relay_conf.specs.Elements.{heading_of, settings_of}
use Rattle.conf_listing.specs.Items.{all_stand_for, items_of, parameter_item, section_item}
use Rattle.conf_listing.proofs.adapting.Adapting.+put_element.Given as goal

abbrev pub invariant-loop-child : goal.invariant-loop-child
invariant-loop-child g l =
    all_stand_for l.self.entries.items ≡ all_stand_for l.fn.self.entries.items
    ++ (section_item (heading_of (tree_of l.element)) ∷ (map parameter_item (settings_of (tree_of l.element)) ++ items_of (trees (map tree_of (take l.child-index l.child-items)))))
