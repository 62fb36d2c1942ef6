use Rattle.std.proofs.Common.{◌≡◌, map, take}
use Rattle.conf_text.specs.Trees.{trees}
use Rattle.conf_text.specs.Views.{tree_of}
use Rattle.conf_listing.specs.Items.{all_stand_for, items_of}
use Rattle.conf_listing.proofs.adapting.adapt.Given as goal

abbrev pub invariant-loop-element : goal.invariant-loop-element
invariant-loop-element g l = all_stand_for l.draft.entries.items ≡ items_of (trees (map tree_of (take l.element-index l.elements)))
