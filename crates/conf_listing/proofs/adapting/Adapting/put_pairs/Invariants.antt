use Rattle.std.proofs.Common.{◌≡◌, ◌++◌, map, take}
use Rattle.conf_text.specs.Views.{setting}
use Rattle.conf_listing.specs.Items.{all_stand_for, parameter_item}
use Rattle.conf_listing.proofs.adapting.Adapting.put_pairs.Given as goal

abbrev pub invariant-loop-pair : goal.invariant-loop-pair
invariant-loop-pair g l = all_stand_for l.self.entries.items ≡ all_stand_for l.fn.self.entries.items ++ map parameter_item (map setting (take l.pair-index l.pairs))
