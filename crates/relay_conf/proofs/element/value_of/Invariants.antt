use Rattle.std.proofs.Common.{◌≡◌, drop, map}
use Rattle.std.specs.Option.{option_copied, option_or}
use Rattle.conf_text.specs.Views.{setting}
use Rattle.relay_conf.specs.Elements.{value_of}
use Rattle.relay_conf.proofs.element.value_of.Given as goal

abbrev pub invariant-loop-pair : goal.invariant-loop-pair
invariant-loop-pair g l = option_or (value_of l.name (map setting (drop l.pair-index l.pairs))) (option_copied l.found) ≡ value_of l.name (map setting l.pairs)
