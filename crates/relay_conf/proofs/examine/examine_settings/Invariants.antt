use Rattle.std.proofs.Common.{◌≡◌, drop, map}
use Rattle.conf_text.specs.Views.{setting}
use Rattle.relay_conf.specs.Examined.{settings_found}
use Rattle.relay_conf.proofs.examine.examine_settings.Given as goal

abbrev pub invariant-loop-pair : goal.invariant-loop-pair
invariant-loop-pair g l = settings_found l.section (map setting (drop l.pair-index l.pairs)) ≡ settings_found l.section (map setting l.pairs)
