use Rattle.std.proofs.Common.{◌≡◌, List, map, ap, sym, ◌∙◌, subst, Option, Some, None}
use Rattle.std.specs.Prelude.{string_bytes}
use Rattle.conf_text.specs.Views.{setting}
use Rattle.relay_conf.specs.Sections.{setting_fault}
use Rattle.relay_conf.specs.Findings.{AllPass}
use Rattle.relay_conf.proofs.Parameters.{passed_setting, no_more_settings}
use Rattle.relay_conf.proofs.examine.examine_settings.Goals as goal

pub loop-pair-preserved : goal.loop-pair-preserved
loop-pair-preserved g c =
    passed_setting c.args.section c.args.pairs.now c.loop-pair.pair-index c.pair-item.result _ _ _ c.loop-pair-test.true c.pair-item.is c.as_str.ensures.value c.as_str-in-loop-pair.ensures.value c.in_default.ensures c.loop-pair.invariant

pub returns : goal.returns
returns g c = subst AllPass (no_more_settings c.args.section c.args.pairs.now c.loop-pair.pair-index _ c.loop-pair-test.false c.loop-pair.invariant) tt
