use Rattle.std.proofs.Common.{refl, arith}
use Rattle.std.proofs.lemmas.Option.{slice_get_read}
use Rattle.loss_rules.specs.Lines.{site_of}
use Rattle.loss_rules.proofs.Lines.{one_more, all_of}
use Rattle.loss_rules.proofs.requirement.add_scope_lines.Goals as goal

pub loop-rule-preserved : goal.loop-rule-preserved
loop-rule-preserved g c = one_more (λ rule found. g.R.Requirement.keeps c.args.asked.now (site_of c.args.place c.args.scope rule) found) (λ rule found line. g.R.Requirement.breaks c.args.asked.now (site_of c.args.place c.args.scope rule) found line) c.args.matches.now c.loop-rule.rule c.index-matches-rule.result _ _ _ (slice_get_read c.args.matches.now _ c.loop-rule.rule c.index-matches-rule.result refl (omega arith) c.index-matches-rule.is) c.loop-rule.invariant c.in_ok-add_lines.ensures

pub returns : goal.returns
returns g c = all_of (λ rule found. g.R.Requirement.keeps c.args.asked.now (site_of c.args.place c.args.scope rule) found) (λ rule found line. g.R.Requirement.breaks c.args.asked.now (site_of c.args.place c.args.scope rule) found line) c.args.matches.now c.loop-rule.rule _ _ (omega arith) c.loop-rule.invariant
