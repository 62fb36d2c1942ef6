use Rattle.std.proofs.Common.{refl, arith, below_more}
use Rattle.loss_rules.specs.Rules.{IsNewTo}
use Rattle.loss_rules.proofs.Seeks.{not_true}
use Rattle.loss_rules.proofs.addresses.relay_is_new.Goals as goal

pub returns-then-not-is_new_to : goal.returns-then-not-is_new_to
returns-then-not-is_new_to g c = (λ e. absurd (not_true e), λ all. absurd (not_true (c.if-not-is_new_to.ensures.1 (all c.loop-before.before c.loop-before-test.true))))

pub loop-before-preserved : goal.loop-before-preserved
loop-before-preserved g c = below_more (IsNewTo c.args.net.now c.args.lines.now c.args.place) c.loop-before.before c.loop-before.invariant (c.if-not-is_new_to.ensures.0 refl)

pub returns : goal.returns
returns g c = (λ _ b less. c.loop-before.invariant b (omega arith), λ _. refl)
