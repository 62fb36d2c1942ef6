use Rattle.std.proofs.Common.{refl, arith}
use Rattle.loss_rules.proofs.Seeks.{not_true, broken_all, all_more, all_of}
use Rattle.loss_rules.specs.Rules.{IsMatched}
use Rattle.loss_rules.proofs.Matches.{any_matched, matched_any}
use Rattle.loss_rules.proofs.plan.all_matched.Goals as goal

pub returns-then-not-is_matched : goal.returns-then-not-is_matched
returns-then-not-is_matched g c = rw (← c.deref-pattern-items.ensures.value) (broken_all (IsMatched c.args.net.now c.args.label.now.place c.args.label.now.scope) c.deref-pattern-items.result.now c.loop-pattern.pattern-index c.pattern-item.result (omega arith) c.pattern-item.is (λ p. not_true ((rw c.matches_at-matches.ensures at c.if-not-is_matched.ensures).1 (matched_any c.args.net.now c.args.label.now.place c.args.label.now.scope c.pattern-item.result p))))

pub loop-pattern-preserved : goal.loop-pattern-preserved
loop-pattern-preserved g c = all_more (IsMatched c.args.net.now c.args.label.now.place c.args.label.now.scope) c.deref-pattern-items.result.now c.loop-pattern.pattern-index c.pattern-item.result (omega arith) c.pattern-item.is c.loop-pattern.invariant (any_matched c.args.net.now c.args.label.now.place c.args.label.now.scope c.pattern-item.result ((rw c.matches_at-matches.ensures at c.if-not-is_matched.ensures).0 refl))

pub returns : goal.returns
returns g c = rw (← c.deref-pattern-items.ensures.value) (all_of (IsMatched c.args.net.now c.args.label.now.place c.args.label.now.scope) c.deref-pattern-items.result.now c.loop-pattern.pattern-index (omega arith) c.loop-pattern.invariant)
