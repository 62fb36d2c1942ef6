use Rattle.std.proofs.Common.{All, refl, arith}
use Rattle.std.specs.Option.{option_copied}
use Rattle.loss_rules.specs.Labels.{FitsLabelWith, IsReachOf}
use Rattle.loss_rules.proofs.BySite.{both, all_found}
use Rattle.loss_rules.proofs.Seeks.{not_true, broken_all, all_more, all_of}
use Rattle.loss_rules.proofs.fitting.reaches_fit_label.Goals as goal

pub returns-then-not-all_fit_label : goal.returns-then-not-all_fit_label
returns-then-not-all_fit_label g c =
    let broken = broken_all (λ r. All (FitsLabelWith c.args.labels.now c.args.scope.relay c.args.scope.scope (option_copied c.args.prefix)) r.now) c.at-patterns-items.result.now c.loop-patterns.patterns-index c.patterns-item.result (omega arith) c.patterns-item.is (λ p. not_true (c.if-not-all_fit_label.ensures.1 p)) in
    both broken (all_found (λ r. r.now) c.at-patterns-items.result.now (IsReachOf c.args.at.place c.args.at.scope c.args.at.rule) (λ reach. reach.patterns.items) c.args.reaches.now c.at-patterns-items.ensures (All (FitsLabelWith c.args.labels.now c.args.scope.relay c.args.scope.scope (option_copied c.args.prefix))))

pub loop-patterns-preserved : goal.loop-patterns-preserved
loop-patterns-preserved g c = all_more (λ r. All (FitsLabelWith c.args.labels.now c.args.scope.relay c.args.scope.scope (option_copied c.args.prefix)) r.now) c.at-patterns-items.result.now c.loop-patterns.patterns-index c.patterns-item.result (omega arith) c.patterns-item.is c.loop-patterns.invariant (c.if-not-all_fit_label.ensures.0 refl)

pub returns : goal.returns
returns g c =
    let all = all_of (λ r. All (FitsLabelWith c.args.labels.now c.args.scope.relay c.args.scope.scope (option_copied c.args.prefix)) r.now) c.at-patterns-items.result.now c.loop-patterns.patterns-index (omega arith) c.loop-patterns.invariant in
    both all (all_found (λ r. r.now) c.at-patterns-items.result.now (IsReachOf c.args.at.place c.args.at.scope c.args.at.rule) (λ reach. reach.patterns.items) c.args.reaches.now c.at-patterns-items.ensures (All (FitsLabelWith c.args.labels.now c.args.scope.relay c.args.scope.scope (option_copied c.args.prefix))))
