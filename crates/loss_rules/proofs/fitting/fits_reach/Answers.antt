use Rattle.std.proofs.Common.{Any, refl, arith}
use Rattle.tag_pattern.specs.Patterns.{Fits}
use Rattle.loss_rules.specs.Labels.{IsReachOf}
use Rattle.loss_rules.proofs.BySite.{both, any_found}
use Rattle.loss_rules.proofs.Seeks.{holds_so, not_true, found_any, none_more, no_any}
use Rattle.loss_rules.proofs.fitting.fits_reach.Goals as goal

pub returns-then-fits_any : goal.returns-then-fits_any
returns-then-fits_any g c =
    let found = found_any (λ r. Any (Fits c.args.pattern.now) r.now) c.at-patterns-items.result.now c.loop-patterns.patterns-index c.patterns-item.result (omega arith) c.patterns-item.is (c.if-fits_any.ensures.0 refl) in
    both found (any_found (λ r. r.now) c.at-patterns-items.result.now (IsReachOf c.args.at.place c.args.at.scope c.args.at.rule) (λ reach. reach.patterns.items) c.args.reaches.now c.at-patterns-items.ensures (Any (Fits c.args.pattern.now)))

pub returns-then-fits_any_at : goal.returns-then-fits_any_at
returns-then-fits_any_at g c =
    let P = Any (Fits c.args.pattern.now) in
    let found = holds_so (Any (λ r. P r.now) c.at.result.now) (c.if-fits_any_at.ensures refl) in
    both found (any_found (λ r. r.now) c.at.result.now (IsReachOf c.args.at.place c.args.at.scope c.args.at.rule) (λ reach. reach.patterns.items) c.args.reaches.now c.at.ensures P)

pub loop-patterns-preserved : goal.loop-patterns-preserved
loop-patterns-preserved g c = none_more (λ r. Any (Fits c.args.pattern.now) r.now) c.at-patterns-items.result.now c.loop-patterns.patterns-index c.patterns-item.result (omega arith) c.patterns-item.is c.loop-patterns.invariant (λ p. not_true (c.if-fits_any.ensures.1 p))

pub returns : goal.returns
returns g c =
    let none = no_any (λ r. Any (Fits c.args.pattern.now) r.now) c.at-patterns-items.result.now c.loop-patterns.patterns-index (omega arith) c.loop-patterns.invariant in
    both none (any_found (λ r. r.now) c.at-patterns-items.result.now (IsReachOf c.args.at.place c.args.at.scope c.args.at.rule) (λ reach. reach.patterns.items) c.args.reaches.now c.at-patterns-items.ensures (Any (Fits c.args.pattern.now)))
