use Rattle.std.proofs.Common.{refl, arith}
use Rattle.loss_rules.proofs.Seeks.{not_true, found_any, none_more, no_any}
use Rattle.loss_rules.specs.Rules.{FitsMatch}
use Rattle.loss_rules.proofs.plan.is_matched.Goals as goal

pub returns-then-fits_any : goal.returns-then-fits_any
returns-then-fits_any g c = found_any (FitsMatch c.args.pattern.now) c.args.matches.now c.loop-found.found-index c.found-item.result (omega arith) c.found-item.is ((rw c.deref.ensures.value at c.if-fits_any.ensures).0 refl)

pub loop-found-preserved : goal.loop-found-preserved
loop-found-preserved g c = none_more (FitsMatch c.args.pattern.now) c.args.matches.now c.loop-found.found-index c.found-item.result (omega arith) c.found-item.is c.loop-found.invariant (λ p. not_true ((rw c.deref.ensures.value at c.if-fits_any.ensures).1 p))

pub returns : goal.returns
returns g c = no_any (FitsMatch c.args.pattern.now) c.args.matches.now c.loop-found.found-index (omega arith) c.loop-found.invariant
