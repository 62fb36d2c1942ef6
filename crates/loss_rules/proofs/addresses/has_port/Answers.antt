use Rattle.std.proofs.Common.{◌≡◌, arith}
use Rattle.loss_rules.proofs.Seeks.{found_any, none_more, no_any}
use Rattle.loss_rules.proofs.addresses.has_port.Goals as goal

pub returns-then-source-port : goal.returns-then-source-port
returns-then-source-port g c = found_any (λ source. source.port ≡ c.args.port) c.args.sources.now c.loop-source.source-index c.source-item.result (omega arith) c.source-item.is c.if-source-port.true

pub loop-source-preserved : goal.loop-source-preserved
loop-source-preserved g c = none_more (λ source. source.port ≡ c.args.port) c.args.sources.now c.loop-source.source-index c.source-item.result (omega arith) c.source-item.is c.loop-source.invariant c.if-source-port.false

pub loop-source-init : goal.loop-source-init
loop-source-init g c = λ k d less same. absurd (omega (arith, less))

pub returns : goal.returns
returns g c = no_any (λ source. source.port ≡ c.args.port) c.args.sources.now c.loop-source.source-index c.loop-source-test.false c.loop-source.invariant
