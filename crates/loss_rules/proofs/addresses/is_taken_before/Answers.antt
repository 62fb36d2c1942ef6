use Rattle.std.proofs.Common.{refl, arith}
use Rattle.std.proofs.lemmas.Option.{slice_get_read}
use Rattle.loss_rules.specs.Addresses.{HasAddress}
use Rattle.loss_rules.proofs.Lines.{kept_more}
use Rattle.loss_rules.proofs.News.{found_before, none_before}
use Rattle.loss_rules.proofs.Seeks.{not_true}
use Rattle.loss_rules.proofs.addresses.is_taken_before.Goals as goal

pub returns-then-has_address : goal.returns-then-has_address
returns-then-has_address g c = found_before (HasAddress c.args.host.now c.args.port) c.args.relays.now c.args.place c.loop-before.before c.index-relays-before.result c.loop-before-test.true (slice_get_read c.args.relays.now _ c.loop-before.before c.index-relays-before.result refl (omega arith) c.index-relays-before.is) (c.if-has_address.ensures.0 refl)

pub loop-before-preserved : goal.loop-before-preserved
loop-before-preserved g c = kept_more (λ p node. ¬ HasAddress c.args.host.now c.args.port node) c.args.relays.now c.loop-before.before c.index-relays-before.result (slice_get_read c.args.relays.now _ c.loop-before.before c.index-relays-before.result refl (omega arith) c.index-relays-before.is) c.loop-before.invariant (λ p. not_true (c.if-has_address.ensures.1 p))

pub returns : goal.returns
returns g c = none_before (HasAddress c.args.host.now c.args.port) c.args.relays.now c.args.place (λ p x less is. c.loop-before.invariant p x (omega arith) is)
