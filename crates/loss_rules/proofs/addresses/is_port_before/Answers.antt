use Rattle.std.proofs.Common.{◌≡◌, refl, sym, ap, ◌∙◌, arith}
use Rattle.std.proofs.lemmas.Option.{slice_get_read}
use Rattle.relay_conf.specs.declared.relay.Source.{Source}
use Rattle.loss_rules.proofs.Lines.{kept_more}
use Rattle.loss_rules.proofs.News.{found_before, none_before}
use Rattle.loss_rules.proofs.addresses.is_port_before.Goals as goal

pub returns-then-sources-before : goal.returns-then-sources-before
returns-then-sources-before g c = found_before (λ (s : Source g.row.A.Denot). s.port ≡ c.args.port) c.args.sources.now c.args.place c.loop-before.before c.index-sources-before.result c.loop-before-test.true (slice_get_read c.args.sources.now _ c.loop-before.before c.index-sources-before.result refl (omega arith) c.index-sources-before.is) (ap (λ (s : Source g.row.A.Denot). s.port) c.index-sources-before.is ∙ c.if-sources-before.true)

pub loop-before-preserved : goal.loop-before-preserved
loop-before-preserved g c = kept_more (λ p (s : Source g.row.A.Denot). ¬ (s.port ≡ c.args.port)) c.args.sources.now c.loop-before.before c.index-sources-before.result (slice_get_read c.args.sources.now _ c.loop-before.before c.index-sources-before.result refl (omega arith) c.index-sources-before.is) c.loop-before.invariant (λ p. c.if-sources-before.false (ap (λ (s : Source g.row.A.Denot). s.port) (sym c.index-sources-before.is) ∙ p))

pub returns : goal.returns
returns g c = none_before (λ (s : Source g.row.A.Denot). s.port ≡ c.args.port) c.args.sources.now c.args.place (λ p x less is. c.loop-before.invariant p x (omega arith) is)
