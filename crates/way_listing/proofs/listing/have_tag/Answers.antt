use Rattle.std.proofs.Common.{◌≡◌, refl, sym}
use Rattle.std.proofs.lemmas.Bool.{false≢true}
use Rattle.way_listing.specs.Sendings.{Sending}
use Rattle.way_listing.proofs.Among.{none_has, none_more}
use Rattle.way_listing.proofs.listing.have_tag.Goals as goal

pub returns-then-has_tag : goal.returns-then-has_tag
returns-then-has_tag g c = (λ _. (c.loop-one.one-index, c.one-item.result, c.loop-one-test.true, sym c.one-item.is, c.has_tag.ensures.0 c.if-has_tag.true), λ _. refl)

pub returns : goal.returns
returns g c = (λ e. absurd (false≢true e), λ has. absurd (none_has (λ (one : Sending). one.tag ≡ c.args.tag.now) c.args.sent.now c.loop-one.one-index c.loop-one-test.false c.loop-one.invariant has))

pub loop-one-preserved : goal.loop-one-preserved
loop-one-preserved g c =
    none_more (λ (one : Sending). one.tag ≡ c.args.tag.now) c.args.sent.now c.loop-one.one-index c.one-item.result c.loop-one-test.true c.one-item.is (λ is. false≢true (c.if-has_tag.ensures.1 is)) c.loop-one.invariant
