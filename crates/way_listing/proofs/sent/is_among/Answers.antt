use Rattle.std.proofs.Common.{◌≡◌, get_or, refl, subst, sym}
use Rattle.std.proofs.lemmas.Bool.{false≢true}
use Rattle.way_listing.specs.Sendings.{Sending, sending}
use Rattle.way_listing.proofs.Among.{none_is, none_more}
use Rattle.way_listing.proofs.sent.is_among.Goals as goal

pub returns-then-is : goal.returns-then-is
returns-then-is g c =
    let found = c.args.found.now in
    let at = c.loop-one.one-index in
    let same = c.if-is.ensures.0 refl in
    (λ _. (at, c.loop-one-test.true, subst (λ (x : Sending). get_or found at x ≡ x) same (sym c.one-item.is)), λ _. refl)

pub returns : goal.returns
returns g c =
    let one : Sending = sending (record { host = c.args.host.now; port = c.args.port }) c.args.tag.now in
    (λ e. absurd (false≢true e), λ has. absurd (none_is c.args.found.now c.loop-one.one-index one c.loop-one-test.false c.loop-one.invariant has))

pub loop-one-preserved : goal.loop-one-preserved
loop-one-preserved g c =
    let one : Sending = sending (record { host = c.args.host.now; port = c.args.port }) c.args.tag.now in
    none_more (λ (other : Sending). other ≡ one) c.args.found.now c.loop-one.one-index c.one-item.result c.loop-one-test.true c.one-item.is (λ is. false≢true (c.if-is.ensures.1 is)) c.loop-one.invariant
