use Rattle.std.proofs.Common.{◌≢◌, sym, subst}
use Rattle.std.specs.Prelude.{All}
use Rattle.std.proofs.lemmas.Bool.{false≢true}
use Rattle.ack_receipt.specs.Deliveries.{Pended}
use Rattle.ack_receipt.specs.Redeeming.{AreApart}
use Rattle.ack_receipt.proofs.Redeem.{apart_cons, apart_head, apart_tail}
use Rattle.ack_receipt.proofs.locked.redeeming.are_each_once.Goals as goal

pub returns-then-not-is_apart : goal.returns-then-not-is_apart
returns-then-not-is_apart g c = (
  (λ t. absurd (false≢true t)),
  (λ h.
      let all = apart_head c.in-Some.pending.now c.in-Some.behind.now (subst AreApart c.in-Some.ensures.cases.0 (c.loop-pending.invariant.apart.1 h)) in
      let here = subst (λ (p : Pended). All (λ (q : Pended). p.place ≢ q.place) c.in-Some.behind.now) (sym c.pending.view_is) all in
      absurd (false≢true (cc (c.if-not-is_apart.true, c.is_apart.ensures.1 here)))),
)

pub loop-pending-preserved : goal.loop-pending-preserved
loop-pending-preserved g c =
    let all = subst (λ (p : Pended). All (λ (q : Pended). p.place ≢ q.place) c.in-Some.behind.now) c.pending.view_is (c.is_apart.ensures.0 c.if-not-is_apart.false) in
    record {
      apart = (
        (λ h. c.loop-pending.invariant.apart.0 (subst AreApart (sym c.in-Some.ensures.cases.0) (apart_cons c.in-Some.pending.now c.in-Some.behind.now all h))),
        (λ h. apart_tail c.in-Some.pending.now c.in-Some.behind.now (subst AreApart c.in-Some.ensures.cases.0 (c.loop-pending.invariant.apart.1 h))),
      );
    }
