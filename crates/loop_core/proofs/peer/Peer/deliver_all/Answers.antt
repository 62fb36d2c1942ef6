use Rattle.std.proofs.Common.{ℕ, ◌≡◌, ◌∙◌, ◌+◌, ◌||◌, Bool, true, List, arith, length, map, ap, refl, sym, subst}
use Rattle.std.specs.List.{All}
use Rattle.std.specs.Vec.Iter.{into_iter_items}
use Rattle.std.proofs.lemmas.List.{nil_from_length}
use Rattle.std.proofs.lemmas.List.Elements.{All-rest, All-same}
use Rattle.forward_core.specs.declared.demand.Demand.{Demand}
use Rattle.forward_core.specs.Demands.{asked_in, wanted}
use Rattle.forward_core.specs.Server.{ServerState, IsAskedIn}
use Rattle.loop_core.specs.Peers.{PeerState, wants_close}
use Rattle.loop_core.proofs.Keeping.{begins_on, closes, delivers, first_owed, goes_on, keeps_on, or_false, or_true, stays_waiting}
use Rattle.loop_core.proofs.peer.Peer.deliver_all.Goals as goal

pub loop-demand-init : goal.loop-demand-init
loop-demand-init g c =
    let P = λ (d : Demand _). IsAskedIn c.args.self.now.session.asked (wanted d) in
    let all = c.into_iter-rest.ensures.rest in
    record {
      asked = All-same P (into_iter_items c.into_iter-rest.result) c.args.demands.items all c.requires;
      entry = refl;
      session = refl;
      lanes = record { terms = refl; timings = refl; fault = λ fault is. is };
      time = refl;
      numbered = ap (λ (l : List (Demand _)). c.args.numbers.now + length (asked_in (map wanted l))) all;
      drawn = omega arith;
      closes = ap (λ (l : List (Demand _)). c.args.self.now.closing || wants_close (map wanted l)) all;
      closed = λ was. was;
      waits = stays_waiting _ _ refl;
    }

pub deliver-requires : goal.deliver-requires
deliver-requires g c =
    let asked = c.loop-demand.self.session.asked in
    subst (λ (d : Demand _). IsAskedIn asked (wanted d)) c.in-Deliver.is
    (first_owed (λ d. IsAskedIn asked (wanted d)) c.in-Some.demand (into_iter_items c.next.new.self) (into_iter_items c.loop-demand.rest) c.in-Some.ensures.items c.loop-demand.invariant.asked)

pub loop-demand-preserved-in-Continue-1 : goal.loop-demand-preserved-in-Continue-1
loop-demand-preserved-in-Continue-1 g c =
    let P = λ (d : Demand _). IsAskedIn c.loop-demand.self.session.asked (wanted d) in
    let left = into_iter_items c.loop-demand.rest in
    let left' = into_iter_items c.next.new.self in
    let one = delivers left left' c.in-Some.demand c.in-Deliver.message c.in-Some.ensures.items c.in-Deliver.is in
    let drawn = c.in_ok-deliver-in-Deliver.ensures.numbered in
    record {
      asked = subst (λ (s : ServerState). All (λ d. IsAskedIn s.asked (wanted d)) left') (sym c.deliver.ensures.session)
          (All-rest P c.in-Some.demand left' left c.in-Some.ensures.items c.loop-demand.invariant.asked);
      entry = c.deliver.ensures.entry ∙ c.loop-demand.invariant.entry;
      session = c.deliver.ensures.session ∙ c.loop-demand.invariant.session;
      lanes = keeps_on _ _ _ c.loop-demand.invariant.lanes c.deliver.ensures.lanes;
      time = c.deliver.ensures.time ∙ c.loop-demand.invariant.time;
      numbered = omega (arith, one.1, drawn, c.loop-demand.invariant.numbered);
      drawn = omega (arith, c.deliver.ensures.drawn, c.loop-demand.invariant.drawn);
      closes = ap (λ (b : Bool). b || wants_close (map wanted left')) c.deliver.ensures.closing
          ∙ ap (λ (b : Bool). c.loop-demand.self.closing || b) (sym one.0) ∙ c.loop-demand.invariant.closes;
      closed = λ was. c.deliver.ensures.closing ∙ c.loop-demand.invariant.closed was;
      waits = begins_on _ _ _ c.loop-demand.invariant.waits c.deliver.ensures.waits;
    }

pub loop-demand-preserved : goal.loop-demand-preserved
loop-demand-preserved g c =
    let P = λ (d : Demand _). IsAskedIn c.loop-demand.self.session.asked (wanted d) in
    let left = into_iter_items c.loop-demand.rest in
    let left' = into_iter_items c.next.new.self in
    let one = closes left left' c.in-Some.demand c.in-Close.fault c.in-Some.ensures.items c.in-Close.is in
    let same = c.close.ensures in
    record {
      asked = subst (λ (p : PeerState). All (λ d. IsAskedIn p.session.asked (wanted d)) left') (sym same)
          (All-rest P c.in-Some.demand left' left c.in-Some.ensures.items c.loop-demand.invariant.asked);
      entry = ap (λ (p : PeerState). p.entry) same ∙ c.loop-demand.invariant.entry;
      session = ap (λ (p : PeerState). p.session) same ∙ c.loop-demand.invariant.session;
      lanes = c.loop-demand.invariant.lanes;
      time = c.loop-demand.invariant.time;
      numbered = omega (arith, one.1, c.loop-demand.invariant.numbered);
      drawn = c.loop-demand.invariant.drawn;
      closes = ap (λ (p : PeerState). p.closing || wants_close (map wanted left')) same
          ∙ sym (or_true c.loop-demand.self.closing) ∙ ap (λ (b : Bool). c.loop-demand.self.closing || b) (sym one.0) ∙ c.loop-demand.invariant.closes;
      closed = λ was. ap (λ (p : PeerState). p.closing) same;
      waits = goes_on _ _ _ c.loop-demand.invariant.waits (stays_waiting _ _ (ap (λ (p : PeerState). p.waits) same));
    }

pub returns-in_err-deliver-in-Deliver-clause-lanes : goal.returns-in_err-deliver-in-Deliver-clause-lanes
returns-in_err-deliver-in-Deliver-clause-lanes g c = keeps_on _ _ _ c.loop-demand.invariant.lanes c.deliver.ensures.lanes

pub returns-in_err-deliver-in-Deliver-clause-waits : goal.returns-in_err-deliver-in-Deliver-clause-waits
returns-in_err-deliver-in-Deliver-clause-waits g c = begins_on _ _ _ c.loop-demand.invariant.waits c.deliver.ensures.waits

pub returns-clause-closes : goal.returns-clause-closes
returns-clause-closes g c =
    let none = nil_from_length (into_iter_items c.loop-demand.rest) (sym c.loop-demand.rest.rest.ok.0 ∙ c.in_default.ensures.cases.0) in
    sym (or_false c.loop-demand.self.closing)
    ∙ ap (λ (l : List (Demand _)). c.loop-demand.self.closing || wants_close (map wanted l)) (sym none)
    ∙ c.loop-demand.invariant.closes
