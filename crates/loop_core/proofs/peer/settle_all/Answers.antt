use Rattle.std.proofs.Common.{◌≡◌, ◌∙◌, Bool, true, not, ◌||◌, List, [], ap, refl, sym, subst}
use Rattle.std.specs.Prelude.{Contains}
use Rattle.std.specs.Vec.Iter.{into_iter_items}
use Rattle.std.proofs.lemmas.List.{nil_from_length}
use Rattle.std.proofs.lemmas.List.Elements.{All-nil, All-rest, All-same}
use Rattle.loop_core.specs.Lanes.{LanesState, NoneLater}
use Rattle.loop_core.specs.Waits.{Waits}
use Rattle.loop_core.specs.Peers.{BecomeInOrder, IsOwed, Standing, awaited_in}
use Rattle.loop_core.proofs.Keeping.{among_itself, first_owed, first_settled, or_false, or_true, rest_owed}
use Rattle.loop_core.proofs.peer.settle_all.Goals as goal

pub loop-waiting-init : goal.loop-waiting-init
loop-waiting-init g c =
    let P = IsOwed c.args.inlet.now c.args.session.now.asked in
    let Q = λ (w : Waits). Contains (awaited_in c.args.list.items) w.awaited in
    record {
      owed = All-same P (into_iter_items c.into_iter-rest.result) c.args.list.items c.into_iter-rest.ensures.rest c.requires.owed;
      kept = record {
        owed = All-same P c.new-later.result.items [] c.new-later.ensures.items (All-nil P);
        earned = c.requires.earned;
      };
      lanes = refl;
      rest = All-same Q (into_iter_items c.into_iter-rest.result) c.args.list.items c.into_iter-rest.ensures.rest (among_itself c.args.list.items);
      waited = All-same Q c.new-later.result.items [] c.new-later.ensures.items (All-nil Q);
      ended = λ none. c.new-later.ensures.items;
      order = λ end rest.
          subst (λ (l : List Waits). BecomeInOrder l (record { left = []; session = c.args.session.now; closing = c.args.is_closing.now }) end) c.into_iter-rest.ensures.rest
          (subst (λ (l : List Waits). BecomeInOrder (into_iter_items c.into_iter-rest.result) (record { left = l; session = c.args.session.now; closing = c.args.is_closing.now }) end) c.new-later.ensures.items rest);
      closed = λ was. was;
    }

pub settle_one-requires-clause-owed : goal.settle_one-requires-clause-owed
settle_one-requires-clause-owed g c =
    first_owed (IsOwed c.args.inlet.now c.loop-waiting.session.asked) c.in-Some.waiting (into_iter_items c.next.new.self)
    (into_iter_items c.loop-waiting.rest) c.in-Some.ensures.items c.loop-waiting.invariant.owed

pub loop-waiting-preserved-then-not-settle_one : goal.loop-waiting-preserved-then-not-settle_one
loop-waiting-preserved-then-not-settle_one g c =
    let Q = λ (w : Waits). Contains (awaited_in c.args.list.items) w.awaited in
    let left = into_iter_items c.loop-waiting.rest in
    let left' = into_iter_items c.next.new.self in
    record {
      owed = rest_owed c.args.inlet.now c.loop-waiting.session.asked c.settle_one.new.session.asked c.in-Some.waiting left' left
          c.settle_one.ensures.asked c.in-Some.ensures.items c.loop-waiting.invariant.owed;
      kept = c.settle_one.ensures.kept;
      lanes = c.settle_one.ensures.lanes ∙ c.loop-waiting.invariant.lanes;
      rest = All-rest Q c.in-Some.waiting left' left c.in-Some.ensures.items c.loop-waiting.invariant.rest;
      waited = c.settle_one.ensures.waited (awaited_in c.args.list.items) c.loop-waiting.invariant.waited
          (first_owed Q c.in-Some.waiting left' left c.in-Some.ensures.items c.loop-waiting.invariant.rest);
      ended = λ none.
          c.settle_one.ensures.ended (subst (λ (l : LanesState _). NoneLater l.later) (sym c.loop-waiting.invariant.lanes) none) (c.loop-waiting.invariant.ended none);
      order = λ end rest.
          c.loop-waiting.invariant.order end (first_settled left left' c.in-Some.waiting c.loop-waiting.later.items c.settle_one.new.later.items
          c.loop-waiting.session c.settle_one.new.session c.loop-waiting.is_closing true c.settle_one.result end c.in-Some.ensures.items
          (ap (λ (b : Bool). c.loop-waiting.is_closing || not b) c.if-not-settle_one.true ∙ or_true c.loop-waiting.is_closing) c.settle_one.ensures.becomes rest);
      closed = λ was. refl;
    }

pub loop-waiting-preserved : goal.loop-waiting-preserved
loop-waiting-preserved g c =
    let Q = λ (w : Waits). Contains (awaited_in c.args.list.items) w.awaited in
    let left = into_iter_items c.loop-waiting.rest in
    let left' = into_iter_items c.next.new.self in
    record {
      owed = rest_owed c.args.inlet.now c.loop-waiting.session.asked c.settle_one.new.session.asked c.in-Some.waiting left' left
          c.settle_one.ensures.asked c.in-Some.ensures.items c.loop-waiting.invariant.owed;
      kept = c.settle_one.ensures.kept;
      lanes = c.settle_one.ensures.lanes ∙ c.loop-waiting.invariant.lanes;
      rest = All-rest Q c.in-Some.waiting left' left c.in-Some.ensures.items c.loop-waiting.invariant.rest;
      waited = c.settle_one.ensures.waited (awaited_in c.args.list.items) c.loop-waiting.invariant.waited
          (first_owed Q c.in-Some.waiting left' left c.in-Some.ensures.items c.loop-waiting.invariant.rest);
      ended = λ none.
          c.settle_one.ensures.ended (subst (λ (l : LanesState _). NoneLater l.later) (sym c.loop-waiting.invariant.lanes) none) (c.loop-waiting.invariant.ended none);
      order = λ end rest.
          c.loop-waiting.invariant.order end (first_settled left left' c.in-Some.waiting c.loop-waiting.later.items c.settle_one.new.later.items
          c.loop-waiting.session c.settle_one.new.session c.loop-waiting.is_closing c.loop-waiting.is_closing c.settle_one.result end c.in-Some.ensures.items
          (ap (λ (b : Bool). c.loop-waiting.is_closing || not b) c.if-not-settle_one.false ∙ or_false c.loop-waiting.is_closing) c.settle_one.ensures.becomes rest);
      closed = λ was. c.loop-waiting.invariant.closed was;
    }

pub returns-clause-order : goal.returns-clause-order
returns-clause-order g c =
    let none = nil_from_length (into_iter_items c.loop-waiting.rest) (sym c.loop-waiting.rest.rest.ok.0 ∙ c.in_default.ensures.cases.0) in
    let end : Standing = record { left = c.loop-waiting.later.items; session = c.loop-waiting.session; closing = c.loop-waiting.is_closing } in
    c.loop-waiting.invariant.order end (subst (λ (l : List Waits). BecomeInOrder l end end) (sym none) refl)
