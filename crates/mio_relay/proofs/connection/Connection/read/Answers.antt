use Rattle.std.proofs.Common.{◌∙◌, arith, inl, inr, refl}
use Rattle.mio_relay.proofs.Reading.{lanes_more, may_at_first, numbered_more, received_more, same_more}
use Rattle.mio_relay.proofs.connection.Connection.read.Goals as goal

pub loop-pieces-preserved : goal.loop-pieces-preserved
loop-pieces-preserved g c =
    let was = c.loop-pieces.invariant in
    let may = c.wants_reading.ensures c.if-not-wants_reading.false in
    record {
      same = same_more _ _ _ was.same c.in_ok-receive_piece.ensures.same;
      lanes = lanes_more _ _ _ was.lanes c.in_ok-receive_piece.ensures.lanes;
      time = c.in_ok-receive_piece.ensures.time ∙ was.time;
      only = inl (may_at_first _ _ was.only may);
      received = received_more _ _ _ _ was.received may c.in_ok-receive_piece.ensures.received;
      numbered = numbered_more c.args.self.now c.loop-pieces.self c.receive_piece.new.self _ _ _ may was.numbered c.in_ok-receive_piece.ensures.numbered;
      drawn = omega (arith, was.drawn, c.receive_piece.ensures.drawn);
    }

pub returns-in_err-receive_piece-clause-same : goal.returns-in_err-receive_piece-clause-same
returns-in_err-receive_piece-clause-same g c = same_more _ _ _ c.loop-pieces.invariant.same c.in_err-receive_piece.ensures.same

pub returns-in_err-receive_piece-clause-lanes : goal.returns-in_err-receive_piece-clause-lanes
returns-in_err-receive_piece-clause-lanes g c = lanes_more _ _ _ c.loop-pieces.invariant.lanes c.in_err-receive_piece.ensures.lanes

pub returns-in_err-receive_piece-clause-only : goal.returns-in_err-receive_piece-clause-only
returns-in_err-receive_piece-clause-only g c = inl (may_at_first _ _ c.loop-pieces.invariant.only (c.wants_reading.ensures c.if-not-wants_reading.false))

pub returns-then-not-wants_reading-clause-only : goal.returns-then-not-wants_reading-clause-only
returns-then-not-wants_reading-clause-only g c = elim c.loop-pieces.invariant.only [ inl may ↦ inl may | inr same ↦ inr (refl, same) ]

pub returns-clause-only : goal.returns-clause-only
returns-clause-only g c = elim c.loop-pieces.invariant.only [ inl may ↦ inl may | inr same ↦ inr (refl, same) ]
