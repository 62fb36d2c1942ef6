use Rattle.std.proofs.Common.{ℕ, List, [], take, ◌∙◌, subst}
use Rattle.relay_sockets.specs.Traffics.{Conveys}
use Rattle.tcp_courier.proofs.Going.{written_more}
use Rattle.tcp_courier.proofs.exchange.write_out.Goals.{in-Some, in-None, in-Again}
use Rattle.tcp_courier.proofs.exchange.write_out.Goals as goal

pub loop-preserved : goal.loop-preserved
loop-preserved g c =
    let traffic = g.W.Wire.traffic in
    let before = c.loop.invariant in
    elim c.match-put.branch [
      | in-Some w ↦
          let more =
          written_more (traffic c.args.line.now.wire) (traffic c.loop.line.wire) (traffic c.put.new.self.wire) c.args.session.now c.loop.session c.match-put.session before.2 w.in-Some.n
          before.1 before.3 before.4
          (subst (λ (bytes : List ℕ). Conveys (traffic c.loop.line.wire) (traffic c.put.new.self.wire) (take w.in-Some.n bytes) []) c.outgoing-in-loop.ensures w.in-Some.ensures.bytes.1)
          (w.session-is ∙ w.sent.ensures) in
          (w.in-Some.ensures.origin ∙ before.0, more.0, more.1, more.2, more.3)
      | in-None w ↦
          let more =
          written_more (traffic c.args.line.now.wire) (traffic c.loop.line.wire) (traffic c.put.new.self.wire) c.args.session.now c.loop.session c.match-put.session before.2 0
          before.1 before.3 before.4 w.in-None.ensures.bytes w.session-is in
          (w.in-None.ensures.origin ∙ before.0, more.0, more.1, more.2, more.3)
      | in-Again w ↦
          let more =
          written_more (traffic c.args.line.now.wire) (traffic c.loop.line.wire) (traffic c.put.new.self.wire) c.args.session.now c.loop.session c.match-put.session before.2 0
          before.1 before.3 before.4 w.in-Again.ensures.bytes w.session-is in
          (w.in-Again.ensures.origin ∙ before.0, more.0, more.1, more.2, more.3)
    ]
