use Rattle.std.proofs.Common.{◌≡◌, refl, rules}
use Rattle.forward_core.specs.Client.{Ready}
use Rattle.tcp_courier.proofs.Going.{Greets-none, Greets-trans, Greets-written, Greets-heard, greeted}
use Rattle.tcp_courier.proofs.exchange.greet.Goals as goal

pub loop-init : goal.loop-init
loop-init g c = (refl, Greets-none (g.W.Wire.traffic c.args.line.now.wire) c.args.session.now)

pub returns-then-ready-clause-greets : goal.returns-then-ready-clause-greets
returns-then-ready-clause-greets g c =
    let traffic = g.W.Wire.traffic in
    let ready : c.write_out.new.session.phase ≡ Ready = search rules in
    greeted (traffic c.args.line.now.wire) (traffic c.write_out.new.line.wire) c.args.session.now c.write_out.new.session
    (Greets-trans (traffic c.args.line.now.wire) (traffic c.loop.line.wire) (traffic c.write_out.new.line.wire) c.args.session.now c.loop.session c.write_out.new.session c.loop.invariant.1
    (Greets-written (traffic c.loop.line.wire) (traffic c.write_out.new.line.wire) c.loop.session c.write_out.new.session c.in_ok-write_out.ensures.rest c.in_ok-write_out.ensures.written))
    ready

pub loop-preserved : goal.loop-preserved
loop-preserved g c =
    let traffic = g.W.Wire.traffic in
    let heard = c.in_ok-evidence.ensures.came in (
      search rules,
      Greets-trans (traffic c.args.line.now.wire) (traffic c.write_out.new.line.wire) (traffic c.hear.new.line.wire) c.args.session.now c.write_out.new.session c.hear.new.session
          (Greets-trans (traffic c.args.line.now.wire) (traffic c.loop.line.wire) (traffic c.write_out.new.line.wire) c.args.session.now c.loop.session c.write_out.new.session c.loop.invariant.1
          (Greets-written (traffic c.loop.line.wire) (traffic c.write_out.new.line.wire) c.loop.session c.write_out.new.session c.in_ok-write_out.ensures.rest c.in_ok-write_out.ensures.written))
          (Greets-heard (traffic c.write_out.new.line.wire) (traffic c.hear.new.line.wire) c.write_out.new.session c.hear.new.session heard.0 _ heard.1 heard.2),
    )
