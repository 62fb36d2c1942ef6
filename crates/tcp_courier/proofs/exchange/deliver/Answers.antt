use Rattle.std.proofs.Common.{◌≡◌, sym, subst, Bool, true, false, rules}
use Rattle.std.specs.Prelude.{IfOk}
use Rattle.ack_receipt.specs.Claims.{id_of}
use Rattle.tcp_courier.specs.Carrying.{NamesChunk}
use Rattle.tcp_courier.proofs.Going.{asked_phase, said_whole, delivered_unasked, delivered_asked, well_too}
use Rattle.tcp_courier.proofs.exchange.deliver.Goals as goal

pub returns-then-not-asks-clause-delivered : goal.returns-then-not-asks-clause-delivered
returns-then-not-asks-clause-delivered g c =
    let traffic = g.W.Wire.traffic in
    let chunk = c.args.chunk.now in
    let entries = c.args.entries.now in
    let greet = c.in_ok-greet.ensures.greets in
    let talk = greet.3 in
    let unasked : c.args.asks ≡ false = search rules in
    let whole =
    said_whole (traffic c.args.line.now.wire) (traffic c.greet.new.line.wire) (traffic c.write_out.new.line.wire) c.args.session.now c.greet.new.session c.send.new.self c.write_out.new.session
    greet.0 greet.1 chunk c.tag.result.now entries c.args.asks c.id.result c.requires.bare greet.3 c.in_ok-send.ensures.ok c.tag.ensures c.id.ensures
    c.in_ok-write_out.ensures.rest c.in_ok-write_out.ensures.written in
    delivered_unasked (traffic c.args.line.now.wire) (traffic c.write_out.new.line.wire) c.args.session.now.phase chunk entries c.args.asks greet.0 greet.1 whole.0 c.write_out.new.session.held unasked greet.2
    talk.framed whole.1 whole.2

pub returns-clause-names : goal.returns-clause-names
returns-clause-names g c =
    let chunk = c.args.chunk.now in
    let asked : c.args.asks ≡ true = search rules in
    subst (λ (b : Bool). IfOk c.acknowledged.result (NamesChunk b chunk)) (sym asked) (c.acknowledged.ensures.names (id_of chunk)
    (asked_phase c.greet.new.session c.send.new.self c.write_out.new.session chunk c.tag.result.now c.args.entries.now c.args.asks c.id.result
    c.in_ok-send.ensures.ok c.tag.ensures c.id.ensures c.in_ok-write_out.ensures.rest asked))

pub returns-clause-delivered : goal.returns-clause-delivered
returns-clause-delivered g c =
    let traffic = g.W.Wire.traffic in
    let chunk = c.args.chunk.now in
    let entries = c.args.entries.now in
    let greet = c.in_ok-greet.ensures.greets in
    let talk = greet.3 in
    let asked : c.args.asks ≡ true = search rules in
    let whole =
    said_whole (traffic c.args.line.now.wire) (traffic c.greet.new.line.wire) (traffic c.write_out.new.line.wire) c.args.session.now c.greet.new.session c.send.new.self c.write_out.new.session
    greet.0 greet.1 chunk c.tag.result.now entries c.args.asks c.id.result c.requires.bare greet.3 c.in_ok-send.ensures.ok c.tag.ensures c.id.ensures
    c.in_ok-write_out.ensures.rest c.in_ok-write_out.ensures.written in
    well_too c.acknowledged.result
    (c.acknowledged.ensures.came (id_of chunk)
    (asked_phase c.greet.new.session c.send.new.self c.write_out.new.session chunk c.tag.result.now entries c.args.asks c.id.result
    c.in_ok-send.ensures.ok c.tag.ensures c.id.ensures c.in_ok-write_out.ensures.rest asked))
    (λ heard.
    delivered_asked (traffic c.args.line.now.wire) (traffic c.write_out.new.line.wire) (traffic c.acknowledged.new.line.wire) c.args.session.now.phase chunk entries c.args.asks greet.0
    greet.1 whole.0 c.write_out.new.session.held heard.0 greet.2 talk.framed whole.1 whole.2 heard.1 heard.2)
