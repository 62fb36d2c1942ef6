use Rattle.std.proofs.Common.{◌<◌, length, map, sym, ap, ◌∙◌, arith}
use Rattle.std.specs.Borrow.{Bor}
use Rattle.std.proofs.lemmas.List.{length-map, get_or-map, get_or_default}
use Rattle.relay_conf.specs.declared.output.Output.{Output}
use Rattle.relay_places.proofs.Pairing.{rows_more, rows_all}
use Rattle.relay_places.proofs.rows.rows_of.Goals as goal

pub loop-n-preserved : goal.loop-n-preserved
loop-n-preserved g c =
    let read = λ (found : Bor (Output g.row.A.Denot)). found.now in
    let outputs = c.args.outputs.now in
    let spans = c.args.spans.now in
    let output = c.index-outputs-n.result in
    let n = c.loop-n.n in
    let long = length-map outputs read in
    let one : n < length (map read outputs) = omega (arith, long) in
    let other : n < length spans = omega (arith, c.requires) in
    let output_is = ap read c.index-outputs-n.is ∙ sym (get_or-map read outputs n output output.now c.loop-n-test.true) in
    rows_more (map read outputs) spans n output.now _ c.loop-n.rows.items c.push.new.self.items c.in_ok-row.row
    one other output_is (get_or_default spans n _ _ other) c.loop-n.invariant c.in_ok-push.ensures.items c.in_ok-row.ensures

pub returns : goal.returns
returns g c =
    let read = λ (found : Bor (Output g.row.A.Denot)). found.now in
    let outputs = c.args.outputs.now in
    let spans = c.args.spans.now in
    let long = length-map outputs read in
    rows_all (map read outputs) spans c.loop-n.n c.loop-n.rows.items (omega (arith, long)) (omega (arith, c.requires)) c.loop-n.invariant
