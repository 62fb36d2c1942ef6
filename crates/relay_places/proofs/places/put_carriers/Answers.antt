use Rattle.std.proofs.Common.{◌≡◌, ◌+◌, length, map, take, arith}
use Rattle.std.specs.Borrow.{Bor}
use Rattle.std.specs.List.{flat_map}
use Rattle.std.specs.Prelude.{string_bytes}
use Rattle.std.proofs.lemmas.List.{length-map}
use Rattle.relay_conf.specs.declared.output.Output.{Output}
use Rattle.relay_places.specs.Names.{carrier_names}
use Rattle.relay_places.proofs.Growing.{grown, map_step}
use Rattle.relay_places.proofs.Spanning.{carriers_more, spans_more}
use Rattle.relay_places.proofs.places.put_carriers.Goals as goal

pub loop-output-preserved : goal.loop-output-preserved
loop-output-preserved g c =
    let read = λ (found : Bor (Output g.row.A.Denot)). found.now in
    let folder = c.args.folder.now in
    let at = c.loop-output.output-index in
    let done = map read (take at c.args.outputs.now) in
    let all = map read (take (at + 1) c.args.outputs.now) in
    let one = c.output-item.result.now in
    let more = map_step read c.args.outputs.now at c.output-item.result c.loop-output-test.true c.output-item.is in
    let base = map string_bytes c.args.names.now.items in
    let names = map string_bytes c.loop-output.names.items in
    let names' = map string_bytes c.put_carriers_of.new.names.items in
    let added = c.in_ok-put_carriers_of.ensures in
    let first : c.len-first.result ≡ length names = omega (arith, c.len-first.ensures, c.loop-output.names.ok.0, length-map c.loop-output.names.items (string_bytes {Z = g.row.A.Denot})) in
    let end : c.len-end.result ≡ length names' = omega (arith, c.len-end.ensures, c.put_carriers_of.new.names.ok.0, length-map c.put_carriers_of.new.names.items (string_bytes {Z = g.row.A.Denot})) in
    record {
      names_are = grown base names (carrier_names folder one) names' (flat_map (carrier_names folder) done) (flat_map (carrier_names folder) all) c.loop-output.invariant.names_are added (carriers_more folder done one all more);
      spans_are = spans_more folder base names names' done one all c.loop-output.spans.items c.push.new.self.items (length c.args.names.now.items) c.len-first.result c.len-end.result
          (length-map c.args.names.now.items (string_bytes {Z = g.row.A.Denot})) c.loop-output.invariant.names_are added first end more c.loop-output.invariant.spans_are c.in_ok-push.ensures.items;
    }
