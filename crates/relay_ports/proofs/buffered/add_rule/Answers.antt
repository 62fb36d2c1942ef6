use Rattle.std.proofs.Common.{◌++◌, ◌∙◌, sym}
use Rattle.std.proofs.lemmas.List.{nil_from_length}
use Rattle.std.specs.List.{flat_map}
use Rattle.std.specs.Vec.Iter.{into_iter_items}
use Rattle.relay_ports.specs.Parts.{listed}
use Rattle.relay_ports.proofs.Spreading.{spread, spread_whole}
use Rattle.relay_ports.proofs.buffered.add_rule.Goals as goal

pub loop-output-preserved : goal.loop-output-preserved
loop-output-preserved g c =
    spread listed c.loop-output.all.items c.add_output.new.all.items (into_iter_items c.loop-output.rest) (into_iter_items c.next.new.self) c.in-Some.output (c.args.all.now.items ++ flat_map listed c.args.rule.outputs.items)
    c.in_ok-add_output.ensures c.in-Some.ensures.items c.loop-output.invariant

pub returns : goal.returns
returns g c = spread_whole listed c.loop-output.all.items (into_iter_items c.loop-output.rest) (c.args.all.now.items ++ flat_map listed c.args.rule.outputs.items) (nil_from_length _ (sym c.loop-output.rest.rest.ok.0 ∙ c.in_default.ensures.cases.0)) c.loop-output.invariant
