use Rattle.std.proofs.Common.{◌++◌, ◌∙◌, sym}
use Rattle.std.proofs.lemmas.List.{nil_from_length}
use Rattle.std.specs.List.{flat_map}
use Rattle.std.specs.Vec.Iter.{into_iter_items}
use Rattle.relay_ports.specs.Parts.{of_rule}
use Rattle.relay_ports.proofs.Spreading.{spread, spread_whole}
use Rattle.relay_ports.proofs.buffered.add_scope.Goals as goal

pub loop-rule-preserved : goal.loop-rule-preserved
loop-rule-preserved g c =
    spread of_rule c.loop-rule.all.items c.add_rule.new.all.items (into_iter_items c.loop-rule.rest) (into_iter_items c.next.new.self) c.in-Some.rule (c.args.all.now.items ++ flat_map of_rule c.args.scope.matches.items)
    c.in_ok-add_rule.ensures c.in-Some.ensures.items c.loop-rule.invariant

pub returns : goal.returns
returns g c = spread_whole of_rule c.loop-rule.all.items (into_iter_items c.loop-rule.rest) (c.args.all.now.items ++ flat_map of_rule c.args.scope.matches.items) (nil_from_length _ (sym c.loop-rule.rest.rest.ok.0 ∙ c.in_default.ensures.cases.0)) c.loop-rule.invariant
