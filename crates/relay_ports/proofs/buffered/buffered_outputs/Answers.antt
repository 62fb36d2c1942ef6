use Rattle.std.proofs.Common.{◌++◌, ◌∙◌, sym}
use Rattle.std.proofs.lemmas.List.{nil_from_length}
use Rattle.std.specs.List.{flat_map}
use Rattle.std.specs.Vec.Iter.{into_iter_items}
use Rattle.relay_ports.specs.Parts.{of_scope}
use Rattle.relay_ports.proofs.Spreading.{spread, spread_whole}
use Rattle.relay_ports.proofs.buffered.buffered_outputs.Goals as goal

pub loop-scope-preserved : goal.loop-scope-preserved
loop-scope-preserved g c =
    spread of_scope c.loop-scope.all.items c.add_scope.new.all.items (into_iter_items c.loop-scope.rest) (into_iter_items c.next.new.self) c.in-Some.scope (flat_map of_scope c.args.scopes.items)
    c.in_ok-add_scope.ensures c.in-Some.ensures.items c.loop-scope.invariant

pub returns : goal.returns
returns g c = spread_whole of_scope c.loop-scope.all.items (into_iter_items c.loop-scope.rest) (flat_map of_scope c.args.scopes.items) (nil_from_length _ (sym c.loop-scope.rest.rest.ok.0 ∙ c.in_default.ensures.cases.0)) c.loop-scope.invariant
