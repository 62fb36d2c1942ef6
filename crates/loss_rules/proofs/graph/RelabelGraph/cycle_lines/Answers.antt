use Rattle.std.proofs.Common.{◌≡◌, [], List, length, ap, arith}
use Rattle.loss_rules.specs.Graphs.{IsOnCycle}
use Rattle.loss_rules.specs.declared.relabel.Relabel.{Relabel}
use Rattle.loss_rules.proofs.Cycles.{before-more, before-all}
use Rattle.loss_rules.proofs.Lines.{lines_are}
use Rattle.loss_rules.proofs.graph.RelabelGraph.cycle_lines.Goals as goal

pub loop-scope-preserved : goal.loop-scope-preserved
loop-scope-preserved g c = before-more c.args.self.now c.loop-scope.scope [] c.loop-scope.lines.items c.add_lines_from.new.lines.items c.loop-scope.invariant c.in_ok-add_lines_from.ensures

pub returns : goal.returns
returns g c =
    let seen = ap (λ (x : List (List Relabel)). length x) c.self.view_is in
    let count : c.loop-scope.scope ≡ length c.args.self.now = omega (arith, c.len-scope-end.ensures, c.self.inside.scopes.ok.0) in
    lines_are (IsOnCycle c.args.self.now) c.loop-scope.lines.items c.put_in_order.new.lines.items (before-all c.args.self.now c.loop-scope.scope [] c.loop-scope.lines.items count c.loop-scope.invariant) c.put_in_order.ensures.rise c.put_in_order.ensures.same
