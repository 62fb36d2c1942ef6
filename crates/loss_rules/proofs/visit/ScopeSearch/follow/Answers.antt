use Rattle.std.proofs.Common.{List, ◌++◌, ◌∙◌, ap, map}
use Rattle.std.proofs.lemmas.List.{take_all}
use Rattle.loss_rules.specs.declared.relabel.Relabel.{Relabel}
use Rattle.loss_rules.proofs.Visits.{followed}
use Rattle.loss_rules.proofs.visit.ScopeSearch.follow.Goals as goal

pub loop-relabel-preserved : goal.loop-relabel-preserved
loop-relabel-preserved g c = record {
  marks = c.loop-relabel.invariant.marks;
  ahead = followed c.args.self.now.ahead.items c.loop-relabel.self.ahead.items c.push.new.self.items c.args.relabels.now c.loop-relabel.relabel-index _ c.loop-relabel-test.true c.loop-relabel.invariant.ahead c.in_ok-push.ensures.items;
}

pub returns-clause-ahead : goal.returns-clause-ahead
returns-clause-ahead g c =
    c.loop-relabel.invariant.ahead
    ∙ ap (λ (l : List Relabel). c.args.self.now.ahead.items ++ map (λ (relabel : Relabel). relabel.target) l) (take_all c.loop-relabel.relabel-index c.args.relabels.now c.loop-relabel-test.false)
