use Rattle.std.proofs.Common.{◌≡◌, ◌++◌, map, take}
use Rattle.loss_rules.proofs.visit.ScopeSearch.follow.Given as goal

abbrev pub invariant-loop-relabel : goal.invariant-loop-relabel
invariant-loop-relabel g l = record {
  marks : l.self.marks.items ≡ l.fn.self.marks.items;
  ahead : l.self.ahead.items ≡ l.fn.self.ahead.items ++ map (λ relabel. relabel.target) (take l.relabel-index l.relabels);
}
