use Rattle.std.proofs.Common.{◌≡◌, ◌++◌}
use Rattle.std.specs.List.{flat_map}
use Rattle.std.specs.Vec.Iter.{into_iter_items, into_iter_len}
use Rattle.relay_ports.specs.Parts.{of_rule}
use Rattle.relay_ports.proofs.buffered.add_scope.Given as goal

abbrev pub invariant-loop-rule : goal.invariant-loop-rule
invariant-loop-rule g l = l.all.items ++ flat_map of_rule (into_iter_items l.rest) ≡ l.initial.all.items ++ flat_map of_rule l.fn.scope.matches.items

abbrev pub decreases-loop-rule : goal.decreases-loop-rule
decreases-loop-rule g l = into_iter_len l.rest
