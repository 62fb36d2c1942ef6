use Rattle.std.proofs.Common.{◌≡◌, ◌++◌}
use Rattle.std.specs.List.{flat_map}
use Rattle.std.specs.Vec.Iter.{into_iter_items, into_iter_len}
use Rattle.relay_ports.specs.Parts.{listed}
use Rattle.relay_ports.proofs.buffered.add_rule.Given as goal

abbrev pub invariant-loop-output : goal.invariant-loop-output
invariant-loop-output g l = l.all.items ++ flat_map listed (into_iter_items l.rest) ≡ l.initial.all.items ++ flat_map listed l.fn.rule.outputs.items

abbrev pub decreases-loop-output : goal.decreases-loop-output
decreases-loop-output g l = into_iter_len l.rest
