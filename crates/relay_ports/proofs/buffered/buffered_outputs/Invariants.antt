use Rattle.std.proofs.Common.{◌≡◌, ◌++◌}
use Rattle.std.specs.List.{flat_map}
use Rattle.std.specs.Vec.Iter.{into_iter_items, into_iter_len}
use Rattle.relay_ports.specs.Parts.{of_scope}
use Rattle.relay_ports.proofs.buffered.buffered_outputs.Given as goal

abbrev pub invariant-loop-scope : goal.invariant-loop-scope
invariant-loop-scope g l = l.all.items ++ flat_map of_scope (into_iter_items l.rest) ≡ flat_map of_scope l.fn.scopes.items

abbrev pub decreases-loop-scope : goal.decreases-loop-scope
decreases-loop-scope g l = into_iter_len l.rest
