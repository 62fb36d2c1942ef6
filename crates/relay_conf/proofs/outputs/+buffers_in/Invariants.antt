use Rattle.std.proofs.Common.{◌≡◌, ◌+◌, drop, map}
use Rattle.conf_text.specs.Trees.{trees}
use Rattle.conf_text.specs.Views.{tree_of}
use Rattle.relay_conf.proofs.Counting.{trees_buffers}
use Rattle.relay_conf.proofs.outputs.+buffers_in.Given as goal

abbrev pub invariant-loop-child : goal.invariant-loop-child
invariant-loop-child g l = l.count + trees_buffers (trees (map tree_of (drop l.child-index l.child-items))) ≡ l.initial.count + trees_buffers (trees (map tree_of l.child-items))
