use Rattle.std.proofs.Common.{◌≡◌, take}
use Rattle.std.specs.Prelude.{None}
use Rattle.std.specs.List.{find, flat_map}
use Rattle.relay_conf.specs.Buffers.{buffer_number}
use Rattle.relay_net.specs.Outputs.{is_numbered}
use Rattle.way_listing.proofs.outputs.in_scope.Given as goal

abbrev pub invariant-loop-rule : goal.invariant-loop-rule
invariant-loop-rule g l = find (λ output. is_numbered (buffer_number output) l.buffer.0) (flat_map (λ rule. rule.outputs.items) (take l.rule-index l.scope.matches.items)) ≡ None
