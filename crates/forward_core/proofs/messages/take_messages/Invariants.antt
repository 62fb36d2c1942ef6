use Rattle.std.proofs.Common.{◌≡◌, ◌-◌, length, map}
use Rattle.forward_core.specs.declared.taken.Standing.TheVariants as stage
use Rattle.forward_core.specs.Demands.{wanted}
use Rattle.forward_core.proofs.Streaming.{Reading}
use Rattle.forward_core.proofs.messages.take_messages.Given as goal

abbrev pub invariant-items : goal.invariant-items
invariant-items g l = Reading l.bytes l.taken.len (map wanted l.taken.demands.items)
    × (l.taken.stage ≡ stage.Open) × (l.taken.sends.items ≡ l.fn.sends.items)

abbrev pub decreases-items : goal.decreases-items
decreases-items g l = length l.bytes - l.taken.len
