use Rattle.std.proofs.Common.{◌≡◌, ℕ, ◌<◌, get_or}
use Rattle.std.specs.declared.vec.Vec.{Vec}
use Rattle.custody_steps.specs.Held.{Held}
use Rattle.custody_steps.specs.WorldOf.{world_of, net_of}
use Rattle.relay_net.specs.Routed.{IsRoutedTag}
use Rattle.custody_steps.proofs.world.World.is_kept_anywhere.Given as goal

abbrev pub invariant-loop-tag : goal.invariant-loop-tag
invariant-loop-tag g l = (k : ℕ) (x : Vec ℕ g.row.A.Denot) → k < l.tag-index → get_or l.tag-items k x ≡ x
    → IsRoutedTag (net_of l.self) (record { host = l.host; port = l.port }) l.event.tag.items x.items × Held (world_of l.self) (record { tag = x.items; entry = l.event.entry.items }) → ⊥
