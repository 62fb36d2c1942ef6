-- The world that the code's value stands for.
use Rattle.relay_net.specs.Network.{Network}
use Rattle.custody_steps.specs.World.{World}
use Rattle.custody_steps.specs.WorldFrom.{world_from}
use Rattle.custody_steps.specs.declared.world.World.{World as Kept}

-- the network that it is of
abbrev pub net_of : {A : Type 0} → Kept A → Network A
net_of kept = kept.net.now

-- the world, as the steps speak of it
abbrev pub world_of : {A : Type 0} → Kept A → World
world_of kept = world_from kept.places kept.book
