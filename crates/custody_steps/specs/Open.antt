-- What is known of every delivery: it is of a message that was sent, and that has no loop.
use Rattle.std.specs.Prelude.{◌≡◌, ◌<◌, ℕ, List, length, Some, slice_get}
use Rattle.custody_store.specs.Book.{Message, Delivery}
use Rattle.relay_net.specs.Network.{Network}
use Rattle.relay_net.specs.Ways.{HasLoop}

-- Each delivery is of a message that was sent.
abbrev pub AreOfMessages : List Message → List Delivery → Type 0
AreOfMessages messages deliveries = (k : ℕ) (d : Delivery) → slice_get deliveries k ≡ Some d
    → d.message < length messages

-- The way of each delivery's message ends.
abbrev pub HaveNoLoops : {A : Type 0} → Network A → List Message → List Delivery → Type 0
HaveNoLoops net messages deliveries = (k : ℕ) (d : Delivery) (m : Message)
    → slice_get deliveries k ≡ Some d → slice_get messages d.message ≡ Some m
    → ¬ HasLoop net d.entrance d.tag m.entries
