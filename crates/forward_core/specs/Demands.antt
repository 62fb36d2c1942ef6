-- What a server's session demands, and what it keeps of it.
use Rattle.std.specs.Prelude.{List, [], ◌∷◌}
use Rattle.std.specs.List.{flat_map}
use Rattle.ack_receipt.specs.Reservations.{Asked, asked_of}
use Rattle.event_modes.specs.Message.{Parts}
use Rattle.event_modes.specs.Reading.{meaning}
use Rattle.forward_core.specs.declared.fault.SessionFault.{SessionFault}
use Rattle.forward_core.specs.declared.demand.Demand.{Demand}
use Rattle.forward_core.specs.declared.demand.Demand.TheVariants as demand

-- what is wanted of the one who runs a session: to deliver what a message says, or to close the
-- connection
pub data Wanted : Type 0 where
  Delivers : (parts : Parts) → Wanted
  Closes : (fault : SessionFault) → Wanted

-- a demand without where it lies in memory
abbrev pub wanted : {A : Type 0} → Demand A → Wanted
wanted (demand.Deliver message) = Delivers (meaning message)
wanted (demand.Close fault) = Closes fault

-- what a message asks for that is to be delivered
abbrev pub asked_by : Wanted → List Asked
asked_by (Delivers parts) = asked_of parts ∷ []
asked_by (Closes fault) = []

-- what those of them ask for, in order
abbrev pub asked_in : List Wanted → List Asked
asked_in wants = flat_map asked_by wants
