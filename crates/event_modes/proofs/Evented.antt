-- Faults of events.
use Rattle.std.proofs.Common.{ℕ, List, [], ◌∷◌, Err, inr}
use Rattle.event_modes.specs.declared.fault.ModeFault.{ModeFault}
use Rattle.event_modes.specs.declared.fault.FeedError.{FeedError}
use Rattle.event_modes.specs.declared.fault.FeedError.TheVariants.{Memory, Fault}
use Rattle.msgpack_bytes.specs.Containers.{IsArray}
use Rattle.event_modes.specs.Places.{Finds}
use Rattle.event_modes.specs.Faults.{EventFault, EntryFault}

-- a fault of an event is one of its entry
pub entry_fault : (bytes time fields : List ℕ) (fault : ModeFault) → IsArray (time ∷ fields ∷ []) bytes → EventFault time fields fault → EntryFault bytes fault
entry_fault bytes time fields fault a p = inr (time, fields, a, p)

-- where nothing was found, what is said of the fault alone matters
pub failed : {Y : Type 0} (Q : Y → Type 0) {F G : ModeFault → Type 0} (e : FeedError) → ((fault : ModeFault) → F fault → G fault) → Finds {X = Unit {0}} (λ _. Unit {0}) F (Err e) → Finds Q G (Err e)
failed Q Memory f p = tt
failed Q (Fault fault) f p = f fault p
