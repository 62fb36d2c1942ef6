use Rattle.std.proofs.Common.{◌≡◌, ℕ, List, [], ◌∷◌, Result, Ok, Err, ap₂}
use Rattle.std.specs.Prelude.{MatchResult, IfOk}
use Rattle.event_modes.specs.declared.fault.ModeFault.{ModeFault}
use Rattle.event_modes.specs.declared.entry.Event.{Event}
use Rattle.msgpack_bytes.specs.Containers.{IsArray}
use Rattle.event_modes.specs.Entry.{IsTime, IsRecord, IsEntry, stored_entry}
use Rattle.event_modes.specs.Faults.{EventFault, EntryFault}
use Rattle.event_modes.proofs.Evented.{entry_fault}
use Rattle.event_modes.proofs.entry.entry_of.Goals as goal

entry_is : (bytes time fields : List ℕ) (r : Result Event ModeFault) → IsArray (time ∷ fields ∷ []) bytes
    → IfOk r (λ event. (event.time.now ≡ time) × (event.fields.now ≡ fields)) → MatchResult r (λ event. IsTime time × IsRecord fields) (EventFault time fields)
    → MatchResult r (λ event. IsEntry bytes (stored_entry event.time.now event.fields.now)) (EntryFault bytes)
entry_is bytes time fields (Ok event) a same p =
    record { time = time; fields = fields; array = a; is_time = p.0; is_record = p.1; is_stored = ap₂ stored_entry same.0 same.1 }
entry_is bytes time fields (Err fault) a same p = entry_fault bytes time fields fault a p

pub returns : goal.returns
returns c = entry_is c.args.entry.now c.in-Some.time.now c.in-Some.fields.now c.event_of.result c.in-Some.ensures.0 c.event_of.ensures.same c.event_of.ensures.event
