use Rattle.std.proofs.Common.{ℕ, ◌≡◌, List, get_or, IsTrue, Bool, Result, Ok, Err, refl, sym, subst}
use Rattle.std.specs.Prelude.{MatchResult}
use Rattle.std.specs.Result.{is_ok}
use Rattle.event_modes.specs.declared.fault.ModeFault.{ModeFault}
use Rattle.event_modes.specs.declared.entry.Event.{Event}
use Rattle.msgpack_bytes.specs.Item.{IsItemWithin}
use Rattle.event_modes.specs.Entry.{IsEntry, stored_entry}
use Rattle.event_modes.specs.Rows.{IsStored}
use Rattle.event_modes.specs.Faults.{EntryFault}
use Rattle.event_modes.proofs.Again.{some_byte, is_kept}
use Rattle.event_modes.proofs.Only.{good_entry}
use Rattle.event_modes.proofs.entries.is_stored.Goals as goal

pub bounds-entry-0 : goal.bounds-entry-0
bounds-entry-0 c = some_byte c.args.entry.now c.requires

kept : (entry : List ℕ) (r : Result Event ModeFault) → IsItemWithin entry → get_or entry 0 0 ≡ 0x92 → MatchResult r (λ event. IsEntry entry (stored_entry event.time.now event.fields.now)) (EntryFault entry)
    → (IsTrue (is_ok r) → IsStored entry) × (IsStored entry → IsTrue (is_ok r))
kept entry (Ok event) t f m = (λ _. is_kept entry (stored_entry event.time.now event.fields.now) t f m, λ _. refl)
kept entry (Err fault) t f m = (λ x. absurd cc, λ s. absurd (good_entry fault entry (entry, s.kept) m))

pub returns-then-entry : goal.returns-then-entry
returns-then-entry c =
    subst (λ (b : Bool). (IsTrue b → IsStored c.args.entry.now) × (IsStored c.args.entry.now → IsTrue b)) (sym c.is_ok.ensures.value)
    (kept c.args.entry.now c.entry_of.result c.requires c.if-entry.true c.entry_of.ensures)
