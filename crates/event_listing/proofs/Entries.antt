-- Stored entries one after another are one list only: events whose entries a chunk's bytes begin
-- with are its first.
use Rattle.std.proofs.Common.{ℕ, ◌≡◌, List, [], ◌∷◌, ◌++◌, length, refl, sym, ap, ◌∙◌, subst, arith, append_assoc, append-nil}
use Rattle.std.specs.List.{AllByRecursion, concat}
use Rattle.std.proofs.lemmas.List.{length-append}
use Rattle.msgpack_bytes.specs.Laws.{HasOneFront}
use Rattle.event_modes.specs.Rows.{IsStored}
use Rattle.sink_series.specs.Events.{Event, under}
use Rattle.event_listing.specs.Choices.{Chosen}
use Rattle.event_listing.specs.Forms.{Under, spelled_run, IsIn}
use Rattle.event_listing.specs.Lines.{ArePrinted, PrintsAll, PrintsSome}
use Rattle.event_listing.specs.Live.{PrintsFirstOf}
use Rattle.event_listing.proofs.Items.{spelled_some}

event_with : List ℕ → List ℕ → Event
event_with tag entry = record { tag = tag; entry = entry }

same_event : (event : Event) (tag entry : List ℕ) → event.tag ≡ tag → event.entry ≡ entry → event_with tag entry ≡ event
unfolding event_with
same_event event tag entry t e = ap (λ z. event_with z entry) (sym t) ∙ ap (λ z. event_with event.tag z) (sym e)

-- the entries that are left behind the first, whose bytes these are
record LeavesEntries (tag : List ℕ) (events : List Event) (entries : List (List ℕ)) (rest : List ℕ) : Type 0 where
  left : List (List ℕ)
  whole : under tag entries ≡ events ++ under tag left
  stored : AllByRecursion IsStored left
  rest_is : rest ≡ concat left

first_entries : HasOneFront → (tag : List ℕ) (events : List Event) (entries : List (List ℕ)) (rest : List ℕ) → AllByRecursion (IsIn (Under tag)) events → AllByRecursion IsStored entries
    → spelled_run (Under tag) events ++ rest ≡ concat entries → LeavesEntries tag events entries rest
unfolding event_with
first_entries law tag [] entries rest each stored e = record { left = entries; whole = refl; stored = stored; rest_is = e }
first_entries law tag (event ∷ events) [] rest each stored e =
    absurd (omega (arith, ap length e, spelled_some (Under tag) event each.0, length-append (event.entry ++ spelled_run (Under tag) events) rest, length-append event.entry (spelled_run (Under tag) events)))
first_entries law tag (event ∷ events) (entry ∷ entries) rest each stored e =
    let run = spelled_run (Under tag) events in
    let f = law event.entry entry (run ++ rest) (concat entries) each.0.0.stored.item stored.0.item (sym (append_assoc event.entry run rest) ∙ e) in
    let more = first_entries law tag events entries rest each.1 stored.1 f.1 in
    record {
      left = more.left;
      whole = ap (λ z. z ∷ under tag entries) (same_event event tag entry each.0.1 f.0) ∙ ap (λ z. event ∷ z) more.whole;
      stored = more.stored;
      rest_is = more.rest_is;
    }

none_left : (tag : List ℕ) (left : List (List ℕ)) → AllByRecursion IsStored left → [] ≡ concat left → left ≡ []
none_left tag [] stored e = refl
none_left tag (entry ∷ left) stored e = absurd (omega (arith, ap length e, ap length stored.0.kept.is_stored, length-append entry (concat left)))

-- all entries of a chunk are printed
pub all_entries : HasOneFront → (chosen : Chosen) (tag : List ℕ) (entries : List (List ℕ)) (text : List ℕ) → AllByRecursion IsStored entries → PrintsAll (Under tag) chosen (concat entries) text []
    → ArePrinted chosen (under tag entries) text
all_entries law chosen tag entries text stored all =
    let found = first_entries law tag all.events entries [] all.each stored (sym all.whole) in
    let none = none_left tag found.left found.stored found.rest_is in
    let whole : under tag entries ≡ all.events = found.whole ∙ ap (λ z. all.events ++ under tag z) none ∙ append-nil all.events in
    subst (λ es. ArePrinted chosen es text) (sym whole) all.printed

-- the first of them are
pub some_entries : HasOneFront → (chosen : Chosen) (tag : List ℕ) (entries : List (List ℕ)) (text : List ℕ) → AllByRecursion IsStored entries → PrintsSome (Under tag) chosen (concat entries) text
    → PrintsFirstOf chosen (under tag entries) text
some_entries law chosen tag entries text stored some =
    let found = first_entries law tag some.events entries some.rest some.each stored (sym some.whole) in
    record { first = some.events; others = under tag found.left; whole = found.whole; printed = some.printed }
