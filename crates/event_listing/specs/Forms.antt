-- How events are spelled in bytes, one after another.
use Rattle.std.specs.Prelude.{ℕ, ◌≡◌, ◌≢◌, List, ◌++◌}
use Rattle.std.specs.List.{flat_map}
use Rattle.event_modes.specs.Rows.{IsStored}
use Rattle.sink_series.specs.Events.{Event, IsEvent, item_of}
use Rattle.event_listing.specs.declared.form.Form.{Form as Spelling}
use Rattle.event_listing.specs.declared.form.Form.TheVariants as spelling

-- how events are spelled: each as an item of a sink, or as its stored entry alone, as in a chunk
-- that has this tag
pub data Form : Type 0 where
  Items : Form
  Under : (tag : List ℕ) → Form

-- the form, without where its tag lies in memory
abbrev pub form_of : Spelling → Form
form_of spelling.Items = Items
form_of (spelling.Under tag) = Under tag.now

-- the bytes of an event
abbrev pub spelled : Form → Event → List ℕ
spelled Items = item_of
spelled (Under tag) = λ event. event.entry

-- what can be spelled so
abbrev pub IsIn : Form → Event → Type 0
IsIn Items = IsEvent
IsIn (Under tag) = λ event. IsEvent event × (event.tag ≡ tag)

-- the bytes of events, one after another
abbrev pub spelled_run : Form → List Event → List ℕ
spelled_run form events = flat_map (spelled form) events

-- no event is whole at the front of the bytes
abbrev pub BeginsNo : Form → List ℕ → Type 0
BeginsNo form bytes = (event : Event) (rest : List ℕ) → IsIn form event → bytes ≢ spelled form event
    ++ rest

-- no stored entry is whole at the front of the bytes
abbrev pub BeginsNoEntry : List ℕ → Type 0
BeginsNoEntry bytes = (entry rest : List ℕ) → IsStored entry → bytes ≢ entry ++ rest
