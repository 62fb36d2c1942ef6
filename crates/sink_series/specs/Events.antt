-- Events in a sink, and the bytes that hold them.
use Rattle.std.specs.Prelude.{ℕ, ◌≡◌, ◌≢◌, ◌≤◌, List, [], ◌∷◌, ◌++◌, length, drop, map}
use Rattle.std.specs.List.{AllByRecursion, flat_map}
use Rattle.msgpack_bytes.specs.Spelling.{str_of}
use Rattle.event_modes.specs.Message.{longest_tag}
use Rattle.event_modes.specs.Rows.{IsStored}

-- a tag, and an entry as it is stored: 92, the time's bytes and the record's
pub record Event : Type 0 where
  pub tag : List ℕ
  pub entry : List ℕ

-- the tag is short enough, and the entry is a stored one
pub record IsEvent (event : Event) : Type 0 where
  pub short : length event.tag ≤ longest_tag
  pub stored : IsStored event.entry

-- the item of an event: an array of three, the tag as a str, the time and the record, these two as
-- they stand behind the entry's first byte
unfoldable pub item_of : Event → List ℕ
item_of event = 0x93 ∷ (str_of event.tag ++ drop 1 event.entry)

-- the items of events, one after another
abbrev pub run_of : List Event → List ℕ
run_of events = flat_map item_of events

-- these entries, each under the tag
abbrev pub under : List ℕ → List (List ℕ) → List Event
under tag entries = map (λ entry. record { tag = tag; entry = entry }) entries

-- no item of an event is whole at the front of the bytes
abbrev pub BeginsNone : List ℕ → Type 0
BeginsNone bytes = (event : Event) (rest : List ℕ) → IsEvent event → bytes ≢ item_of event ++ rest

-- the content of the bytes: their items up to the first place where none is whole
pub record Holds (bytes : List ℕ) (events : List Event) : Type 0 where
  pub each : AllByRecursion IsEvent events
  pub rest : List ℕ
  pub whole : bytes ≡ run_of events ++ rest
  pub torn : BeginsNone rest

-- the content of the bytes are so many events, and behind them stand so many bytes
pub record Counts (bytes : List ℕ) (count torn : ℕ) : Type 0 where
  pub events : List Event
  pub holds : Holds bytes events
  pub count_is : count ≡ length events
  pub torn_is : torn ≡ length holds.rest

-- the events of writes, of which the last is the first here, in the order in which they were
-- written
abbrev pub written_by : List (List Event) → List Event
written_by [] = []
written_by (last ∷ before) = written_by before ++ last
