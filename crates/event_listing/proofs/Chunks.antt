-- The events of live chunks, printed chunk by chunk.
use Rattle.std.proofs.Common.{ℕ, ◌≡◌, ◌+◌, ◌≤◌, Bool, cond, List, [], ◌∷◌, ◌++◌, length, Option, Some, None, Result, Ok, Err, inl, inr, refl, sym, ap, ◌∙◌, subst, arith, append_assoc, append-nil}
use Rattle.std.specs.Prelude.{IfSome}
use Rattle.std.specs.Option.{option_map_or}
use Rattle.std.specs.List.{AllByRecursion, concat, flat_map}
use Rattle.std.specs.List.Sorted.{IsStrictlySortedBy}
use Rattle.std.specs.Map.{keys_of, lookup}
use Rattle.std.specs.Ordering.{nat_cmp}
use Rattle.std.specs.BTreeMap.{is_at}
use Rattle.std.specs.declared.cmp.Ordering.TheVariants.{Less}
use Rattle.buffer_state.specs.Slots.{Slot, Slots, chunks_in}
use Rattle.buffer_state.specs.State.{Chunk, Numbered, State}
use Rattle.buffer_state.proofs.Rooms.{less as less_of}
use Rattle.buffer_state.proofs.Serials.{at_itself, at_below}
use Rattle.chunk_journal.specs.Meaning.{EndsUnsealed, IsDamaged}
use Rattle.chunk_journal.specs.Places.{Spots, ArePlaced, entries_at, places_at}
use Rattle.chunk_journal.specs.declared.outline.Outlined.{Outlined}
use Rattle.chunk_journal.specs.declared.places.Extent.{Extent}
use Rattle.event_modes.specs.Rows.{IsStored}
use Rattle.msgpack_bytes.specs.Laws.{HasOneFront}
use Rattle.folder_listing.specs.Findings.{IsSealedIn}
use Rattle.folder_listing.specs.Placed.{known_at, known_from}
use Rattle.folder_listing.proofs.Left.{left_front}
use Rattle.program_text.proofs.ListingSteps.{none_listed}
use Rattle.sink_series.specs.Events.{Event, under}
use Rattle.event_listing.specs.Choices.{Chosen}
use Rattle.event_listing.specs.Forms.{Under}
use Rattle.event_listing.specs.Lines.{ArePrinted, IsPrintedOf, PrintsAll, PrintsSome}
use Rattle.event_listing.specs.Live.{chunk_events, live_events, PrintsChunk, PrintsFirstOf, PrintsJournal, PrintsLive, IsJournalBegun, IsJournalEnd}
use Rattle.event_listing.specs.Reading.{IsEnd, PrintsFile}
use Rattle.event_listing.specs.Shown.{Shown, ShowsAll}
use Rattle.event_listing.specs.declared.journal.JournalEnd.TheVariants.{Sealed, Unsealed, Damaged}
use Rattle.event_listing.specs.declared.sink.End.{End}
use Rattle.event_listing.specs.declared.sink.End.TheVariants.{Ended}
use Rattle.event_listing.specs.declared.stop.Stop.{Stop}
use Rattle.event_listing.proofs.Entries.{all_entries, some_entries}
use Rattle.event_listing.proofs.Listed.{listed_append}
use Rattle.event_listing.proofs.Outputs.{shown_behind, shown_so, shows_more, shows_none}
use Rattle.event_listing.proofs.Pieces.{some_of_all}

-- ---- one chunk

-- its bytes are read to their end
nothing_behind : (tag : List ℕ) (chosen : Chosen) (known : Option (List ℕ)) (text : List ℕ) (at : ℕ)
    → IfSome known (λ bytes. (rest : List ℕ) × PrintsAll (Under tag) chosen bytes text rest × IsEnd bytes rest (Ended at 0)) → IfSome known (λ bytes. PrintsAll (Under tag) chosen bytes text [])
nothing_behind tag chosen None text at ends = tt
nothing_behind tag chosen (Some bytes) text at ends = subst (PrintsAll (Under tag) chosen bytes text) (empty ends.0 (sym ends.2.1)) ends.1
  where
    empty : (rest : List ℕ) → length rest ≡ 0 → rest ≡ []
    empty [] none = refl
    empty (x ∷ rest) none = absurd (omega (arith, none))

pub chunk_ended : (chosen : Chosen) (tag : List ℕ) (known : Option (List ℕ)) (old new : Shown) (at : ℕ) → PrintsFile (Under tag) chosen known old new (Ok (Ended at 0)) → PrintsChunk chosen tag known old new (Ok tt)
chunk_ended chosen tag known old new at file =
    record { text = file.text; shown = file.shown; ends = nothing_behind tag chosen known file.text at file.ends }

-- they aren't
begun_so : (tag : List ℕ) (chosen : Chosen) (known : Option (List ℕ)) (text : List ℕ) (end : End)
    → IfSome known (λ bytes. (rest : List ℕ) × PrintsAll (Under tag) chosen bytes text rest × IsEnd bytes rest end) → IfSome known (λ bytes. PrintsSome (Under tag) chosen bytes text)
begun_so tag chosen None text end ends = tt
begun_so tag chosen (Some bytes) text end ends = subst (λ z. PrintsSome (Under tag) chosen z text) (append-nil bytes) (some_of_all (Under tag) chosen bytes text ends.0 [] ends.1)

pub chunk_unread : (chosen : Chosen) (tag : List ℕ) (known : Option (List ℕ)) (old new : Shown) (end : End) (stop : Stop) → PrintsFile (Under tag) chosen known old new (Ok end) → PrintsChunk chosen tag known old new (Err stop)
chunk_unread chosen tag known old new end stop file =
    record { text = file.text; shown = shown_so old new file.text stop file.shown; ends = begun_so tag chosen known file.text end file.ends }

pub chunk_stopped : (chosen : Chosen) (tag : List ℕ) (known : Option (List ℕ)) (old new : Shown) (stop : Stop) → PrintsFile (Under tag) chosen known old new (Err stop) → PrintsChunk chosen tag known old new (Err stop)
chunk_stopped chosen tag known old new stop file = record { text = file.text; shown = file.shown; ends = file.ends }

-- the bytes that its reader has left at first
pub known_new : {F : Type 0} (bytes_of : F → Option (List ℕ)) (file given : F) (places wanted : List Extent) (done : ℕ) → file ≡ given → places ≡ wanted → done ≡ 0
    → known_at (bytes_of file) places done ≡ known_at (bytes_of given) wanted 0
known_new bytes_of file given places wanted done same there none =
    ap (λ z. known_at (bytes_of z) places done) same ∙ ap (λ z. known_at (bytes_of given) z done) there ∙ ap (λ z. known_at (bytes_of given) wanted z) none

-- its tag and its places, as they were given
pub its_chunk : (chosen : Chosen) (given tag : List ℕ) (spots : Spots) (serial : ℕ) (places : List Extent) (known : Option (List ℕ)) (old new : Shown) (result : Result (Unit {0}) Stop) → given ≡ tag → places ≡ places_at spots serial
    → PrintsChunk chosen given (known_at known places 0) old new result → PrintsChunk chosen tag (known_at known (places_at spots serial) 0) old new result
its_chunk chosen given tag spots serial places known old new result same there chunk =
    subst (λ ps. PrintsChunk chosen tag (known_at known ps 0) old new result) there (subst (λ t. PrintsChunk chosen t (known_at known places 0) old new result) same chunk)

-- ---- each chunk is found under its serial

abbrev pub IsFound : List Numbered → Numbered → Type 0
IsFound chunks numbered = lookup (is_at (nat_cmp numbered.0)) chunks ≡ Some numbered.1

-- the entries of this serial are those of the chunk
abbrev pub HasEntries : State → Numbered → Type 0
HasEntries s numbered = entries_at s numbered.0 ≡ concat numbered.1.entries

rising : (x : ℕ) (slots : Slots) → AllByRecursion (λ y. nat_cmp x y ≡ Less) (keys_of slots) → AllByRecursion (λ numbered. x + 1 ≤ numbered.0) (chunks_in slots)
rising x [] less = tt
rising x (slot ∷ slots) less = (omega (arith, less_of x slot.0 less.0), rising x slots less.1)

found_behind : (x : Numbered) (chunks some : List Numbered) → AllByRecursion (λ numbered. x.0 + 1 ≤ numbered.0) some → AllByRecursion (IsFound chunks) some → AllByRecursion (IsFound (x ∷ chunks)) some
found_behind x chunks [] most is = tt
found_behind x chunks (y ∷ some) most is = (
  ap (λ (b : Bool). cond b (Some x.1) (lookup (is_at (nat_cmp y.0)) chunks)) (at_below y.0 x.0 (let le = most.0 in omega (arith, le))) ∙ is.0,
  found_behind x chunks some most.1 is.1,
)

pub each_found : (slots : Slots) → IsStrictlySortedBy nat_cmp (keys_of slots) → AllByRecursion (IsFound (chunks_in slots)) (chunks_in slots)
unfolding IsStrictlySortedBy
each_found [] sorted = tt
each_found (x ∷ slots) sorted = (
  ap (λ (b : Bool). cond b (Some x.1.chunk) (lookup (is_at (nat_cmp x.0)) (chunks_in slots))) (at_itself x.0),
  found_behind (x.0, x.1.chunk) (chunks_in slots) (chunks_in slots) (rising x.0 slots sorted.0) (each_found slots sorted.1),
)

pub entries_found : (s : State) (some : List Numbered) → AllByRecursion (IsFound s.chunks) some → AllByRecursion (HasEntries s) some
entries_found s [] is = tt
entries_found s (x ∷ some) is = (ap (λ (o : Option Chunk). option_map_or (λ chunk. concat chunk.entries) o []) is.0, entries_found s some is.1)

-- ---- chunks, one behind another

-- what is printed of the chunks so far, and those that are left
pub record LiveOn (chosen : Chosen) (places : Spots) (known : Option (List ℕ)) (old now : Shown) (rest : Slots) (s : State) : Type 0 where
  pub text : List ℕ
  pub written : ShowsAll old now text
  pub done : List Event
  pub all : live_events s ≡ done ++ flat_map chunk_events (chunks_in rest)
  pub entries : AllByRecursion (HasEntries s) (chunks_in rest)
  pub printed : IfSome known (λ bytes. ArePlaced bytes places s → ArePrinted chosen done text)

none_yet : (chosen : Chosen) (places : Spots) (known : Option (List ℕ)) (s : State) → IfSome known (λ bytes. ArePlaced bytes places s → ArePrinted chosen [] [])
none_yet chosen places None s = tt
none_yet chosen places (Some bytes) s = λ placed. none_listed (IsPrintedOf chosen)

pub live_start : (chosen : Chosen) (places : Spots) (known : Option (List ℕ)) (old : Shown) (slots : Slots) (s : State) → chunks_in slots ≡ s.chunks → IsStrictlySortedBy nat_cmp (keys_of slots) → LiveOn chosen places known old old slots s
live_start chosen places known old slots s is sorted = record {
  text = [];
  written = shows_none old;
  done = [];
  all = ap (flat_map chunk_events) (sym is);
  entries = entries_found s (chunks_in slots) (subst (λ chunks. AllByRecursion (IsFound chunks) (chunks_in slots)) is (each_found slots sorted));
  printed = none_yet chosen places known s;
}

-- the bytes at a chunk's places
its_bytes : (bytes : List ℕ) (places : Spots) (s : State) (serial : ℕ) (chunk : Chunk) → HasEntries s (serial, chunk) → ArePlaced bytes places s
    → known_at (Some bytes) (places_at places serial) 0 ≡ Some (concat chunk.entries)
its_bytes bytes places s serial chunk has placed = ap Some (left_front bytes (places_at places serial) ∙ (placed serial).1 ∙ has)

module _ (law : HasOneFront) (chosen : Chosen) (places : Spots) (old mid new : Shown) (serial : ℕ) (slot : Slot) (s : State) (stored : AllByRecursion IsStored slot.chunk.entries) where
  chunk_all : (known : Option (List ℕ)) (rest : Slots) (text : List ℕ) (on : LiveOn chosen places known old mid ((serial, slot) ∷ rest) s)
      → IfSome (known_at known (places_at places serial) 0) (λ bytes. PrintsAll (Under slot.chunk.tag) chosen bytes text [])
      → IfSome known (λ bytes. ArePlaced bytes places s → ArePrinted chosen (on.done ++ under slot.chunk.tag slot.chunk.entries) (on.text ++ text))
  chunk_all None rest text on all = tt
  chunk_all (Some bytes) rest text on all = λ placed.
      let its = subst (λ k. IfSome k (λ bs. PrintsAll (Under slot.chunk.tag) chosen bs text [])) (its_bytes bytes places s serial slot.chunk on.entries.0 placed) all in
      listed_append (IsPrintedOf chosen) on.done (under slot.chunk.tag slot.chunk.entries) on.text text (on.printed placed) (all_entries law chosen slot.chunk.tag slot.chunk.entries text stored its)

  -- a chunk more
  goes_on : (known : Option (List ℕ)) (rest : Slots) → LiveOn chosen places known old mid ((serial, slot) ∷ rest) s → PrintsChunk chosen slot.chunk.tag (known_at known (places_at places serial) 0) mid new (Ok tt)
      → LiveOn chosen places known old new rest s
  goes_on known rest on chunk = record {
    text = on.text ++ chunk.text;
    written = shows_more old mid new on.text chunk.text on.written chunk.shown;
    done = on.done ++ under slot.chunk.tag slot.chunk.entries;
    all = on.all ∙ sym (append_assoc on.done (under slot.chunk.tag slot.chunk.entries) (flat_map chunk_events (chunks_in rest)));
    entries = on.entries.1;
    printed = chunk_all known rest chunk.text on chunk.ends;
  }

  pub chunk_more : (known : Option (List ℕ)) (slots rest : Slots) (result : Result (Unit {0}) Stop) (u : Unit {0}) → slots ≡ (serial, slot) ∷ rest → LiveOn chosen places known old mid slots s
      → PrintsChunk chosen slot.chunk.tag (known_at known (places_at places serial) 0) mid new result → result ≡ Ok u → LiveOn chosen places known old new rest s
  chunk_more known slots rest result u first on chunk is =
      goes_on known rest (subst (λ z. LiveOn chosen places known old mid z s) first on) (subst (PrintsChunk chosen slot.chunk.tag (known_at known (places_at places serial) 0) mid new) is chunk)

  chunk_some : (known : Option (List ℕ)) (rest : Slots) (text : List ℕ) (on : LiveOn chosen places known old mid ((serial, slot) ∷ rest) s)
      → IfSome (known_at known (places_at places serial) 0) (λ bytes. PrintsSome (Under slot.chunk.tag) chosen bytes text)
      → IfSome known (λ bytes. ArePlaced bytes places s → PrintsFirstOf chosen (live_events s) (on.text ++ text))
  chunk_some None rest text on some = tt
  chunk_some (Some bytes) rest text on some = λ placed.
      let its = subst (λ k. IfSome k (λ bs. PrintsSome (Under slot.chunk.tag) chosen bs text)) (its_bytes bytes places s serial slot.chunk on.entries.0 placed) some in
      let found = some_entries law chosen slot.chunk.tag slot.chunk.entries text stored its in
      let others = flat_map chunk_events (chunks_in rest) in
      record {
        first = on.done ++ found.first;
        others = found.others ++ others;
        whole = on.all ∙ ap (λ z. on.done ++ (z ++ others)) found.whole ∙ ap (λ z. on.done ++ z) (append_assoc found.first found.others others) ∙ sym (append_assoc on.done found.first (found.others ++ others));
        printed = listed_append (IsPrintedOf chosen) on.done found.first on.text text (on.printed placed) found.printed;
      }

  stops_in : (known : Option (List ℕ)) (rest : Slots) (stop : Stop) → LiveOn chosen places known old mid ((serial, slot) ∷ rest) s
      → PrintsChunk chosen slot.chunk.tag (known_at known (places_at places serial) 0) mid new (Err stop) → PrintsLive chosen s places known old new (Err stop)
  stops_in known rest stop on chunk = record {
    text = on.text ++ chunk.text;
    shown = shown_behind old mid new on.text chunk.text stop on.written chunk.shown;
    ends = chunk_some known rest chunk.text on chunk.ends;
  }

  -- nothing is printed behind it
  pub stops_there : (known : Option (List ℕ)) (slots rest : Slots) (stop : Stop) → slots ≡ (serial, slot) ∷ rest → LiveOn chosen places known old mid slots s
      → PrintsChunk chosen slot.chunk.tag (known_at known (places_at places serial) 0) mid new (Err stop) → PrintsLive chosen s places known old new (Err stop)
  stops_there known slots rest stop first on chunk = stops_in known rest stop (subst (λ z. LiveOn chosen places known old mid z s) first on) chunk

all_so : (chosen : Chosen) (places : Spots) (known : Option (List ℕ)) (text : List ℕ) (done : List Event) (s : State) → live_events s ≡ done → IfSome known (λ bytes. ArePlaced bytes places s → ArePrinted chosen done text)
    → IfSome known (λ bytes. ArePlaced bytes places s → ArePrinted chosen (live_events s) text)
all_so chosen places None text done s whole printed = tt
all_so chosen places (Some bytes) text done s whole printed = λ placed. subst (λ es. ArePrinted chosen es text) (sym whole) (printed placed)

-- that was the last
pub live_end : (chosen : Chosen) (places : Spots) (known : Option (List ℕ)) (old new : Shown) (rest : Slots) (s : State) → rest ≡ [] → LiveOn chosen places known old new rest s → PrintsLive chosen s places known old new (Ok tt)
live_end chosen places known old new rest s none on =
    let whole : live_events s ≡ on.done = on.all ∙ ap (λ z. on.done ++ flat_map chunk_events (chunks_in z)) none ∙ append-nil on.done in
    record { text = on.text; shown = on.written; ends = all_so chosen places known on.text on.done s whole on.printed }

nothing_of : (chosen : Chosen) (places : Spots) (known : Option (List ℕ)) (s : State) → IfSome known (λ bytes. ArePlaced bytes places s → PrintsFirstOf chosen (live_events s) [])
nothing_of chosen places None s = tt
nothing_of chosen places (Some bytes) s = λ placed. record { first = []; others = live_events s; whole = refl; printed = none_listed (IsPrintedOf chosen) }

-- nothing is printed of any
pub none_live : (chosen : Chosen) (places : Spots) (known : Option (List ℕ)) (old : Shown) (s : State) (stop : Stop) → PrintsLive chosen s places known old old (Err stop)
none_live chosen places known old s stop = record { text = []; shown = shown_so old old [] stop (shows_none old); ends = nothing_of chosen places known s }

-- ---- a journal

module _ {A : Type 0} (chosen : Chosen) (outlined : Outlined A) (torn : ℕ) where
  sealed_end : (known : Option (List ℕ)) (text : List ℕ) → IfSome known (λ bytes. IsSealedIn bytes outlined torn)
      → IfSome known (λ bytes. ArePlaced bytes outlined.places outlined.chunks → ArePrinted chosen (live_events outlined.chunks) text)
      → IfSome known (λ bytes. IsJournalEnd chosen bytes text (Sealed outlined.used torn))
  sealed_end None text is printed = tt
  sealed_end (Some bytes) text is printed =
      (record { state = outlined.chunks; replayed = is.means.replayed; printed = printed is.means.placed }, is.torn_is)

  pub journal_sealed : (known : Option (List ℕ)) (old new : Shown) → IfSome known (λ bytes. IsSealedIn bytes outlined torn) → PrintsLive chosen outlined.chunks outlined.places known old new (Ok tt)
      → PrintsJournal chosen known old new (Ok (Sealed outlined.used torn))
  journal_sealed known old new is live =
      record { text = live.text; shown = live.shown; ends = sealed_end known live.text is live.ends }

  sealed_some : (known : Option (List ℕ)) (text : List ℕ) → IfSome known (λ bytes. IsSealedIn bytes outlined torn)
      → IfSome known (λ bytes. ArePlaced bytes outlined.places outlined.chunks → PrintsFirstOf chosen (live_events outlined.chunks) text)
      → IfSome known (λ bytes. IsJournalBegun chosen bytes text)
  sealed_some None text is printed = tt
  sealed_some (Some bytes) text is printed =
      inr (record { state = outlined.chunks; used = outlined.used; replayed = is.means.replayed; some = printed is.means.placed })

  pub journal_stopped : (known : Option (List ℕ)) (old new : Shown) (stop : Stop) → IfSome known (λ bytes. IsSealedIn bytes outlined torn) → PrintsLive chosen outlined.chunks outlined.places known old new (Err stop)
      → PrintsJournal chosen known old new (Err stop)
  journal_stopped known old new stop is live =
      record { text = live.text; shown = live.shown; ends = sealed_some known live.text is live.ends }

-- what is found in all of a file
pub whole_front : (known : Option (List ℕ)) (P : List ℕ → Type 0) → IfSome (known_from known 0) P → IfSome known P
whole_front None P is = tt
whole_front (Some bytes) P is = is

nothing_begun : (chosen : Chosen) (known : Option (List ℕ)) → IfSome known (λ bytes. IsJournalBegun chosen bytes [])
nothing_begun chosen None = tt
nothing_begun chosen (Some bytes) = inl refl

-- it isn't read
pub none_of_journal : (chosen : Chosen) (known : Option (List ℕ)) (old : Shown) (stop : Stop) → PrintsJournal chosen known old old (Err stop)
none_of_journal chosen known old stop = record { text = []; shown = shown_so old old [] stop (shows_none old); ends = nothing_begun chosen known }

unsealed_so : (chosen : Chosen) (known : Option (List ℕ)) → IfSome known EndsUnsealed → IfSome known (λ bytes. IsJournalEnd chosen bytes [] Unsealed)
unsealed_so chosen None is = tt
unsealed_so chosen (Some bytes) is = (refl, is)

-- it isn't sealed
pub journal_unsealed : (chosen : Chosen) (known : Option (List ℕ)) (old : Shown) → IfSome known EndsUnsealed → PrintsJournal chosen known old old (Ok Unsealed)
journal_unsealed chosen known old is = record { text = []; shown = shows_none old; ends = unsealed_so chosen known is }

damaged_so : (chosen : Chosen) (known : Option (List ℕ)) → IfSome known IsDamaged → IfSome known (λ bytes. IsJournalEnd chosen bytes [] Damaged)
damaged_so chosen None is = tt
damaged_so chosen (Some bytes) is = (refl, is)

-- it is damaged
pub journal_damaged : (chosen : Chosen) (known : Option (List ℕ)) (old : Shown) → IfSome known IsDamaged → PrintsJournal chosen known old old (Ok Damaged)
journal_damaged chosen known old is = record { text = []; shown = shows_none old; ends = damaged_so chosen known is }
