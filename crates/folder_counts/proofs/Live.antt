-- The oldest event of live chunks, chunk by chunk.
use Rattle.std.proofs.Common.{ℕ, ℤ, ◌≡◌, List, [], ◌∷◌, ◌++◌, map, length, Option, Some, None, refl, sym, ap, ap₂, ◌∙◌, subst, arith, inl, inr, append_assoc, append-nil}
use Rattle.std.specs.Prelude.{IfSome}
use Rattle.std.specs.List.{AllByRecursion, concat, flat_map}
use Rattle.std.specs.List.Sorted.{IsStrictlySortedBy}
use Rattle.std.specs.Map.{keys_of}
use Rattle.std.specs.Ordering.{nat_cmp}
use Rattle.std.proofs.lemmas.List.{length-append}
use Rattle.buffer_state.specs.Slots.{Slot, Slots, chunks_in}
use Rattle.buffer_state.specs.State.{Chunk, State}
use Rattle.chunk_journal.specs.Places.{Spots, ArePlaced, places_at}
use Rattle.chunk_journal.specs.declared.places.Extent.{Extent}
use Rattle.event_modes.specs.Rows.{IsStored}
use Rattle.msgpack_bytes.specs.Laws.{HasOneFront}
use Rattle.folder_listing.specs.Placed.{known_at}
use Rattle.folder_listing.proofs.Left.{left_front}
use Rattle.sink_series.specs.Events.{Event, under}
use Rattle.event_listing.specs.Forms.{Under, spelled_run, IsIn}
use Rattle.event_listing.specs.Live.{chunk_events, live_events}
use Rattle.event_listing.proofs.Chunks.{IsFound, HasEntries, each_found, entries_found}
use Rattle.event_listing.proofs.Items.{spelled_some}
use Rattle.folder_counts.specs.Instants.{HasEventAt, IsNotBefore, IsOldest}
use Rattle.folder_counts.specs.Tallies.{earlier, AreOldestIn, IsOldestIn}
use Rattle.folder_counts.specs.declared.events.Oldest.{Oldest}
use Rattle.folder_counts.specs.declared.events.Oldest.TheVariants.{Known}
use Rattle.folder_counts.proofs.Tallied.{oldest_append}

-- ---- one chunk

entries_of : List Event → List (List ℕ)
entries_of events = map (λ event. event.entry) events

-- stored entries one after another are one list only
same_entries : HasOneFront → (events : List Event) (entries : List (List ℕ)) → AllByRecursion (IsIn (Under [])) events → AllByRecursion IsStored entries → spelled_run (Under []) events ≡ concat entries
    → entries_of events ≡ entries
unfolding entries_of
same_entries law [] [] each stored e = refl
same_entries law [] (entry ∷ entries) each stored e = absurd (omega (arith, ap length e, ap length stored.0.kept.is_stored, length-append entry (concat entries)))
same_entries law (event ∷ events) [] each stored e =
    absurd (omega (arith, ap length e, spelled_some (Under []) event each.0, length-append event.entry (spelled_run (Under []) events)))
same_entries law (event ∷ events) (entry ∷ entries) each stored e =
    let front = law event.entry entry (spelled_run (Under []) events) (concat entries) each.0.0.stored.item stored.0.item e in
    ap₂ (λ x xs. x ∷ xs) front.0 (same_entries law events entries each.1 stored.1 front.1)

-- times don't go by tags
has_under : (tag : List ℕ) (events : List Event) (nanos : ℤ) → HasEventAt events nanos → HasEventAt (under tag (entries_of events)) nanos
unfolding entries_of
has_under tag [] nanos has = absurd has
has_under tag (event ∷ events) nanos (inl one) = inl one
has_under tag (event ∷ events) nanos (inr has) = inr (has_under tag events nanos has)

each_under : (tag : List ℕ) (events : List Event) (nanos : ℤ) → AllByRecursion (IsNotBefore nanos) events → AllByRecursion (IsNotBefore nanos) (under tag (entries_of events))
unfolding entries_of
each_under tag [] nanos each = tt
each_under tag (event ∷ events) nanos each = (record { time = each.0.time; is = each.0.is; later = each.0.later }, each_under tag events nanos each.1)

oldest_under : (tag : List ℕ) (events : List Event) (oldest : Option ℤ) → IsOldest events oldest → IsOldest (under tag (entries_of events)) oldest
unfolding entries_of
oldest_under tag events None none = ap (λ z. under tag (entries_of z)) none
oldest_under tag events (Some nanos) is = record { one = has_under tag events nanos is.one; each = each_under tag events nanos is.each }

-- the oldest event of a chunk, whose entries these bytes are
chunk_oldest : HasOneFront → (tag : List ℕ) (entries : List (List ℕ)) (oldest : Option ℤ) → AllByRecursion IsStored entries → AreOldestIn (concat entries) oldest → IsOldest (under tag entries) oldest
chunk_oldest law tag entries oldest stored are =
    subst (λ z. IsOldest (under tag z) oldest) (same_entries law are.events entries are.each stored (sym are.whole)) (oldest_under tag are.events oldest are.oldest_is)

-- the bytes that its reader has left at first
pub known_new : {F : Type 0} (bytes_of : F → Option (List ℕ)) (file given : F) (places wanted : List Extent) (done : ℕ) → file ≡ given → places ≡ wanted → done ≡ 0
    → known_at (bytes_of file) places done ≡ known_at (bytes_of given) wanted 0
known_new bytes_of file given places wanted done same there none =
    ap (λ z. known_at (bytes_of z) places done) same ∙ ap (λ z. known_at (bytes_of given) z done) there ∙ ap (λ z. known_at (bytes_of given) wanted z) none

-- what is read of them
pub known_read : (known : Option (List ℕ)) (places : Spots) (serial : ℕ) (there : List Extent) (found : Oldest) (nanos : Option ℤ) → there ≡ places_at places serial → found ≡ Known nanos
    → IfSome (known_at known there 0) (λ bytes. IsOldestIn bytes found) → IfSome (known_at known (places_at places serial) 0) (λ bytes. AreOldestIn bytes nanos)
known_read known places serial there found nanos same is read =
    subst (λ f. IfSome (known_at known (places_at places serial) 0) (λ bytes. IsOldestIn bytes f)) is (subst (λ z. IfSome (known_at known z 0) (λ bytes. IsOldestIn bytes found)) same read)

-- ---- chunks, one behind another

-- the oldest event of the chunks so far, and the chunks that are left
pub record LiveOn (places : Spots) (known : Option (List ℕ)) (oldest : Option ℤ) (rest : Slots) (s : State) : Type 0 where
  pub done : List Event
  pub all : live_events s ≡ done ++ flat_map chunk_events (chunks_in rest)
  pub entries : AllByRecursion (HasEntries s) (chunks_in rest)
  pub oldest_is : IfSome known (λ bytes. ArePlaced bytes places s → IsOldest done oldest)

none_yet : (places : Spots) (known : Option (List ℕ)) (s : State) → IfSome known (λ bytes. ArePlaced bytes places s → IsOldest [] None)
none_yet places None s = tt
none_yet places (Some bytes) s = λ placed. refl

pub live_start : (places : Spots) (known : Option (List ℕ)) (slots : Slots) (s : State) → chunks_in slots ≡ s.chunks → IsStrictlySortedBy nat_cmp (keys_of slots) → LiveOn places known None slots s
live_start places known slots s is sorted = record {
  done = [];
  all = ap (flat_map chunk_events) (sym is);
  entries = entries_found s (chunks_in slots) (subst (λ chunks. AllByRecursion (IsFound chunks) (chunks_in slots)) is (each_found slots sorted));
  oldest_is = none_yet places known s;
}

-- the bytes at a chunk's places
its_bytes : (bytes : List ℕ) (places : Spots) (s : State) (serial : ℕ) (chunk : Chunk) → HasEntries s (serial, chunk) → ArePlaced bytes places s
    → known_at (Some bytes) (places_at places serial) 0 ≡ Some (concat chunk.entries)
its_bytes bytes places s serial chunk has placed = ap Some (left_front bytes (places_at places serial) ∙ (placed serial).1 ∙ has)

module _ (law : HasOneFront) (places : Spots) (serial : ℕ) (slot : Slot) (s : State) (stored : AllByRecursion IsStored slot.chunk.entries) where
  chunk_all : (known : Option (List ℕ)) (rest : Slots) (oldest nanos : Option ℤ) (on : LiveOn places known oldest ((serial, slot) ∷ rest) s)
      → IfSome (known_at known (places_at places serial) 0) (λ bytes. AreOldestIn bytes nanos)
      → IfSome known (λ bytes. ArePlaced bytes places s → IsOldest (on.done ++ under slot.chunk.tag slot.chunk.entries) (earlier oldest nanos))
  chunk_all None rest oldest nanos on are = tt
  chunk_all (Some bytes) rest oldest nanos on are = λ placed.
      let its = subst (λ k. IfSome k (λ bs. AreOldestIn bs nanos)) (its_bytes bytes places s serial slot.chunk on.entries.0 placed) are in
      oldest_append on.done (under slot.chunk.tag slot.chunk.entries) oldest nanos (on.oldest_is placed) (chunk_oldest law slot.chunk.tag slot.chunk.entries nanos stored its)

  goes_on : (known : Option (List ℕ)) (rest : Slots) (oldest nanos : Option ℤ) → LiveOn places known oldest ((serial, slot) ∷ rest) s
      → IfSome (known_at known (places_at places serial) 0) (λ bytes. AreOldestIn bytes nanos) → LiveOn places known (earlier oldest nanos) rest s
  goes_on known rest oldest nanos on are = record {
    done = on.done ++ under slot.chunk.tag slot.chunk.entries;
    all = on.all ∙ sym (append_assoc on.done (under slot.chunk.tag slot.chunk.entries) (flat_map chunk_events (chunks_in rest)));
    entries = on.entries.1;
    oldest_is = chunk_all known rest oldest nanos on are;
  }

  -- a chunk more
  pub chunk_more : (known : Option (List ℕ)) (slots rest : Slots) (oldest nanos : Option ℤ) → slots ≡ (serial, slot) ∷ rest → LiveOn places known oldest slots s
      → IfSome (known_at known (places_at places serial) 0) (λ bytes. AreOldestIn bytes nanos) → LiveOn places known (earlier oldest nanos) rest s
  chunk_more known slots rest oldest nanos first on are = goes_on known rest oldest nanos (subst (λ z. LiveOn places known oldest z s) first on) are

live_so : (places : Spots) (known : Option (List ℕ)) (oldest : Option ℤ) (done : List Event) (s : State) → live_events s ≡ done → IfSome known (λ bytes. ArePlaced bytes places s → IsOldest done oldest)
    → IfSome known (λ bytes. ArePlaced bytes places s → IsOldest (live_events s) oldest)
live_so places None oldest done s whole is = tt
live_so places (Some bytes) oldest done s whole is = λ placed. subst (λ z. IsOldest z oldest) (sym whole) (is placed)

-- no chunk more
pub live_end : (places : Spots) (known : Option (List ℕ)) (oldest : Option ℤ) (slots : Slots) (s : State) → slots ≡ [] → LiveOn places known oldest slots s
    → IfSome known (λ bytes. ArePlaced bytes places s → IsOldest (live_events s) oldest)
live_end places known oldest slots s none on =
    live_so places known oldest on.done s (on.all ∙ ap (λ z. on.done ++ flat_map chunk_events (chunks_in z)) none ∙ append-nil on.done) on.oldest_is
