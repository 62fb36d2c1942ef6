-- The records that a generation begins with.
use Rattle.std.proofs.Common.{◌≡◌, ℕ, ◌+◌, ◌≤◌, ◌<◌, ◌^◌, Bool, cond, List, [], ◌∷◌, ◌++◌, length, Option, Some, refl, sym, ap, subst, ◌∙◌, append_assoc, arith}
use Rattle.std.specs.Option.{option_map_or}
use Rattle.std.specs.List.{AllByRecursion, All, concat, flat_map}
use Rattle.std.specs.BTreeMap.{is_at}
use Rattle.std.specs.List.Sorted.{IsStrictlySortedBy}
use Rattle.std.specs.Map.{lookup, keys_of, values_of}
use Rattle.std.specs.Ordering.{nat_cmp}
use Rattle.std.specs.declared.cmp.Ordering.TheVariants.{Less}
use Rattle.std.proofs.lemmas.List.{append-nil, length-append}
use Rattle.std.proofs.lemmas.List.Elements.{All-head, All-tail}
use Rattle.std.proofs.lemmas.Grind.{flat_map-append}
use Rattle.event_modes.specs.Message.{longest_tag}
use Rattle.buffer_state.specs.declared.chunk.Stage.{Stage}
use Rattle.buffer_state.specs.declared.chunk.Stage.TheVariants.{Staged, Queued, Claimed}
use Rattle.buffer_state.specs.State.{Chunk, Numbered, State, size, empty}
use Rattle.buffer_state.specs.Steps.{greatest_size}
use Rattle.buffer_state.specs.Slots.{Slot, Slots, slot_size, chunks_in, AreBelow}
use Rattle.chunk_journal.specs.Records.{Record, Seal, Append, Queue, record_bytes, IsRecord}
use Rattle.chunk_journal.specs.Journal.{journal_bytes}
use Rattle.chunk_journal.specs.Meaning.{Tells, IsUnsealed, after_all, chunk_records, AreTold}
use Rattle.chunk_journal.specs.Places.{Spots, LieAt, ArePlaced, AddsPlace, MovesPlaces, entries_at, extent_before, places_at}
use Rattle.chunk_journal.specs.Laws.{PlacesFollow, TellsInOrder}
use Rattle.chunk_journal.proofs.Answered.{each_front}
use Rattle.chunk_journal.proofs.Coming.{journal_push}
use Rattle.chunk_journal.proofs.Standing.{after_more}
use Rattle.chunk_journal.proofs.ChunkRecords.{told_so}
use Rattle.buffer_state.proofs.Rooms.{less as less_of}
use Rattle.buffer_state.proofs.Serials.{at_itself, at_below}
use Rattle.file_pieces.specs.Pieces.{AreWithin, pieces_bytes}
use Rattle.file_pieces.specs.declared.piece.Piece.{Piece}
use Rattle.journal_files.specs.JournalLogs.{records_of, state_of, new_generation}
use Rattle.journal_files.proofs.Fronts.{queueing}
use Rattle.journal_files.proofs.Placed.{ends_so}
use Rattle.journal_files.proofs.Tags.{Short}

-- ---- chunks that a generation can begin with

rise : (x : ℕ) (ks : List ℕ) → AllByRecursion (λ y. nat_cmp x y ≡ Less) ks → AllByRecursion (λ y. x + 1 ≤ y) ks
rise x [] less = tt
rise x (k ∷ ks) less = (omega (arith, less_of x k less.0), rise x ks less.1)

any : (ks : List ℕ) → AllByRecursion (λ y. 0 ≤ y) ks
any [] = tt
any (k ∷ ks) = (omega arith, any ks)

from_least : (least : ℕ) (slots : Slots) (next : ℕ) → least ≤ next → AllByRecursion (λ y. least ≤ y) (keys_of slots) → IsStrictlySortedBy nat_cmp (keys_of slots)
    → AreBelow next (keys_of slots) → All (λ slot. slot_size slot ≤ greatest_size) (values_of slots) → AreTold least (chunks_in slots) next
unfolding IsStrictlySortedBy
from_least least [] next le most sorted below small = le
from_least least (x ∷ slots) next le most sorted below small = (
  most.0,
  All-head (λ (slot : Slot). slot_size slot ≤ greatest_size) x.1 (values_of slots) small,
  from_least (x.0 + 1) slots next (omega (arith, below.0)) (rise x.0 (keys_of slots) sorted.0) sorted.1 below.1 (All-tail (λ (slot : Slot). slot_size slot ≤ greatest_size) x.1 (values_of slots) small),
)

pub can_be_told : (slots : Slots) (chunks : List Numbered) (next : ℕ) → chunks_in slots ≡ chunks → IsStrictlySortedBy nat_cmp (keys_of slots) → AreBelow next (keys_of slots)
    → All (λ slot. slot_size slot ≤ greatest_size) (values_of slots) → AreTold 0 chunks next
can_be_told slots chunks next is sorted below small =
    subst (λ (z : List Numbered). AreTold 0 z next) is (from_least 0 slots next (omega arith) (any (keys_of slots)) sorted below small)

-- ---- the places of their entries

module _ (follow : PlacesFollow) (order : TellsInOrder) where
  -- one more record
  placed_one : (done : List Record) (item : Record) (old new : Spots) → IsUnsealed done → ArePlaced (journal_bytes done) old (after_all empty done) → MovesPlaces item (length (journal_bytes done ++ record_bytes item)) old new
      → ArePlaced (journal_bytes (done ++ item ∷ [])) new (after_all empty (done ++ item ∷ []))
  placed_one done item old new unsealed placed moves =
      let seen = journal_bytes done in
      let next = follow seen (record_bytes item) old new (after_all empty done) item (length (seen ++ record_bytes item)) (order done unsealed) placed (ends_so seen item) moves in
      subst (λ (b : List ℕ). ArePlaced b new (after_all empty (done ++ item ∷ []))) (sym (journal_push done item))
      (subst (ArePlaced (seen ++ record_bytes item) new) (sym (after_more empty done (item ∷ []))) next)

  -- a Queue behind it
  placed_queue : (done : List Record) (serial : ℕ) (stage : Stage) (spots : Spots) → IsUnsealed done → ArePlaced (journal_bytes done) spots (after_all empty done)
      → ArePlaced (journal_bytes (done ++ queueing serial stage)) spots (after_all empty (done ++ queueing serial stage))
  placed_queue done serial Staged spots unsealed placed = subst (λ (r : List Record). ArePlaced (journal_bytes r) spots (after_all empty r)) (sym (append-nil done)) placed
  placed_queue done serial Queued spots unsealed placed = placed_one done (Queue serial) spots spots unsealed placed (λ other. refl)
  placed_queue done serial Claimed spots unsealed placed = placed_one done (Queue serial) spots spots unsealed placed (λ other. refl)

  -- the records of one more chunk
  pub placed_chunk : (done : List Record) (serial : ℕ) (chunk : Chunk) (old new : Spots) → IsUnsealed (done ++ chunk_records (serial, chunk)) → ArePlaced (journal_bytes done) old (after_all empty done)
      → AddsPlace serial (extent_before (length (journal_bytes done ++ record_bytes (Append serial chunk.tag chunk.entries))) (size chunk.entries)) old new
      → ArePlaced (journal_bytes (done ++ chunk_records (serial, chunk))) new (after_all empty (done ++ chunk_records (serial, chunk)))
  placed_chunk done serial chunk old new unsealed placed adds =
      let item = Append serial chunk.tag chunk.entries in
      let apart : (done ++ item ∷ []) ++ queueing serial chunk.stage ≡ done ++ chunk_records (serial, chunk) = append_assoc done (item ∷ []) (queueing serial chunk.stage) in
      let first = subst IsUnsealed (sym apart) unsealed in
      subst (λ (r : List Record). ArePlaced (journal_bytes r) new (after_all empty r)) apart
      (placed_queue (done ++ item ∷ []) serial chunk.stage new (each_front Tells empty (done ++ item ∷ []) (queueing serial chunk.stage) first)
      (placed_one done item old new (each_front Tells empty done (chunk_records (serial, chunk)) unsealed) placed adds))

-- ---- each chunk is found under its serial

abbrev IsFound : List Numbered → Numbered → Type 0
IsFound chunks numbered = lookup (is_at (nat_cmp numbered.0)) chunks ≡ Some numbered.1

above : (least : ℕ) (chunks : List Numbered) (next low : ℕ) → AreTold least chunks next → low ≤ least → AllByRecursion (λ numbered. low ≤ numbered.0) chunks
above least [] next low told le = tt
above least (x ∷ chunks) next low told le = let first = told.0 in (omega (arith, le, first), above (x.0 + 1) chunks next low told.2 (omega (arith, le, first)))

found_behind : (x : Numbered) (chunks some : List Numbered) → AllByRecursion (λ numbered. x.0 + 1 ≤ numbered.0) some → AllByRecursion (IsFound chunks) some → AllByRecursion (IsFound (x ∷ chunks)) some
found_behind x chunks [] most found = tt
found_behind x chunks (y ∷ some) most found = (
  ap (λ (b : Bool). cond b (Some x.1) (lookup (is_at (nat_cmp y.0)) chunks)) (at_below y.0 x.0 (let le = most.0 in omega (arith, le))) ∙ found.0,
  found_behind x chunks some most.1 found.1,
)

each_found : (least : ℕ) (chunks : List Numbered) (next : ℕ) → AreTold least chunks next → AllByRecursion (IsFound chunks) chunks
each_found least [] next told = tt
each_found least (x ∷ chunks) next told = (
  ap (λ (b : Bool). cond b (Some x.1) (lookup (is_at (nat_cmp x.0)) chunks)) (at_itself x.0),
  found_behind x chunks chunks (above (x.0 + 1) chunks next (x.0 + 1) told.2 (omega arith)) (each_found (x.0 + 1) chunks next told.2),
)

-- the entries of this serial are those of the chunk
abbrev pub HasEntries : State → Numbered → Type 0
HasEntries s numbered = entries_at s numbered.0 ≡ concat numbered.1.entries

entries_found : (s : State) (some : List Numbered) → AllByRecursion (IsFound s.chunks) some → AllByRecursion (HasEntries s) some
entries_found s [] found = tt
entries_found s (x ∷ some) found = (ap (λ (o : Option Chunk). option_map_or (λ chunk. concat chunk.entries) o []) found.0, entries_found s some found.1)

-- ---- in the loop

-- What was told is the first of what is to be told, and its entries are where the places say. What
-- is still to be told is short and small, and is found under its serials.
pub record StillTold {A : Type 0} (pieces : List (Piece A)) (len : ℕ) (from spots : Spots) (rest : Slots) (s : State) : Type 0 where
  pub done : List Record
  pub bytes_so_far : (seen : List ℕ) → length seen < 2 ^ 64 → ArePlaced seen from s → pieces_bytes seen pieces ≡ journal_bytes done
  pub within : (seen : List ℕ) → length seen < 2 ^ 64 → ArePlaced seen from s → AreWithin seen pieces
  pub len_so_far : len ≡ length (journal_bytes done)
  pub placed : ArePlaced (journal_bytes done) spots (after_all empty done)
  pub records : AllByRecursion IsRecord done
  pub all : done ++ flat_map chunk_records (chunks_in rest) ≡ flat_map chunk_records s.chunks
  pub unsealed : IsUnsealed (flat_map chunk_records s.chunks)
  pub short : Short (chunks_in rest)
  pub small : All (λ slot. slot_size slot ≤ greatest_size) (values_of rest)
  pub found : AllByRecursion (HasEntries s) (chunks_in rest)

both : (front back : List Record) → AllByRecursion IsRecord front → AllByRecursion IsRecord back → AllByRecursion IsRecord (front ++ back)
both [] back a b = b
both (x ∷ front) back a b = (a.0, both front back a.1 b)

nothing_placed : (serial : ℕ) → LieAt [] [] []
nothing_placed serial = (tt, refl)

pub starts : {A : Type 0} (pieces : List (Piece A)) (len : ℕ) (from spots : Spots) (slots : Slots) (s : State) → pieces ≡ [] → len ≡ 0 → spots ≡ [] → chunks_in slots ≡ s.chunks → AreTold 0 s.chunks s.next → s.next < 2 ^ 64 → Short s.chunks
    → All (λ slot. slot_size slot ≤ greatest_size) (values_of slots) → StillTold pieces len from spots slots s
starts pieces len from spots slots s nothing zero none is told below short small = record {
  done = [];
  bytes_so_far = λ seen fits are. ap (pieces_bytes seen) nothing;
  within = λ seen fits are. subst (AreWithin seen) (sym nothing) tt;
  len_so_far = zero;
  placed = subst (λ (z : Spots). ArePlaced [] z empty) (sym none) nothing_placed;
  records = tt;
  all = ap (flat_map chunk_records) is;
  unsealed = (told_so s.chunks s.next told below).each;
  short = subst Short (sym is) short;
  small = small;
  found = subst (AllByRecursion (HasEntries s)) (sym is) (entries_found s s.chunks (each_found 0 s.chunks s.next told));
}

-- what telling a chunk did
pub record TellsChunk {A : Type 0} (old new : List (Piece A)) (len end : ℕ) (from spots behind : Spots) (serial : ℕ) (chunk : Chunk) : Type 0 where
  pub bytes : (seen : List ℕ) → LieAt seen (places_at from serial) (concat chunk.entries) → pieces_bytes seen new ≡ pieces_bytes seen old ++ journal_bytes (chunk_records (serial, chunk))
  pub within : (seen : List ℕ) → length seen < 2 ^ 64 → LieAt seen (places_at from serial) (concat chunk.entries) → AreWithin seen old → AreWithin seen new
  pub len_is : end ≡ len + length (journal_bytes (chunk_records (serial, chunk)))
  pub places : AddsPlace serial (extent_before (len + length (record_bytes (Append serial chunk.tag chunk.entries))) (size chunk.entries)) spots behind
  pub records : AllByRecursion IsRecord (chunk_records (serial, chunk))

module _ (follow : PlacesFollow) (order : TellsInOrder) {A : Type 0} (old new : List (Piece A)) (len end : ℕ) (from spots behind : Spots) (serial : ℕ) (slot : Slot) (s : State) where
  goes_first : (rest : Slots) → StillTold old len from spots ((serial, slot) ∷ rest) s → TellsChunk old new len end from spots behind serial slot.chunk → StillTold new end from behind rest s
  goes_first rest so_far tells =
      let more = chunk_records (serial, slot.chunk) in
      let one = record_bytes (Append serial slot.chunk.tag slot.chunk.entries) in
      let joined : journal_bytes (so_far.done ++ more) ≡ journal_bytes so_far.done ++ journal_bytes more = flat_map-append record_bytes so_far.done more in
      let all : (so_far.done ++ more) ++ flat_map chunk_records (chunks_in rest) ≡ flat_map chunk_records s.chunks = append_assoc so_far.done more (flat_map chunk_records (chunks_in rest)) ∙ so_far.all in
      let at : len + length one ≡ length (journal_bytes so_far.done ++ one) = ap (λ (n : ℕ). n + length one) so_far.len_so_far ∙ sym (length-append (journal_bytes so_far.done) one) in
      record {
        done = so_far.done ++ more;
        bytes_so_far = λ seen fits are. tells.bytes seen (subst (LieAt seen (places_at from serial)) so_far.found.0 (are serial))
            ∙ ap (λ (z : List ℕ). z ++ journal_bytes more) (so_far.bytes_so_far seen fits are) ∙ sym joined;
        within = λ seen fits are. tells.within seen fits (subst (LieAt seen (places_at from serial)) so_far.found.0 (are serial)) (so_far.within seen fits are);
        len_so_far = tells.len_is ∙ ap (λ (n : ℕ). n + length (journal_bytes more)) so_far.len_so_far ∙ sym (length-append (journal_bytes so_far.done) (journal_bytes more)) ∙ ap length (sym joined);
        placed = placed_chunk follow order so_far.done serial slot.chunk spots behind (each_front Tells empty (so_far.done ++ more) (flat_map chunk_records (chunks_in rest)) (subst IsUnsealed (sym all) so_far.unsealed)) so_far.placed
            (subst (λ (n : ℕ). AddsPlace serial (extent_before n (size slot.chunk.entries)) spots behind) at tells.places);
        records = both so_far.done more so_far.records tells.records;
        all = all;
        unsealed = so_far.unsealed;
        short = so_far.short.1;
        small = All-tail (λ (z : Slot). slot_size z ≤ greatest_size) slot (values_of rest) so_far.small;
        found = so_far.found.1;
      }

  pub goes : (rest slots : Slots) → StillTold old len from spots slots s → slots ≡ (serial, slot) ∷ rest → TellsChunk old new len end from spots behind serial slot.chunk → StillTold new end from behind rest s
  goes rest slots so_far first tells = goes_first rest (subst (λ (z : Slots). StillTold old len from spots z s) first so_far) tells

-- all is told
module _ {A : Type 0} (pieces : List (Piece A)) (len : ℕ) (from spots : Spots) (rest : Slots) (s : State) (so_far : StillTold pieces len from spots rest s) (none : rest ≡ []) where
  done_is : so_far.done ≡ flat_map chunk_records s.chunks
  done_is = sym (append-nil so_far.done) ∙ ap (λ (z : Slots). so_far.done ++ flat_map chunk_records (chunks_in z)) (sym none) ∙ so_far.all

  pub told_bytes : (seen : List ℕ) → length seen < 2 ^ 64 → ArePlaced seen from s → pieces_bytes seen pieces ≡ journal_bytes (flat_map chunk_records s.chunks)
  told_bytes seen small are = so_far.bytes_so_far seen small are ∙ ap journal_bytes done_is

  pub told_len : len ≡ length (journal_bytes (flat_map chunk_records s.chunks))
  told_len = so_far.len_so_far ∙ ap (λ (r : List Record). length (journal_bytes r)) done_is

  pub told_records : AllByRecursion IsRecord (flat_map chunk_records s.chunks)
  told_records = subst (AllByRecursion IsRecord) done_is so_far.records

  -- and then sealed
  pub told_places : PlacesFollow → TellsInOrder → ArePlaced (journal_bytes (records_of (new_generation s))) spots (state_of (new_generation s))
  told_places follow order =
      let told = flat_map chunk_records s.chunks in
      let seen = journal_bytes told in
      let placed : ArePlaced seen spots (after_all empty told) = subst (λ (r : List Record). ArePlaced (journal_bytes r) spots (after_all empty r)) done_is so_far.placed in
      subst (λ (b : List ℕ). ArePlaced b spots (state_of (new_generation s))) (sym (journal_push told (Seal s.next)))
      (follow seen (record_bytes (Seal s.next)) spots spots (after_all empty told) (Seal s.next) 0 (order told so_far.unsealed) placed tt (λ serial. refl))

-- the next chunk has few bytes
module _ {A : Type 0} (pieces : List (Piece A)) (len : ℕ) (from spots : Spots) (serial : ℕ) (slot : Slot) (rest slots : Slots) (s : State) (so_far : StillTold pieces len from spots slots s) (first : slots ≡ (serial, slot) ∷ rest) where
  pub small_here : slot_size slot ≤ greatest_size
  small_here = All-head (λ (z : Slot). slot_size z ≤ greatest_size) slot (values_of rest) (subst (λ (z : Slots). StillTold pieces len from spots z s) first so_far).small

  -- and a short tag
  pub tag_here : length slot.chunk.tag ≤ longest_tag
  tag_here = (subst (λ (z : Slots). StillTold pieces len from spots z s) first so_far).short.0
