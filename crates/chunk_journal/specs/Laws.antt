-- What holds of journals, apart from any call.
use Rattle.std.specs.Prelude.{ℕ, ◌≡◌, ◌+◌, ◌<◌, ◌≤◌, ◌^◌, List, [], ◌++◌, length, take}
use Rattle.std.specs.List.Sorted.{IsStrictlySortedBy}
use Rattle.std.specs.Map.{keys_of}
use Rattle.std.specs.Ordering.{nat_cmp}
use Rattle.buffer_state.specs.State.{Numbered, State, empty}
use Rattle.buffer_state.specs.Steps.{reopened}
use Rattle.chunk_journal.specs.Records.{Record, Seal, record_bytes, IsRecord}
use Rattle.chunk_journal.specs.Journal.{IsJournal, journal_bytes, within}
use Rattle.chunk_journal.specs.Meaning.{after, after_all, IsUnsealed, Leads, IsGeneration, beginning, AreTold, Answer, IsAnswer}
use Rattle.chunk_journal.specs.Places.{Spots, ArePlaced, EndsAt, MovesPlaces}

-- a record's bytes are no proper beginning of another's, and spell one record only
abbrev pub BeginsOneWay : Type 0
BeginsOneWay = (one other : Record) (x y : List ℕ) → IsRecord one → IsRecord other
    → record_bytes one ++ x ≡ record_bytes other ++ y → (one ≡ other) × (x ≡ y)

-- there is one way to read bytes as a journal
abbrev pub ReadsOneWay : Type 0
ReadsOneWay = (bytes : List ℕ) (records others : List Record) (rest end : List ℕ)
    → IsJournal bytes records rest → IsJournal bytes others end → (records ≡ others) × (rest ≡ end)

-- a beginning of a journal is the journal of those of its records that end within it
abbrev pub CutsWhole : Type 0
CutsWhole = (bytes : List ℕ) (records : List Record) (rest : List ℕ) (n : ℕ)
    → IsJournal bytes records rest
    → (end : List ℕ) × IsJournal (take n bytes) (take (within records n) records) end

-- in a longer beginning no fewer records end
abbrev pub NeverUnreads : Type 0
NeverUnreads = (records : List Record) (n m : ℕ) → n ≤ m → within records n ≤ within records m

-- in all of their bytes all of them end
abbrev pub EndsWithin : Type 0
EndsWithin = (records : List Record) (n : ℕ) → length (journal_bytes records) ≤ n
    → within records n ≡ length records

-- of a generation's records, some of those before the Seal are before a Seal
abbrev pub CutsBefore : Type 0
CutsBefore = (records : List Record) (state : State) (leads : Leads records state) (k : ℕ)
    → k ≤ length leads.told → IsUnsealed (take k records)

-- and those up to the Seal with some of the steps lead to where these steps lead
abbrev pub CutsBehind : Type 0
CutsBehind = (records : List Record) (state : State) (leads : Leads records state) (k : ℕ)
    → Leads (take (length leads.told + 1 + k) records)
    (after_all (after (after_all empty leads.told) (Seal leads.next)) (take k leads.steps))

-- a journal has one answer
abbrev pub AnswersOneWay : Type 0
AnswersOneWay = (bytes : List ℕ) (one other : Answer) → IsAnswer bytes one → IsAnswer bytes other
    → one ≡ other

-- a generation that only begins means the chunks that it tells, claimed ones counted as queued, and
-- the queue goes by rising serial
abbrev pub MeansItsChunks : Type 0
MeansItsChunks = (chunks : List Numbered) (next : ℕ) → AreTold 0 chunks next → next < 2 ^ 64
    → IsGeneration (beginning chunks next)
    (reopened (record { chunks = chunks; next = next; queue = [] }))

-- Where each live chunk's entries lie at its places, and then a record comes, and the places change
-- as its end says, the entries lie there again.
abbrev pub PlacesFollow : Type 0
PlacesFollow = (seen more : List ℕ) (old new : Spots) (state : State) (item : Record) (end : ℕ)
    → IsStrictlySortedBy nat_cmp (keys_of state.chunks)
    → ArePlaced seen old state → EndsAt (seen ++ more) item end → MovesPlaces item end old new
    → ArePlaced (seen ++ more) new (after state item)

-- a generation leads to chunks whose serials rise
abbrev pub LeadsInOrder : Type 0
LeadsInOrder = (records : List Record) (state : State) → Leads records state
    → IsStrictlySortedBy nat_cmp (keys_of state.chunks)

-- and so do records before a Seal
abbrev pub TellsInOrder : Type 0
TellsInOrder = (records : List Record) → IsUnsealed records
    → IsStrictlySortedBy nat_cmp (keys_of (after_all empty records).chunks)

-- whatever stands before a record, its entries end where it ends
abbrev pub EndsWithEntries : Type 0
EndsWithEntries = (seen : List ℕ) (item : Record)
    → EndsAt (seen ++ record_bytes item) item (length (seen ++ record_bytes item))
