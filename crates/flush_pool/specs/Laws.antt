-- The laws of a worker's acts: what has to stand before each of them.
use Rattle.std.specs.Prelude.{ℕ, ◌≡◌, ◌≢◌, ◌⊎◌, true, false, List, [], ◌∷◌, Option, None, Some, IsSome}
use Rattle.event_modes.specs.declared.chunk_id.ChunkId.{ChunkId}
use Rattle.book_audit.specs.declared.line.Leaf.{Leaf}
use Rattle.buffer_store.specs.declared.fault.BufferFault.{BufferFault}
use Rattle.buffer_store.specs.declared.fault.BufferFault.TheVariants as store
use Rattle.ack_receipt.specs.declared.book_fault.PurgeFault.{PurgeFault}
use Rattle.ack_receipt.specs.declared.book_fault.PurgeFault.TheVariants as purge
use Rattle.ack_receipt.specs.declared.takes.Takes.{Takes}
use Rattle.ack_receipt.specs.Claims as claims
use Rattle.ack_receipt.specs.Evidences.{Shows, Expired, named, IsOfKind}
use Rattle.flush_pool.specs.declared.fault.CarryFault.{CarryFault}
use Rattle.flush_pool.specs.declared.fault.CarryFault.TheVariants as carry
use Rattle.flush_pool.specs.declared.verdict.Verdict.TheVariants.{Try, Wait, GiveUp}
use Rattle.flush_pool.specs.Verdicts.{IsVerdictBy}
use Rattle.flush_pool.specs.Acts.{Act, Looked, Unclaimed, Claimed, Judged, Asked, Carried, NotCarried, Checked, Purged, NotPurged, Noted, NotNoted, Forgot, GaveBack, Post, last, held}

-- the faults of a buffer that end a worker: there was no memory, or it has failed before
abbrev pub ends_at : BufferFault → Option BufferFault
ends_at store.Memory = Some store.Memory
ends_at store.Failed = Some store.Failed
ends_at _ = None

-- the fault that ends a worker whose purge was refused
abbrev pub ends_at_purge : PurgeFault → Option BufferFault
ends_at_purge purge.Stranger = None
ends_at_purge (purge.Buffer fault) = ends_at fault

-- the fault that ends a worker whose courier failed: no other than that there was no memory
abbrev pub ends_at_carry : CarryFault → Option BufferFault
ends_at_carry carry.Memory = Some store.Memory
ends_at_carry _ = None

-- the fault that ends a worker which found this
abbrev pub ends_at_act : Act → Option BufferFault
ends_at_act Unclaimed = Some store.Memory
ends_at_act (NotCarried serial fault) = ends_at_carry fault
ends_at_act (Checked serial true) = Some store.Failed
ends_at_act (NotPurged serial shown fault) = ends_at_purge fault
ends_at_act (NotNoted serial) = Some store.Memory
ends_at_act _ = None

-- the fault by which a worker has to end that did this; it has to also when it then gave its chunk
-- back
abbrev pub ends_by : List Act → Option BufferFault
ends_by [] = None
ends_by (GaveBack serial ∷ []) = None
ends_by (GaveBack serial ∷ (act ∷ acts)) = ends_at_act act
ends_by (act ∷ acts) = ends_at_act act

-- the name of the chunk of this serial in the buffer of this name
abbrev pub id_at : Leaf → ℕ → ChunkId
id_at leaf serial = record { relay = leaf.relay; buffer = leaf.buffer; serial = serial }

-- the evidence names the chunk of this serial, and is of a kind that lets chunks of this buffer go
abbrev pub IsTaken : {A : Type 0} → Leaf → Takes A → ℕ → Shows → Type 0
IsTaken leaf takes serial shown = (named shown ≡ id_at leaf serial) × IsOfKind takes shown

-- the evidence is what the courier gave just now for the chunk; or that its retries are over, where
-- that was the verdict just now
abbrev pub IsEarned : Leaf → ℕ → Shows → List Act → Type 0
IsEarned leaf serial shown acts = (last acts ≡ Some (Carried serial shown))
    ⊎ ((shown ≡ Expired (id_at leaf serial)) × (last acts ≡ Some (Judged serial GiveUp)))

-- The delivery of the chunk failed just now: the gate never said yes; or its courier failed, and
-- the buffer hasn't; or the purge was refused, and not so that the worker ends.
abbrev pub HasFailed : ℕ → List Act → Type 0
HasFailed serial acts = (last acts ≡ Some (Asked serial false))
    ⊎ ((last acts ≡ Some (Checked serial false))
    ⊎ ((shown : Shows) × (fault : PurgeFault) × (last acts ≡ Some (NotPurged serial shown fault))
    × (ends_at_purge fault ≡ None)))

-- The chunk may be given back: it is to wait; or its delivery failed, which was noted just now; or
-- the worker has to end.
abbrev pub IsToGoBack : ℕ → List Act → Type 0
IsToGoBack serial acts = (last acts ≡ Some (Judged serial Wait))
    ⊎ ((last acts ≡ Some (Noted serial)) ⊎ IsSome (ends_by acts))

-- the chunk was purged just now
abbrev pub WasPurged : ℕ → List Act → Type 0
WasPurged serial acts = (shown : Shows) × (last acts ≡ Some (Purged serial shown))

-- What has to stand before an act of a worker at the buffer of this name, which takes this.
abbrev pub May : {A : Type 0} → Leaf → Takes A → List Act → Act → Type 0
-- it looks whether it is to stop with nothing in its hands, and not where it has to end
May leaf takes acts (Looked stop) = (held acts ≡ None) × (ends_by acts ≡ None)
-- it claims a chunk at once behind a look that said no
May leaf takes acts (Claimed serial) = last acts ≡ Some (Looked false)
May leaf takes acts Unclaimed = last acts ≡ Some (Looked false)
-- what it claimed is judged, what is to be tried the gate is asked for, and what the gate lets
-- through is carried
May leaf takes acts (Judged serial verdict) = last acts ≡ Some (Claimed serial)
May leaf takes acts (Asked serial answer) = last acts ≡ Some (Judged serial Try)
May leaf takes acts (Carried serial shown) = last acts ≡ Some (Asked serial true)
May leaf takes acts (NotCarried serial fault) = last acts ≡ Some (Asked serial true)
-- where the courier failed, but for want of memory, it asks whether the buffer has
May leaf takes acts (Checked serial failed) = (fault : CarryFault)
    × (last acts ≡ Some (NotCarried serial fault)) × (fault ≢ carry.Memory)
-- it purges on what the courier gave or at the end of retries, and what is purged the buffer takes;
-- at once what is known of failures is forgotten
May leaf takes acts (Purged serial shown) = IsEarned leaf serial shown acts
    × IsTaken leaf takes serial shown
May leaf takes acts (NotPurged serial shown fault) = IsEarned leaf serial shown acts
May leaf takes acts (Forgot serial) = WasPurged serial acts
-- it notes a failure that doesn't end it, as far as there is memory
May leaf takes acts (Noted serial) = HasFailed serial acts
May leaf takes acts (NotNoted serial) = HasFailed serial acts
-- it gives back the chunk that it holds
May leaf takes acts (GaveBack serial) = (held acts ≡ Some serial) × IsToGoBack serial acts

-- this was given for a claimed chunk of this serial, of the buffer of this name
abbrev pub IsGivenAt : (gives : claims.Claimed → Shows → Type 0) → Leaf → ℕ → Shows → Type 0
IsGivenAt gives leaf serial shown =
    (claim : claims.Claimed) × (claim.leaf ≡ leaf) × (claim.serial ≡ serial) × gives claim shown

-- Who answers for an act, at a post whose gate lets these serials through and whose courier gives
-- these: a verdict is by the settings of its retries, and by whether its buffer lets chunks expire;
-- a gate's yes is its own, and what shows that a chunk was carried its courier gave for it.
abbrev pub IsVouched : {A C G : Type 0} → (lets : G → ℕ → Type 0)
    → (gives : C → claims.Claimed → Shows → Type 0) → Post A C G → Act → Type 0
IsVouched lets gives post (Judged serial verdict) =
    IsVerdictBy post.retry post.terms.takes.expires verdict
IsVouched lets gives post (Asked serial answer) = answer ≡ true → lets post.gate serial
IsVouched lets gives post (Carried serial shown) =
    IsGivenAt (gives post.courier) post.terms.leaf serial shown
IsVouched lets gives post _ = Unit {0}

-- each act of a worker at this post stands where it may, and what is of the post answers for it
abbrev pub AreLawful : {A C G : Type 0} → (lets : G → ℕ → Type 0)
    → (gives : C → claims.Claimed → Shows → Type 0) → Post A C G → List Act → Type 0
AreLawful lets gives post [] = Unit {0}
AreLawful lets gives post (act ∷ acts) = May post.terms.leaf post.terms.takes acts act
    × IsVouched lets gives post act × AreLawful lets gives post acts
