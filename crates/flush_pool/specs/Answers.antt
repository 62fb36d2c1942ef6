-- What an act leaves, by what came of it.
use Rattle.std.specs.Prelude.{ℕ, ◌≡◌, Option, Some, None, Result, Ok, Err}
use Rattle.ack_receipt.specs.Claims.{Claimed}
use Rattle.ack_receipt.specs.Evidences.{Shows}
use Rattle.ack_receipt.specs.declared.book_fault.PurgeFault.{PurgeFault}
use Rattle.flush_pool.specs.declared.fault.CarryFault.{CarryFault}
use Rattle.flush_pool.specs.Acts as acts
use Rattle.flush_pool.specs.Acts.{Place, did}

-- a chunk of this buffer was claimed; or none is queued, and nothing was done; or memory ran out
abbrev pub IsClaimed : {A C G E : Type 0} → (old new : Place A C G)
    → Result (Option Claimed) E → Type 0
IsClaimed old new (Ok (Some claim)) =
    (claim.leaf ≡ old.post.terms.leaf) × (new ≡ did (acts.Claimed claim.serial) old)
IsClaimed old new (Ok None) = new ≡ old
IsClaimed old new (Err fault) = new ≡ did acts.Unclaimed old

-- the chunk was carried, and this shows it; or it wasn't
abbrev pub IsCarried : {A C G : Type 0} → ℕ → (old new : Place A C G)
    → Result Shows CarryFault → Type 0
IsCarried serial old new (Ok shown) = new ≡ did (acts.Carried serial shown) old
IsCarried serial old new (Err fault) = new ≡ did (acts.NotCarried serial fault) old

-- the claimed chunk was purged by this evidence; or it wasn't, and claim and evidence come back
abbrev pub IsPurged : {A C G T : Type 0} → Claimed → Shows → (old new : Place A C G)
    → Result T (PurgeFault × Claimed × Shows) → Type 0
IsPurged claim shown old new (Ok done) = new ≡ did (acts.Purged claim.serial shown) old
IsPurged claim shown old new (Err refused) =
    (new ≡ did (acts.NotPurged claim.serial shown refused.0) old) × (refused.1 ≡ claim)
    × (refused.2 ≡ shown)

-- the failure was noted; or memory ran out, and it wasn't
abbrev pub IsNoted : {A C G T E : Type 0} → ℕ → (old new : Place A C G) → Result T E → Type 0
IsNoted serial old new (Ok done) = new ≡ did (acts.Noted serial) old
IsNoted serial old new (Err fault) = new ≡ did (acts.NotNoted serial) old
