-- How the workers of a pool ended.
use Rattle.std.proofs.Common.{ℕ, ◌≡◌, Result, subst}
use Rattle.ack_receipt.specs.Terms.{Terms}
use Rattle.ack_receipt.specs.Claims.{Claimed}
use Rattle.ack_receipt.specs.Evidences.{Shows}
use Rattle.buffer_store.specs.declared.fault.BufferFault.{BufferFault}
use Rattle.flush_pool.specs.Acts.{at}
use Rattle.flush_pool.specs.Rounds.{HaveWorked}
use Rattle.flush_pool.specs.declared.worked.Worked.{Worked}
use Rattle.retry_waits.specs.declared.settings.RetrySettings.{RetrySettings}

-- what is said of one post is said of another that is equal to it
pub ended_at : {A C G : Type 0} (lets : G → ℕ → Type 0) (gives : C → Claimed → Shows → Type 0) (terms terms' : Terms A) (carrier carrier' : C) (gate : G) (retry retry' : RetrySettings)
    (n n' : ℕ) (done : Result Worked BufferFault) → terms ≡ terms' → carrier ≡ carrier' → retry ≡ retry' → n ≡ n'
    → HaveWorked lets gives (at terms carrier gate retry) n done → HaveWorked lets gives (at terms' carrier' gate retry') n' done
ended_at {A} {C} lets gives terms terms' carrier carrier' gate retry retry' n n' done t c r m worked =
    subst (λ (x : Terms A). HaveWorked lets gives (at x carrier' gate retry') n' done) t
    (subst (λ (x : C). HaveWorked lets gives (at terms x gate retry') n' done) c
    (subst (λ (x : RetrySettings). HaveWorked lets gives (at terms carrier gate x) n' done) r
    (subst (λ (x : ℕ). HaveWorked lets gives (at terms carrier gate retry) x done) m worked)))
