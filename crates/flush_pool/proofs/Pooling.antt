-- How several workers ended, from how each did.
use Rattle.std.proofs.Common.{◌≡◌, ◌+◌, ℕ, sym, subst, Result, Ok}
use Rattle.buffer_store.specs.declared.fault.BufferFault.{BufferFault}
use Rattle.ack_receipt.specs.Claims.{Claimed}
use Rattle.ack_receipt.specs.Evidences.{Shows}
use Rattle.flush_pool.specs.declared.worked.Worked.{Worked}
use Rattle.flush_pool.specs.Acts.{Post}
use Rattle.flush_pool.specs.Counts.{none}
use Rattle.flush_pool.specs.Rounds.{HasWorked, HaveWorked, Nobody, OneMore, both}

module _ {A C G : Type 0} (lets : G → ℕ → Type 0) (gives : C → Claimed → Shows → Type 0)
    (post : Post A C G) where
  -- nobody worked
  pub nobody : (threads : ℕ) (worked : Worked) → threads ≡ 0 → worked ≡ none
      → HaveWorked lets gives post threads (Ok worked)
  nobody threads worked nought nothing =
      subst (λ n. HaveWorked lets gives post n (Ok worked)) (sym nought)
      (subst (λ w. HaveWorked lets gives post 0 (Ok w)) (sym nothing) Nobody)

  -- one worked, and so many others
  pub one_more : (threads rest : ℕ) (one others ended : Result Worked BufferFault)
      → rest + 1 ≡ threads → HasWorked lets gives post one
      → HaveWorked lets gives post rest others → ended ≡ both one others
      → HaveWorked lets gives post threads ended
  one_more threads rest one others ended count first more is =
      subst (λ n. HaveWorked lets gives post n ended) count
      (subst (λ e. HaveWorked lets gives post (rest + 1) e) (sym is) (OneMore rest one others first more))
