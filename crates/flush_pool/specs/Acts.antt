-- What a worker does at a shared buffer, one act after another.
use Rattle.std.specs.Prelude.{ℕ, Bool, List, [], ◌∷◌, Option, None, Some}
use Rattle.ack_receipt.specs.declared.book_fault.PurgeFault.{PurgeFault}
use Rattle.ack_receipt.specs.Evidences.{Shows}
use Rattle.ack_receipt.specs.Terms.{Terms}
use Rattle.retry_waits.specs.declared.settings.RetrySettings.{RetrySettings}
use Rattle.flush_pool.specs.declared.fault.CarryFault.{CarryFault}
use Rattle.flush_pool.specs.declared.verdict.Verdict.{Verdict}

-- An act, and what came of it. All but a look at whether it is to stop, and a claim that there was
-- no memory for, are on the chunk of a serial.
pub data Act : Type 0 where
  Looked : (stop : Bool) → Act
  Unclaimed : Act
  Claimed : (serial : ℕ) → Act
  Judged : (serial : ℕ) (verdict : Verdict) → Act
  Asked : (serial : ℕ) (answer : Bool) → Act
  Carried : (serial : ℕ) (shown : Shows) → Act
  NotCarried : (serial : ℕ) (fault : CarryFault) → Act
  Checked : (serial : ℕ) (failed : Bool) → Act
  Purged : (serial : ℕ) (shown : Shows) → Act
  NotPurged : (serial : ℕ) (shown : Shows) (fault : PurgeFault) → Act
  Noted : (serial : ℕ) → Act
  NotNoted : (serial : ℕ) → Act
  Forgot : (serial : ℕ) → Act
  GaveBack : (serial : ℕ) → Act

-- what a worker works with: its buffer, by its name and what lets its chunks go, its courier, its
-- gate, and the settings of its retries
pub record Post (A C G : Type 0) : Type 0 where
  pub terms : Terms A
  pub courier : C
  pub gate : G
  pub retry : RetrySettings

-- the post at this buffer, with this courier, this gate, and retries by these settings
abbrev pub at : {A C G : Type 0} → Terms A → C → G → RetrySettings → Post A C G
at terms courier gate retry =
    record { terms = terms; courier = courier; gate = gate; retry = retry }

-- a worker's post, and what the worker did there, the last act first
pub record Place (A C G : Type 0) : Type 0 where
  pub post : Post A C G
  pub acts : List Act

-- the place of a worker that did nothing yet
abbrev pub idle : {A C G : Type 0} → Post A C G → Place A C G
idle post = record { post = post; acts = [] }

-- the place after one act more
abbrev pub did : {A C G : Type 0} → Act → Place A C G → Place A C G
did act place = record { post = place.post; acts = act ∷ place.acts }

-- what was done last
abbrev pub last : List Act → Option Act
last [] = None
last (act ∷ acts) = Some act

-- the chunk that a worker has in its hands: the one that it claimed last, until that is purged or
-- given back
abbrev pub held : List Act → Option ℕ
held [] = None
held (Claimed serial ∷ acts) = Some serial
held (Purged serial shown ∷ acts) = None
held (GaveBack serial ∷ acts) = None
held (Looked stop ∷ acts) = held acts
held (Unclaimed ∷ acts) = held acts
held (Judged serial verdict ∷ acts) = held acts
held (Asked serial answer ∷ acts) = held acts
held (Carried serial shown ∷ acts) = held acts
held (NotCarried serial fault ∷ acts) = held acts
held (Checked serial failed ∷ acts) = held acts
held (NotPurged serial shown fault ∷ acts) = held acts
held (Noted serial ∷ acts) = held acts
held (NotNoted serial ∷ acts) = held acts
held (Forgot serial ∷ acts) = held acts
