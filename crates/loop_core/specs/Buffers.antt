-- The buffers of a relay, as they are opened.
use Rattle.std.specs.Prelude.{ℕ, ◌≡◌, List, Option}
use Rattle.std.specs.List.{All, AllZip}
use Rattle.disk_files.specs.Disk.{reads}
use Rattle.disk_files.specs.Moments.{History, now}
use Rattle.journal_files.specs.Folders.{Opens}
use Rattle.loop_core.specs.Schedules.{Plan}
use Rattle.ack_receipt.specs.Terms.{Terms}
use Rattle.relay_conf.specs.declared.buffer.BufferKind.{BufferKind}
use Rattle.relay_ports.specs.declared.buffered.BufferedOutput.{BufferedOutput}
use Rattle.relay_ports.specs.Outputs.{settings_of}
use Rattle.loop_core.specs.Owners.{IsBufferOf, IsPlanned, IsSetAs, Owned}

-- these are the buffers of these outputs of the relay with this number, one for each, in their
-- order
abbrev pub AreBuffersOf : {A B : Type 0} → ℕ → List (BufferedOutput A) → List (Terms B) → Type 0
AreBuffersOf number outputs buffers = AllZip (IsBufferOf number) outputs buffers

-- the staged chunks of these outputs' buffers, which were opened then, are queued so
abbrev pub ArePlanned : {A : Type 0} → (since : ℕ) → List (Owned A) → List Plan → Type 0
ArePlanned since owned plans = AllZip (IsPlanned since) owned plans

-- an output whose buffer is open: the folder as the opening found it, and when its staged chunks
-- are queued
pub record OpenState (D A : Type 0) : Type 0 where
  pub owned : Owned A
  pub folder : D
  pub plan : Plan

-- each of these buffers was opened in the folder of the system that its kind has, or in memory
abbrev pub ArePlaced : {A : Type 0} → (path : BufferKind A → Option (List ℕ)) → List (Owned A)
    → Type 0
ArePlaced path owned = All (λ one. one.path ≡ path (settings_of one.output).kind) owned

-- A buffer was opened as its output's settings say, in a folder for its kind: if that is honest,
-- its chunks are those that the journal there means.
pub record IsOpenIn {D A : Type 0} (is_for : BufferKind A → D → Type 0) (is_honest : D → Type 0)
    (history : D → History) (one : OpenState D A) : Type 0 where
  pub set : IsSetAs (settings_of one.owned.output) one.owned.opened
  pub folder : is_for (settings_of one.owned.output).kind one.folder
  pub chunks : is_honest one.folder
      → Opens one.owned.opened.name (reads (now (history one.folder))) one.owned.opened.chunks
