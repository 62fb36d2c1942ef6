-- Which buffer is of which output.
use Rattle.std.specs.Prelude.{ℕ, ◌≡◌, ◌*◌, ◌-◌, ◌^◌, List, Option, min, string_bytes}
use Rattle.ack_receipt.specs.Terms.{Terms}
use Rattle.loop_core.specs.Schedules.{Plan, staged_at}
use Rattle.buffer_state.specs.declared.limits.Limits.{Limits}
use Rattle.buffer_state.specs.State.{State}
use Rattle.buffer_store.specs.Buffers.{Held}
use Rattle.relay_conf.specs.declared.buffer.BufferKind.{BufferKind}
use Rattle.relay_conf.specs.declared.buffer.BufferKind.TheVariants.{Memory, File}
use Rattle.relay_conf.specs.declared.buffer.BufferSettings.{BufferSettings}
use Rattle.relay_ports.specs.declared.buffered.BufferedOutput.{BufferedOutput}
use Rattle.relay_ports.specs.Outputs.{AreTakesOf, number_of, settings_of}

-- a buffer as it was opened: what it takes at most, how long its journal is never too long, the
-- name of its files, and its chunks
pub record Opened : Type 0 where
  pub limits : Limits
  pub renewed_past : ℕ
  pub name : List ℕ
  pub chunks : State

-- what is remembered of this buffer
abbrev pub opened_as : {D : Type 0} → Held D → Opened
opened_as buffer = record {
  limits = buffer.limits;
  renewed_past = buffer.renewed_past;
  name = buffer.journal.path;
  chunks = buffer.chunks;
}

-- a buffer that is shared: its terms, and the buffer itself as it was opened
pub record Shared (D A : Type 0) : Type 0 where
  pub terms : Terms A
  pub opened : Held D

-- how many bytes of entries a chunk, and all of them, may have by these settings
abbrev pub limits_of : {A : Type 0} → BufferSettings A → Limits
limits_of settings = record { chunk = settings.chunk_limit_size; total = settings.total_limit_size }

-- past how many bytes the journal of such a buffer may be written anew: 16 MiB in memory, and 256
-- MiB on a disk
abbrev pub renewed_past_of : {A : Type 0} → BufferKind A → ℕ
renewed_past_of Memory = 16777216
renewed_past_of (File path) = 268435456

-- the files of a buffer that has files are named by its path
abbrev pub IsNamedBy : {A : Type 0} → BufferKind A → (name : List ℕ) → Type 0
IsNamedBy Memory name = Unit {0}
IsNamedBy (File path) name = name ≡ string_bytes path

-- a buffer was opened as these settings say: with their limits, and by their kind and their name
pub record IsSetAs {A : Type 0} (settings : BufferSettings A) (buffer : Opened) : Type 0 where
  pub limits : buffer.limits ≡ limits_of settings
  pub renewed_past : buffer.renewed_past ≡ renewed_past_of settings.kind
  pub name : IsNamedBy settings.kind buffer.name

-- the buffer is of this output of the relay with this number: it has the output's number, and its
-- chunks go as the output's settings say
pub record IsBufferOf {A B : Type 0} (number : ℕ) (found : BufferedOutput A)
    (terms : Terms B) : Type 0 where
  pub leaf : terms.leaf ≡ record { relay = number; buffer = number_of found }
  pub takes : AreTakesOf found terms.takes

-- an output of the relay with this number, and its buffer, also as it was opened, and in which
-- folder of the system, if it isn't in memory
pub record Owned (A : Type 0) : Type 0 where
  pub number : ℕ
  pub output : BufferedOutput A
  pub terms : Terms A
  pub opened : Opened
  pub path : Option (List ℕ)

-- this output of the relay with this number, and this buffer, which was opened there
abbrev pub owned_by : {D A : Type 0} → (number : ℕ) → BufferedOutput A → Shared D A
    → (path : Option (List ℕ)) → Owned A
owned_by number output share path =
    record {
      number = number;
      output = output;
      terms = share.terms;
      opened = opened_as share.opened;
      path = path;
    }

-- the buffer is the output's own, and was opened as the output's settings say
pub record IsOwned {A : Type 0} (owned : Owned A) : Type 0 where
  pub buffer : IsBufferOf owned.number owned.output owned.terms
  pub set : IsSetAs (settings_of owned.output) owned.opened

-- staged chunks are queued when these settings say: at once, or after their interval, which is in
-- milliseconds here
abbrev pub IsScheduledBy : {A : Type 0} → BufferSettings A → Plan → Type 0
IsScheduledBy settings plan = (plan.mode ≡ settings.flush_mode)
    × (plan.interval ≡ min (settings.flush_interval * 1000) (2 ^ 64 - 1))

-- The output's staged chunks are queued when its settings say: they are those that its buffer had
-- when it was opened, since then.
pub record IsPlanned {A : Type 0} (since : ℕ) (owned : Owned A) (plan : Plan) : Type 0 where
  pub scheduled : IsScheduledBy (settings_of owned.output) plan
  pub staged : plan.chunks ≡ staged_at since owned.opened.chunks
