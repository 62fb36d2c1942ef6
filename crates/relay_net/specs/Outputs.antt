-- What an output's settings say.
use Rattle.std.specs.Prelude.{◌≡◌, ◌==◌, ◌&&◌, ℕ, Bool, true, false, List, [], Option, Some, None, IsSome, is_some, is_none}
use Rattle.std.specs.Option.{option_map_or}
use Rattle.relay_conf.specs.BufferSection.{kind_view}
use Rattle.relay_conf.specs.declared.buffer.BufferSettings.{BufferSettings}
use Rattle.relay_conf.specs.declared.buffer.OverflowAction.{OverflowAction}
use Rattle.relay_conf.specs.declared.buffer.OverflowAction.TheVariants.{ThrowException, DropOldestChunk}
use Rattle.relay_conf.specs.declared.output.Output.{Output}
use Rattle.relay_conf.specs.declared.output.Output.TheVariants as output
use Rattle.relay_conf.specs.declared.output.Server.{Server}

-- the number is there and is this buffer
abbrev pub is_numbered : Option ℕ → ℕ → Bool
is_numbered found buffer = option_map_or (λ number. number == buffer) found false

-- the settings of an output's buffer
abbrev pub settings_of : {A : Type 0} → Output A → Option (BufferSettings A)
settings_of (output.Forward settings line) = Some settings.buffer
settings_of (output.File settings line) = Some settings.buffer
settings_of _ = None

-- the servers that an output sends to
abbrev pub servers_of : {A : Type 0} → Output A → List (Server A)
servers_of (output.Forward settings line) = settings.servers.items
servers_of _ = []

-- the output has a buffer, whose chunks are in memory
abbrev pub has_memory : {A : Type 0} → Output A → Bool
has_memory o = option_map_or (λ settings. is_none (kind_view settings.kind)) (settings_of o) false

-- A buffer that lets no chunk go before it is delivered: its chunks outlive a restart, it tries for
-- ever, and it refuses what comes when it is full.
pub record KeepsChunks {A : Type 0} (settings : BufferSettings A) : Type 0 where
  pub in_file : IsSome (kind_view settings.kind)
  pub for_ever : settings.retry.forever ≡ true
  pub refuses : settings.overflow_action ≡ ThrowException

-- An output that lets go of nothing before it is delivered.
abbrev pub Keeps : {A : Type 0} → Output A → Type 0
Keeps (output.Forward settings line) = KeepsChunks settings.buffer
    × (settings.require_ack_response ≡ true)
Keeps (output.File settings line) = KeepsChunks settings.buffer
Keeps _ = ⊥

-- a full buffer refuses what comes
abbrev pub is_refusing : OverflowAction → Bool
is_refusing ThrowException = true
is_refusing DropOldestChunk = false

-- whether a buffer lets no chunk go before it is delivered
abbrev pub keeps_chunks : {A : Type 0} → BufferSettings A → Bool
keeps_chunks settings = is_some (kind_view settings.kind)
    && (settings.retry.forever && is_refusing settings.overflow_action)
