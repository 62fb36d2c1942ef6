-- The section of a buffer (Fluentd, "Config: Buffer Section"): its parameters, what their words mean,
-- and the buffer that a section describes, where each value is that of its last line, or the
-- default.
use Rattle.std.specs.Prelude.{◌≡◌, ℕ, ◌*◌, ◌^◌, ◌||◌, Bool, true, false, List, [], ◌∷◌, codes, Option, Some, None, unwrap_or, option_and_then, if◌then◌else◌, string_bytes}
use Rattle.std.specs.Option.{option_map_or}
use Rattle.std.specs.Int.{is_in_range}
use Rattle.std.specs.Str.{bytes_eq}
use Rattle.conf_text.specs.Trees.{Setting, Tree}
use Rattle.conf_values.specs.Numbers.{number_of}
use Rattle.conf_values.specs.Amounts.{size_of, seconds_of}
use Rattle.conf_values.specs.Words.{boolean_of}
use Rattle.retry_waits.specs.declared.settings.RetrySettings.{RetrySettings}
use Rattle.relay_conf.specs.declared.buffer.BufferKind.{BufferKind}
use Rattle.relay_conf.specs.declared.buffer.BufferKind.TheVariants as kind
use Rattle.relay_conf.specs.declared.buffer.BufferSettings.{BufferSettings}
use Rattle.relay_conf.specs.declared.buffer.FlushMode.{FlushMode}
use Rattle.relay_conf.specs.declared.buffer.FlushMode.TheVariants.{Interval, Immediate}
use Rattle.relay_conf.specs.declared.buffer.OverflowAction.{OverflowAction}
use Rattle.relay_conf.specs.declared.buffer.OverflowAction.TheVariants.{ThrowException, DropOldestChunk}
use Rattle.relay_conf.specs.Checks.{Check, any_text, among, bad_unless, outside_unless, path_fault, reads}
use Rattle.relay_conf.specs.Elements.{last_child, read_or, settings_of, value_of}

-- the default acts as the interval, since tags alone tell chunks apart
abbrev pub flush_mode_of : List ℕ → Option FlushMode
flush_mode_of text = if bytes_eq text (codes "default") || bytes_eq text (codes "interval")
    then Some Interval else (if bytes_eq text (codes "immediate") then Some Immediate else None)

-- what follows where a buffer is full
abbrev pub overflow_of : List ℕ → Option OverflowAction
overflow_of text = if bytes_eq text (codes "throw_exception") then Some ThrowException
    else (if bytes_eq text (codes "drop_oldest_chunk") then Some DropOldestChunk else None)

-- the number of threads that a text spells: a whole number from 1 to 64
abbrev pub threads_of : List ℕ → Option ℕ
threads_of text = option_and_then (λ n. if is_in_range 1 64 n then Some n else None)
    (number_of text)

-- whether a buffer's chunks are in files
abbrev pub is_file_of : List ℕ → Option Bool
is_file_of text = if bytes_eq text (codes "file") then Some true
    else (if bytes_eq text (codes "memory") then Some false else None)

-- whether the chunks are in files: in memory, where the section has no type
abbrev pub has_files : List Setting → Bool
has_files settings = unwrap_or (option_and_then is_file_of (value_of (codes "@type") settings))
    false

-- the parameters, beside the type
abbrev pub buffer_parameters : List ℕ → Option Check
buffer_parameters = among
    ((codes "path", path_fault)
    ∷ (codes "flush_mode", outside_unless (reads flush_mode_of))
    ∷ (codes "flush_interval", bad_unless (reads seconds_of))
    ∷ (codes "flush_thread_count", bad_unless (reads threads_of))
    ∷ (codes "flush_at_shutdown", any_text)
    ∷ (codes "retry_type", outside_unless (λ text. bytes_eq text (codes "exponential_backoff")))
    ∷ (codes "retry_wait", bad_unless (reads seconds_of))
    ∷ (codes "retry_exponential_backoff_base", bad_unless (reads number_of))
    ∷ (codes "retry_max_interval", bad_unless (reads seconds_of))
    ∷ (codes "retry_max_times", bad_unless (reads number_of))
    ∷ (codes "retry_timeout", bad_unless (reads seconds_of))
    ∷ (codes "retry_forever", bad_unless (reads boolean_of))
    ∷ (codes "retry_randomize", any_text)
    ∷ (codes "overflow_action", outside_unless (reads overflow_of))
    ∷ (codes "chunk_limit_size", bad_unless (reads size_of))
    ∷ (codes "total_limit_size", bad_unless (reads size_of))
    ∷ [])

-- when a delivery is tried again: after 1 s, then twice as long each time, for 72 hours
abbrev pub retry_of : List Setting → RetrySettings
retry_of settings = record {
  wait = read_or seconds_of 1 (value_of (codes "retry_wait") settings);
  exponential_backoff_base =
      read_or number_of 2 (value_of (codes "retry_exponential_backoff_base") settings);
  max_interval = option_and_then seconds_of (value_of (codes "retry_max_interval") settings);
  max_times = option_and_then number_of (value_of (codes "retry_max_times") settings);
  timeout = read_or seconds_of (72 * 60 * 60) (value_of (codes "retry_timeout") settings);
  forever = read_or boolean_of false (value_of (codes "retry_forever") settings);
}

-- the path of a buffer's files
abbrev pub kind_view : {A : Type 0} → BufferKind A → Option (List ℕ)
kind_view kind.Memory = None
kind_view (kind.File path) = Some (string_bytes path)

-- The buffer that these parameters describe. In files a chunk may have 256 MB, and the buffer 64 GB;
-- in memory 8 MB and 512 MB.
pub record IsBufferOf {A : Type 0} (settings : List Setting) (b : BufferSettings A) : Type 0 where
  pub kind : kind_view b.kind ≡ (if has_files settings
      then Some (unwrap_or (value_of (codes "path") settings) []) else None)
  pub flush_mode : b.flush_mode
      ≡ read_or flush_mode_of Interval (value_of (codes "flush_mode") settings)
  pub flush_interval : b.flush_interval
      ≡ read_or seconds_of 60 (value_of (codes "flush_interval") settings)
  pub flush_thread_count : b.flush_thread_count
      ≡ read_or threads_of 1 (value_of (codes "flush_thread_count") settings)
  pub retry : b.retry ≡ retry_of settings
  pub overflow_action : b.overflow_action
      ≡ read_or overflow_of ThrowException (value_of (codes "overflow_action") settings)
  pub chunk_limit_size : b.chunk_limit_size
      ≡ read_or size_of (if has_files settings then 256 * 1024 ^ 2 else 8 * 1024 ^ 2)
      (value_of (codes "chunk_limit_size") settings)
  pub total_limit_size : b.total_limit_size
      ≡ read_or size_of (if has_files settings then 64 * 1024 ^ 3 else 512 * 1024 ^ 2)
      (value_of (codes "total_limit_size") settings)

-- the buffer of the last buffer section, or one of defaults where there is none
abbrev pub IsBufferIn : {A : Type 0} → List Tree → BufferSettings A → Type 0
IsBufferIn children b =
    IsBufferOf (option_map_or settings_of (last_child (codes "buffer") children) []) b

-- a parameter
abbrev pub said : (name value : List ℕ) → Setting
said name value = record { name = name; value = value; line = 0 }

-- the parameters of a buffer in files of this name that lets no chunk go before it is delivered
abbrev pub keeping_settings : List ℕ → List Setting
keeping_settings path =
    said (codes "@type") (codes "file")
    ∷ said (codes "path") path
    ∷ said (codes "retry_forever") (codes "true")
    ∷ []
