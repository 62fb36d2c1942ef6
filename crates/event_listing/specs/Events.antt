-- Which line stands for an event.
use Rattle.std.specs.Prelude.{ℕ, ℤ, pos, negsuc, neg_ℤ, ◌*ℤ◌, ◌+ℤ◌, ◌≤ℤ◌, ◌≡◌, ◌≤◌, ◌<◌, ◌⊎◌, false, List, [], ◌∷◌, ◌++◌, length, codes, take, drop, Some}
use Rattle.std.specs.Fmt.{signed_decimal}
use Rattle.std.specs.Int.{w32, from_be_bytes}
use Rattle.jiff_core.specs.declared.civil.datetime.DateTime.{DateTime}
use Rattle.jiff_core.specs.DateTime.{civil_nanos}
use Rattle.jiff_fmt.specs.Text.{datetime_text, zulu_text}
use Rattle.json.specs.Token.{Token, begin_object, end_object, key, string, number}
use Rattle.json.specs.Print.{print}
use Rattle.msgpack_bytes.specs.Kinds.{IsInteger}
use Rattle.event_modes.specs.Entry.{IsEventTime, IsEntry}
use Rattle.event_listing.specs.Json.{IsTextJson, IsJson, ext_tokens}

-- so many nanoseconds are a second
abbrev pub second : ℕ
second = 1000000000

-- the instant so many nanoseconds after the beginning of 1970, as RFC 3339 writes it, in UTC and
-- with so many places behind the seconds
pub record IsInstant (places : ℕ) (nanos : ℤ) (text : List ℕ) : Type 0 where
  pub shown : DateTime
  pub is : civil_nanos shown ≡ nanos
  pub text_is : text ≡ datetime_text false 84 (Some places) shown ++ zulu_text false

-- so many seconds after the beginning of 1970 are written as a date: from 0000-01-01T00:00:00Z to
-- 9999-12-30T21:59:59Z
pub record IsDated (seconds : ℤ) : Type 0 where
  pub first : neg_ℤ (pos 62167219200) ≤ℤ seconds
  pub last : seconds ≤ℤ pos 253402207199

-- a time in whole seconds
pub data IsSecondsJson (seconds : ℤ) (tokens : List Token) : Type 0 where
  Dated : (text : List ℕ) → IsDated seconds → IsInstant 0 (seconds *ℤ pos second) text
      → tokens ≡ string text ∷ [] → IsSecondsJson seconds tokens
  Undated : (IsDated seconds → ⊥) → tokens ≡ number (signed_decimal seconds) ∷ []
      → IsSecondsJson seconds tokens

-- the nanoseconds since the beginning of 1970 that the content of an EventTime says: seconds, and
-- nanoseconds
abbrev pub event_nanos : List ℕ → ℤ
event_nanos content =
    pos (from_be_bytes w32 (take 4 content)) *ℤ pos second +ℤ pos
    (from_be_bytes w32 (drop 4 content))

-- those that a time says
pub data IsNanoseconds (time : List ℕ) (nanos : ℤ) : Type 0 where
  OfSeconds : (seconds : ℤ) → IsInteger time seconds → nanos ≡ seconds *ℤ pos second
      → IsNanoseconds time nanos
  OfEventTime : (is : IsEventTime time) → nanos ≡ event_nanos is.content → IsNanoseconds time nanos

-- those of a stored entry's time
pub record IsTimeOf (entry : List ℕ) (nanos : ℤ) : Type 0 where
  pub entry_is : IsEntry entry entry
  pub is : IsNanoseconds entry_is.time nanos

-- the content of an EventTime: the nanoseconds have to be less than a second
pub data IsEventTimeJson (content : List ℕ) (tokens : List Token) : Type 0 where
  Sound : (text : List ℕ) → from_be_bytes w32 (drop 4 content) < second
      → IsInstant 9 (event_nanos content) text
      → tokens ≡ string text ∷ [] → IsEventTimeJson content tokens
  Unsound : second ≤ from_be_bytes w32 (drop 4 content) → tokens ≡ ext_tokens 0 content
      → IsEventTimeJson content tokens

-- the value that stands for a time: without a fraction where it is an integer, and with one where
-- it is an EventTime
pub data IsTimeJson (time : List ℕ) (tokens : List Token) : Type 0 where
  Seconds : (seconds : ℤ) → IsInteger time seconds → IsSecondsJson seconds tokens
      → IsTimeJson time tokens
  Nanoseconds : (is : IsEventTime time) → IsEventTimeJson is.content tokens → IsTimeJson time tokens

-- the object that stands for an event: its tag, as a str of the same content would be written, its
-- time, and its record
pub record IsEventJson (tag entry : List ℕ) (tokens : List Token) : Type 0 where
  pub entry_is : IsEntry entry entry
  pub tag_value : List Token
  pub tag_is : IsTextJson tag tag_value
  pub time_value : List Token
  pub time_is : IsTimeJson entry_is.time time_value
  pub record_value : List Token
  pub record_is : IsJson entry_is.fields record_value
  pub whole : tokens ≡ begin_object ∷ key (codes "tag") ∷ (tag_value
      ++ key (codes "time") ∷ (time_value
      ++ key (codes "record") ∷ (record_value ++ end_object ∷ [])))

-- the line of an event: the text of its object, with no space, and a line feed
pub record IsEventLine (tag entry line : List ℕ) : Type 0 where
  pub tokens : List Token
  pub is : IsEventJson tag entry tokens
  pub line_is : line ≡ print tokens ++ 10 ∷ []
