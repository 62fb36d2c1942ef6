-- Events in bytes that are read piece by piece: how long they are, and one behind another.
use Rattle.std.proofs.Common.{ℕ, List, [], ◌∷◌, ◌++◌, ◌≡◌, ◌<◌, ◌≤◌, length, take, drop, sym, ap, ◌∙◌, arith, inl, inr, append_assoc}
use Rattle.std.specs.List.{AllByRecursion}
use Rattle.std.proofs.Math.Seq.{take-append_seam}
use Rattle.std.proofs.lemmas.Bool.{lt-ltb, le-ltb, cases_lt}
use Rattle.std.proofs.lemmas.List.{length-append, take-append-le, take-append-drop}
use Rattle.std.proofs.lemmas.Grind.{flat_map-append}
use Rattle.msgpack_bytes.specs.Spelling.{str_header_of, str_of}
use Rattle.sink_series.specs.Events.{Event, IsEvent, item_of}
use Rattle.event_listing.specs.Forms.{Form, Items, Under, spelled, spelled_run, BeginsNo, IsIn}
use Rattle.event_listing.specs.Reading.{longest_item}

header_length : (n : ℕ) → length (str_header_of n) ≤ 5
header_length n = elim (cases_lt n 32) [
  | inl short ↦ rw (lt-ltb n 32 short) (omega arith)
  | inr long ↦ elim (cases_lt n 256) [
    | inl one ↦ rw (le-ltb n 32 long, lt-ltb n 256 one) (omega arith)
    | inr more ↦ elim (cases_lt n 65536) [
      | inl two ↦ rw (le-ltb n 32 long, le-ltb n 256 more, lt-ltb n 65536 two) (omega arith)
      | inr four ↦ rw (le-ltb n 32 long, le-ltb n 256 more, le-ltb n 65536 four) (omega arith)
    ]
  ]
]

item_length : (event : Event) → IsEvent event → length (item_of event) ≤ longest_item
unfolding item_of
item_length event is =
    let tag = length-append (str_header_of (length event.tag)) event.tag in
    let both = length-append (str_of event.tag) (drop 1 event.entry) in
    let entry = ap length (take-append-drop 1 event.entry) in
    let cut = length-append (take 1 event.entry) (drop 1 event.entry) in
    omega (arith, is.short, is.stored.item.short, header_length (length event.tag), tag, both, entry, cut)

-- an event is spelled in no more bytes
spelled_length : (form : Form) (event : Event) → IsIn form event → length (spelled form event) ≤ longest_item
spelled_length Items event is = item_length event is
spelled_length (Under tag) event is = omega (arith, is.0.stored.item.short)

-- and in some
pub spelled_some : (form : Form) (event : Event) → IsIn form event → 1 ≤ length (spelled form event)
unfolding item_of
spelled_some Items event is = omega arith
spelled_some (Under tag) event is = omega (arith, ap length is.0.stored.kept.is_stored)

-- behind more bytes than an event has, where none is whole, none ever will be
pub none_further : (form : Form) (held more : List ℕ) → longest_item < length held → BeginsNo form held → BeginsNo form (held ++ more)
none_further form held more long none event rest is same =
    let n = length (spelled form event) in
    let le : n ≤ length held = omega (arith, long, spelled_length form event is) in
    let front : take n held ≡ spelled form event = sym (take-append-le n held more le) ∙ ap (take n) same ∙ take-append_seam (spelled form event) rest in
    none event (drop n held) is (sym (take-append-drop n held) ∙ ap (λ z. z ++ drop n held) front)

-- the bytes of events, and behind them those of others
pub run_append : (form : Form) (events more : List Event) (rest : List ℕ) → spelled_run form events ++ (spelled_run form more ++ rest) ≡ spelled_run form (events ++ more) ++ rest
run_append form events more rest =
    sym (append_assoc (spelled_run form events) (spelled_run form more) rest) ∙ ap (λ z. z ++ rest) (sym (flat_map-append (spelled form) events more))

-- no event is whole where nothing stands
pub nothing_begins : (form : Form) → BeginsNo form []
nothing_begins form event rest is same = absurd (omega (arith, spelled_some form event is, ap length same, length-append (spelled form event) rest))

-- fewer bytes are behind an event than with it
pub fewer_behind : (form : Form) (event : Event) (rest behind : List ℕ) → IsIn form event → rest ≡ spelled form event ++ behind → length behind < length rest
fewer_behind form event rest behind is first = omega (arith, spelled_some form event is, ap length first, length-append (spelled form event) behind)

pub each_append : {X : Type 0} (P : X → Type 0) (xs more : List X) → AllByRecursion P xs → AllByRecursion P more → AllByRecursion P (xs ++ more)
each_append P [] more all behind = behind
each_append P (x ∷ xs) more all behind = (all.0, each_append P xs more all.1 behind)
