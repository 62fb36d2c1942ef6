-- Events that are counted one after another, and piece by piece.
use Rattle.std.proofs.Common.{ℕ, ℤ, ◌≡◌, ◌<◌, ◌≤◌, ◌≤ℤ◌, ◌+◌, ◌-◌, Bool, true, false, cond, int_lt, List, [], ◌∷◌, ◌++◌, length, drop, Option, Some, None, refl, sym, ap, ◌∙◌, subst, arith, inl, inr, append_assoc, append-nil}
use Rattle.std.specs.List.{AllByRecursion}
use Rattle.std.proofs.Math.Seq.{drop-append_seam}
use Rattle.std.proofs.lemmas.Int.{ints}
use Rattle.std.proofs.lemmas.List.{length-append}
use Rattle.event_listing.specs.Events.{IsTimeOf}
use Rattle.event_listing.specs.Forms.{Form, Items, Under, spelled, spelled_run, BeginsNo, IsIn}
use Rattle.event_listing.specs.Reading.{longest_item}
use Rattle.event_listing.proofs.Items.{each_append, fewer_behind, none_further, nothing_begins, run_append}
use Rattle.sink_series.specs.Events.{Event}
use Rattle.folder_counts.specs.Findings.{CountsEvents, EndsLong}
use Rattle.folder_counts.specs.Instants.{HasEventAt, IsNewest, IsNewestAt, IsNewestOf, IsNotAfter, IsNotBefore, IsOldest, IsOldestOf, IsSameTime}
use Rattle.folder_counts.specs.Tallies.{earlier, later, with_event, Adds, AreOldestIn, HeldView, IsFirst, IsHeldAfter, IsLong, IsTallyOf, IsWholeFile}
use Rattle.folder_counts.specs.declared.events.Tally.{Tally}
use Rattle.folder_counts.specs.declared.instant.Instant.{Instant}

-- ---- the oldest of events

each_before : (least nanos : ℤ) (events : List Event) → least ≤ℤ nanos → AllByRecursion (IsNotBefore nanos) events → AllByRecursion (IsNotBefore least) events
each_before least nanos [] le each = tt
each_before least nanos (event ∷ events) le each =
    let one = each.0 in
    (record { time = one.time; is = one.is; later = omega (arith, ints, le, one.later) }, each_before least nanos events le each.1)

has_front : (events more : List Event) (nanos : ℤ) → HasEventAt events nanos → HasEventAt (events ++ more) nanos
has_front [] more nanos has = absurd has
has_front (event ∷ events) more nanos (inl one) = inl one
has_front (event ∷ events) more nanos (inr has) = inr (has_front events more nanos has)

has_behind : (events more : List Event) (nanos : ℤ) → HasEventAt more nanos → HasEventAt (events ++ more) nanos
has_behind [] more nanos has = has
has_behind (event ∷ events) more nanos has = inr (has_behind events more nanos has)

oldest_both : (events more : List Event) (a b : ℤ) (t : Bool) → int_lt b a ≡ t → IsOldestOf events a → IsOldestOf more b → IsOldestOf (events ++ more) (cond t b a)
oldest_both events more a b true e first second =
    let le : b ≤ℤ a = omega (arith, ints, e) in
    record { one = has_behind events more b second.one; each = each_append (IsNotBefore b) events more (each_before b a events le first.each) second.each }
oldest_both events more a b false e first second =
    let le : a ≤ℤ b = omega (arith, ints, e) in
    record { one = has_front events more a first.one; each = each_append (IsNotBefore a) events more first.each (each_before a b more le second.each) }

-- of events, and of others behind them
pub oldest_append : (events more : List Event) (a b : Option ℤ) → IsOldest events a → IsOldest more b → IsOldest (events ++ more) (earlier a b)
oldest_append events more None b none second = subst (λ z. IsOldest (z ++ more) b) (sym none) second
oldest_append events more (Some a) None first none = subst (λ z. IsOldestOf z a) (sym (append-nil events) ∙ ap (λ z. events ++ z) (sym none)) first
oldest_append events more (Some a) (Some b) first second = oldest_both events more a b (int_lt b a) refl first second

each_after : (greatest nanos : ℤ) (events : List Event) → nanos ≤ℤ greatest → AllByRecursion (IsNotAfter nanos) events → AllByRecursion (IsNotAfter greatest) events
each_after greatest nanos [] le each = tt
each_after greatest nanos (event ∷ events) le each =
    let one = each.0 in
    (record { time = one.time; is = one.is; earlier = omega (arith, ints, le, one.earlier) }, each_after greatest nanos events le each.1)

newest_both : (events more : List Event) (a b : ℤ) (t : Bool) → int_lt b a ≡ t → IsNewestOf events a → IsNewestOf more b → IsNewestOf (events ++ more) (cond t a b)
newest_both events more a b true e first second =
    let le : b ≤ℤ a = omega (arith, ints, e) in
    record { one = has_front events more a first.one; each = each_append (IsNotAfter a) events more first.each (each_after a b more le second.each) }
newest_both events more a b false e first second =
    let le : a ≤ℤ b = omega (arith, ints, e) in
    record { one = has_behind events more b second.one; each = each_append (IsNotAfter b) events more (each_after b a events le first.each) second.each }

newest_append : (events more : List Event) (a b : Option ℤ) → IsNewest events a → IsNewest more b → IsNewest (events ++ more) (later a b)
newest_append events more None b none second = subst (λ z. IsNewest (z ++ more) b) (sym none) second
newest_append events more (Some a) None first none = subst (λ z. IsNewestOf z a) (sym (append-nil events) ∙ ap (λ z. events ++ z) (sym none)) first
newest_append events more (Some a) (Some b) first second = newest_both events more a b (int_lt b a) refl first second

newest_one : (event : Event) (nanos : ℤ) → IsTimeOf event.entry nanos → IsNewest (event ∷ []) (Some nanos)
newest_one event nanos time = record { one = inl time; each = (record { time = nanos; is = time; earlier = omega (arith, ints) }, tt) }

oldest_one : (event : Event) (nanos : ℤ) → IsTimeOf event.entry nanos → IsOldest (event ∷ []) (Some nanos)
oldest_one event nanos time = record { one = inl time; each = (record { time = nanos; is = time; later = omega (arith, ints) }, tt) }

-- ---- one event more

tally_more : (before now : Tally) (events : List Event) (event : Event) (nanos : ℤ) → ((others : List Event) → IsTallyOf others before → IsTallyOf (others ++ events) now) → IsTimeOf event.entry nanos
    → (others : List Event) → IsTallyOf others before → IsTallyOf (others ++ (events ++ event ∷ [])) (with_event now nanos)
tally_more before now events event nanos counted time others is =
    let so_far = counted others is in
    subst (λ z. IsTallyOf z (with_event now nanos)) (append_assoc others events (event ∷ []))
    (record {
      count_is = omega (arith, so_far.count_is, length-append (others ++ events) (event ∷ []));
      oldest_is = oldest_append (others ++ events) (event ∷ []) now.oldest (Some nanos) so_far.oldest_is (oldest_one event nanos time);
      newest_is = newest_append (others ++ events) (event ∷ []) now.newest (Some nanos) so_far.newest_is (newest_one event nanos time);
    })

-- the events so far, counted, and what is behind them
pub record FrontOn (form : Form) (before : Tally) (bytes : List ℕ) (tally : Tally) (rest : List ℕ) : Type 0 where
  pub events : List Event
  pub each : AllByRecursion (IsIn form) events
  pub whole : bytes ≡ spelled_run form events ++ rest
  pub counted : (others : List Event) → IsTallyOf others before → IsTallyOf (others ++ events) tally

pub front_start : (form : Form) (before : Tally) (bytes : List ℕ) → FrontOn form before bytes before bytes
front_start form before bytes = record { events = []; each = tt; whole = refl; counted = λ others is. subst (λ z. IsTallyOf z before) (sym (append-nil others)) is }

pub front_more : (form : Form) (before tally : Tally) (bytes rest behind : List ℕ) (nanos : ℤ) → FrontOn form before bytes tally rest → IsFirst form rest nanos behind
    → FrontOn form before bytes (with_event tally nanos) behind
front_more form before tally bytes rest behind nanos on one = record {
  events = on.events ++ one.event ∷ [];
  each = each_append (IsIn form) on.events (one.event ∷ []) on.each (one.is, tt);
  whole = on.whole ∙ ap (λ z. spelled_run form on.events ++ z) (one.first ∙ ap (λ z. z ++ behind) (sym (append-nil (spelled form one.event)))) ∙ run_append form on.events (one.event ∷ []) behind;
  counted = tally_more before tally on.events one.event nanos on.counted one.time;
}

pub front_fits : (form : Form) (before tally : Tally) (bytes rest : List ℕ) → FrontOn form before bytes tally rest → length rest ≤ length bytes
front_fits form before tally bytes rest on = omega (arith, ap length on.whole, length-append (spelled_run form on.events) rest)

pub front_end : (form : Form) (before tally : Tally) (bytes rest : List ℕ) (used : ℕ) → FrontOn form before bytes tally rest → BeginsNo form rest → used ≡ length bytes - length rest
    → Adds form before bytes tally (drop used bytes)
front_end form before tally bytes rest used on none is =
    let run = spelled_run form on.events in
    let n : used ≡ length run = omega (arith, is, ap length on.whole, length-append run rest) in
    let behind : drop used bytes ≡ rest = ap (λ k. drop k bytes) n ∙ ap (drop (length run)) on.whole ∙ drop-append_seam run rest in
    record { events = on.events; each = on.each; whole = on.whole ∙ ap (λ z. run ++ z) (sym behind); torn = subst (BeginsNo form) (sym behind) none; counted = on.counted }

pub fewer_left : (form : Form) (rest behind : List ℕ) (nanos : ℤ) → IsFirst form rest nanos behind → length behind < length rest
fewer_left form rest behind nanos one = fewer_behind form one.event rest behind one.is one.first

-- ---- piece by piece

pub held_start : (form : Form) (tally : Tally) → tally ≡ record { events = 0; oldest = None; newest = None } → IsHeldAfter form (record { tally = tally; taken = 0; bytes = [] }) []
held_start form tally none = record {
  events = [];
  each = tt;
  whole = refl;
  torn = nothing_begins form;
  counted = subst (IsTallyOf []) (sym none) (record { count_is = refl; oldest_is = refl; newest_is = refl });
  taken_is = refl;
}

-- a piece more
pub held_more : (form : Form) (held new : HeldView) (piece seen : List ℕ) → IsHeldAfter form held seen → Adds form held.tally (held.bytes ++ piece) new.tally new.bytes
    → new.taken + length new.bytes ≡ held.taken + length (held.bytes ++ piece) → IsHeldAfter form new (seen ++ piece)
held_more form held new piece seen on adds taken = record {
  events = on.events ++ adds.events;
  each = each_append (IsIn form) on.events adds.events on.each adds.each;
  whole = ap (λ z. z ++ piece) on.whole ∙ append_assoc (spelled_run form on.events) held.bytes piece ∙ ap (λ z. spelled_run form on.events ++ z) adds.whole ∙ run_append form on.events adds.events new.bytes;
  torn = adds.torn;
  counted = adds.counted on.events on.counted;
  taken_is = omega (arith, taken, on.taken_is, length-append held.bytes piece, length-append seen piece);
}

-- more is held than any event has
pub held_long : (form : Form) (held : HeldView) (seen more : List ℕ) → IsHeldAfter form held seen → longest_item < length held.bytes → IsLong form (seen ++ more)
held_long form held seen more on long = record {
  events = on.events;
  each = on.each;
  rest = held.bytes ++ more;
  whole = ap (λ z. z ++ more) on.whole ∙ append_assoc (spelled_run form on.events) held.bytes more;
  none = none_further form held.bytes more long on.torn;
  long = omega (arith, long, length-append held.bytes more);
}

-- no more follows
pub held_end : (form : Form) (held : HeldView) (seen : List ℕ) (torn : ℕ) → torn ≡ length held.bytes → IsHeldAfter form held seen → IsWholeFile form seen held.tally held.taken torn
held_end form held seen torn is on = record {
  events = on.events;
  each = on.each;
  rest = held.bytes;
  whole = on.whole;
  none = on.torn;
  counted = on.counted;
  taken_is = omega (arith, is, on.taken_is);
  torn_is = is;
}

-- ---- what is found in the end

-- the newest event, as an instant
newest_same : (events : List Event) (nanos : Option ℤ) (newest : Option Instant) → IsSameTime nanos newest → IsNewest events nanos → IsNewestAt events newest
newest_same events None None same is = is
newest_same events None (Some instant) same is = absurd same
newest_same events (Some nanos) None same is = absurd same
newest_same events (Some nanos) (Some instant) same is = (subst (IsNewestOf events) (sym same.0) is, same.1)

-- a sink's file that is whole
pub sink_whole : (bytes : List ℕ) (tally : Tally) (taken torn : ℕ) (newest : Option Instant) → IsSameTime tally.newest newest → IsWholeFile Items bytes tally taken torn
    → CountsEvents bytes tally.events taken torn newest
sink_whole bytes tally taken torn newest same file = record {
  counts = record { events = file.events; holds = record { each = file.each; rest = file.rest; whole = file.whole; torn = file.none }; count_is = file.counted.count_is; torn_is = file.torn_is };
  whole = file.taken_is;
  newest_is = newest_same file.events tally.newest newest same file.counted.newest_is;
}

-- one that is damaged
pub sink_long : (bytes : List ℕ) → IsLong Items bytes → EndsLong bytes
sink_long bytes is = record {
  events = length is.events;
  torn = length is.rest;
  counts = record { events = is.events; holds = record { each = is.each; rest = is.rest; whole = is.whole; torn = is.none }; count_is = refl; torn_is = refl };
  long = is.long;
}

empty : (rest : List ℕ) → length rest ≡ 0 → rest ≡ []
empty [] none = refl
empty (x ∷ rest) none = absurd (omega (arith, none))

-- entries, and nothing behind them
pub entries_whole : (bytes : List ℕ) (tally : Tally) (taken torn : ℕ) → torn ≡ 0 → IsWholeFile (Under []) bytes tally taken torn → AreOldestIn bytes tally.oldest
entries_whole bytes tally taken torn none file = record {
  events = file.events;
  each = file.each;
  whole = file.whole ∙ ap (λ z. spelled_run (Under []) file.events ++ z) (empty file.rest (sym file.torn_is ∙ none)) ∙ append-nil (spelled_run (Under []) file.events);
  oldest_is = file.counted.oldest_is;
}
