-- Whatever buffers and sinks hold, and whatever relays send, a client sent: of every network.
use Rattle.std.proofs.Common.{◌≡◌, ℕ, ◌==◌, ◌≤◌, ◌&&◌, Bool, true, false, cond, List, [], ◌++◌, take, Option, Some, None, option_map, refl, sym, ◌∙◌, ◌⊎◌, inl, inr, arith, Contains}
use Rattle.std.proofs.lemmas.Option.{same_Some}
use Rattle.std.proofs.lemmas.Bool.{eqb-true}
use Rattle.std.specs.Option.{option_and_then, option_map_or}
use Rattle.std.proofs.lemmas.List.Elements.{Contains-append_cases}
use Rattle.custody_store.specs.Buffers.{Event, Chunk, BufferState, with_chunk, CanTake, chunk_with, next_after, appended_to, events_of, is_queued, none_queued_below, without_oldest, restarted, started_again}
use Rattle.loss_rules.proofs.Members.{map-contains}
use Rattle.custody_core.proofs.Serials.{event_of}

-- this holds of each of these entries under this tag, as of what was sent
abbrev pub AllSent : (Event → Type 0) → List ℕ → List (List ℕ) → Type 0
AllSent Sent tag entries = (entry : List ℕ) → Contains entries entry → Sent (event_of tag entry)

-- Each event of the buffer's chunks and of its sink was sent; no serial from the next on is taken.
pub record IsSourced (Sent : Event → Type 0) (state : BufferState) : Type 0 where
  pub below : (serial : ℕ) → state.next ≤ serial → state.chunks serial ≡ None
  pub chunks : (serial : ℕ) (chunk : Chunk) → state.chunks serial ≡ Some chunk → AllSent Sent chunk.tag chunk.entries
  pub sink : (event : Event) → Contains state.sink event → Sent event

pub sourced_more : (Old New : Event → Type 0) → ((event : Event) → Old event → New event) → (state : BufferState) → IsSourced Old state → IsSourced New state
sourced_more Old New more state is = record {
  below = is.below;
  chunks = λ serial chunk at entry inside. more _ (is.chunks serial chunk at entry inside);
  sink = λ event inside. more event (is.sink event inside);
}

chosen : (b : Bool) (x y : Option Chunk) (chunk : Chunk) → cond b x y ≡ Some chunk → ((b ≡ true) × (x ≡ Some chunk)) ⊎ (y ≡ Some chunk)
chosen true x y chunk e = inl (refl, e)
chosen false x y chunk e = inr e

changed_from : (o : Option Chunk) (change : Chunk → Option Chunk) (new : Chunk) → option_and_then change o ≡ Some new → (old : Chunk) × (o ≡ Some old) × (change old ≡ Some new)
changed_from None change new e = absurd (cc)
changed_from (Some old) change new e = (old, refl, e)

none_changed : (b : Bool) (o p : Option Chunk) (change : Chunk → Option Chunk) → o ≡ None → p ≡ None → cond b (option_and_then change o) p ≡ None
none_changed true None p change e f = refl
none_changed true (Some c) p change e f = absurd (cc)
none_changed false o p change e f = f

module _ (Sent : Event → Type 0) (state : BufferState) (is : IsSourced Sent state) where
  -- a chunk is changed, but not what is in it, or goes
  pub chunk_changes : (serial : ℕ) (change : Chunk → Option Chunk) → ((old new : Chunk) → change old ≡ Some new → (new.tag ≡ old.tag) × (new.entries ≡ old.entries))
      → IsSourced Sent (with_chunk serial (option_and_then change (state.chunks serial)) state)
  chunk_changes serial change same = record {
    below = λ other le. go other (other == serial) (eqb-true other serial) le;
    chunks = λ other chunk at entry inside. elim (chosen (other == serial) (option_and_then change (state.chunks serial)) (state.chunks other) chunk at) [
      | inl h ↦ (let c = changed_from (state.chunks serial) change chunk h.1 in let p = same c.0 chunk c.2 in
          rw p.0 (is.chunks serial c.0 c.1 entry (rw p.1 at inside)))
      | inr h ↦ is.chunks other chunk h entry inside
    ];
    sink = is.sink;
  }
    where
      go : (other : ℕ) (b : Bool) → (b ≡ true → other ≡ serial) → state.next ≤ other → cond b (option_and_then change (state.chunks serial)) (state.chunks other) ≡ None
      go other true eq le = rw (is.below serial (rw (eq refl) at le)) refl
      go other false eq le = is.below other le

  first_events : (o : Option Chunk) (those : List (List ℕ) → List (List ℕ)) → ((entries : List (List ℕ)) (entry : List ℕ) → Contains (those entries) entry → Contains entries entry)
      → ((chunk : Chunk) → o ≡ Some chunk → AllSent Sent chunk.tag chunk.entries)
      → (event : Event) → Contains (option_map_or (λ chunk. events_of chunk.tag (those chunk.entries)) o []) event → Sent event
  first_events None those among sent event inside = absurd (let less = inside.1 in omega arith)
  first_events (Some chunk) those among sent event inside =
      let e = map-contains (λ entry. event_of chunk.tag entry) (those chunk.entries) event inside in
      rw (← e.2) (sent chunk refl e.0 (among chunk.entries e.0 e.1))

  -- entries of a chunk are stored in the sink
  pub sink_takes : (serial : ℕ) (those : List (List ℕ) → List (List ℕ)) → ((entries : List (List ℕ)) (entry : List ℕ) → Contains (those entries) entry → Contains entries entry)
      → IsSourced Sent (record state { sink = state.sink ++ option_map_or (λ chunk. events_of chunk.tag (those chunk.entries)) (state.chunks serial) [] })
  sink_takes serial those among = record {
    below = is.below;
    chunks = is.chunks;
    sink = λ event inside. elim (Contains-append_cases state.sink _ event inside) [
      | inl old ↦ is.sink event old
      | inr new ↦ first_events (state.chunks serial) those among (is.chunks serial) event new
    ];
  }

  -- entries that a client sent are appended where the buffer takes them
  pub takes_sent : (tag : List ℕ) (entries : List (List ℕ)) (serial : ℕ) → CanTake state tag serial → AllSent Sent tag entries → IsSourced Sent (appended_to tag entries serial state)
  takes_sent tag entries serial can sent = record {
    below = λ other le. below (state.chunks serial) refl other le (other == serial) (eqb-true other serial);
    chunks = λ other chunk at entry inside. elim (chosen (other == serial) (Some (chunk_with (state.chunks serial) tag entries)) (state.chunks other) chunk at) [
      | inl h ↦ put (state.chunks serial) refl can chunk (same_Some _ chunk h.1) entry inside
      | inr h ↦ is.chunks other chunk h entry inside
    ];
    sink = is.sink;
  }
    where
      below : (o : Option Chunk) → state.chunks serial ≡ o → (other : ℕ) → next_after o serial state.next ≤ other → (b : Bool) → (b ≡ true → other ≡ serial) → cond b (Some (chunk_with o tag entries)) (state.chunks other) ≡ None
      below None at other le true eq = absurd (let e = eq refl in omega arith)
      below None at other le false eq = elim can [ inl h ↦ absurd (rw at at h) | inr h ↦ is.below other (omega arith) ]
      below (Some c) at other le true eq = absurd (let g = is.below serial (rw (eq refl) at le) in let f = sym at ∙ g in cc)
      below (Some c) at other le false eq = is.below other le

      put : (o : Option Chunk) → state.chunks serial ≡ o → CanTake state tag serial → (chunk : Chunk) → chunk_with o tag entries ≡ chunk → AllSent Sent chunk.tag chunk.entries
      put None at take chunk same = rw (← same) sent
      put (Some c) at take chunk same =
          let tagged : c.tag ≡ tag = elim take [ inl h ↦ (let two : (c.stage ≡ _) × (c.tag ≡ tag) = rw at at h in two.1) | inr h ↦ absurd (let g = is.below serial (omega arith) in let f = sym at ∙ g in cc) ] in
          rw (← same) (λ entry inside. elim (Contains-append_cases c.entries entries entry inside) [
            | inl old ↦ is.chunks serial c at entry old
            | inr new ↦ rw tagged (sent entry new)
          ])

  -- the oldest queued chunk goes
  pub oldest_goes : IsSourced Sent (without_oldest state)
  oldest_goes = record {
    below = λ serial le. go serial (is_queued (state.chunks serial) && none_queued_below serial state.chunks) le;
    chunks = λ serial chunk at entry inside. elim (chosen (is_queued (state.chunks serial) && none_queued_below serial state.chunks) None (state.chunks serial) chunk at) [
      | inl h ↦ absurd (let e = h.1 in cc)
      | inr h ↦ is.chunks serial chunk h entry inside
    ];
    sink = is.sink;
  }
    where
      go : (serial : ℕ) (b : Bool) → state.next ≤ serial → cond b None (state.chunks serial) ≡ None
      go serial true le = refl
      go serial false le = is.below serial le

  -- the relay stops and starts again
  pub starts_again : (b : Bool) → IsSourced Sent (started_again b state)
  starts_again true = record { below = λ serial le. refl; chunks = λ serial chunk at. absurd (cc); sink = is.sink }
  starts_again false = record {
    below = λ serial le. none (state.chunks serial) (is.below serial le);
    chunks = λ serial chunk at entry inside. one serial (state.chunks serial) (λ c e. is.chunks serial c e) chunk at entry inside;
    sink = is.sink;
  }
    where
      none : (o : Option Chunk) → o ≡ None → option_map restarted o ≡ None
      none None e = refl
      none (Some c) e = absurd (cc)

      one : (serial : ℕ) (o : Option Chunk) → ((c : Chunk) → o ≡ Some c → AllSent Sent c.tag c.entries) → (chunk : Chunk) → option_map restarted o ≡ Some chunk → AllSent Sent chunk.tag chunk.entries
      one serial None sent chunk at = absurd (cc)
      one serial (Some c) sent chunk at = rw (← same_Some (restarted c) chunk at) (sent c refl)
