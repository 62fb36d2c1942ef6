-- What stays of the buffers where one of them did something.
use Rattle.std.proofs.Common.{ℕ, Bool, ◌≡◌, ◌∙◌, List, [], ◌∷◌, map, ap, sym, subst, refl, Option, Some, Result, Ok, Err}
use Rattle.std.specs.Prelude.{slice_index_or, slice_set}
use Rattle.std.proofs.Math.Seq.{map-set_same}
use Rattle.buffer_store.specs.declared.fault.BufferFault.{BufferFault}
use Rattle.loop_core.specs.Lanes.{KeepsLane, KeepsLanes, LaneState, LanesState, fault_after, first_fault}
use Rattle.loop_core.specs.Schedules.{timing_of}

-- an element is replaced by one that f can't tell from it
pub kept_at : {X Y : Type 0} (f : X → Y) (xs : List X) (i : ℕ) (old new : X) → old ≡ slice_index_or xs i old → f new ≡ f old → map f (slice_set xs i new) ≡ map f xs
kept_at f xs i old new at same = map-set_same f xs i new old (same ∙ ap f at)

-- the same of what g makes of that
pub kept_in : {X Y Z : Type 0} (f : X → Y) (g : Y → Z) (xs : List X) (i : ℕ) (old new : X) → old ≡ slice_index_or xs i old → g (f new) ≡ g (f old)
    → map g (map f (slice_set xs i new)) ≡ map g (map f xs)
kept_in {X} {Y} {Z} f g xs i old new at same = map_map (slice_set xs i new) ∙ kept_at (λ (x : X). g (f x)) xs i old new at same ∙ sym (map_map xs)
  where
    map_map : (l : List X) → map g (map f l) ≡ map (λ (x : X). g (f x)) l
    map_map [] = refl
    map_map (x ∷ l) = ap (λ (r : List Z). g (f x) ∷ r) (map_map l)

-- a fault that came first is still there behind any answer
pub still_after : {T : Type 0} (before : Option BufferFault) (answer : Result T BufferFault) (first : BufferFault) → before ≡ Some first → fault_after before answer ≡ Some first
still_after before (Ok _) first is = is
still_after before (Err fault) first is = ap (λ (b : Option BufferFault). first_fault b fault) is

-- the buffers, as contracts see them
abbrev pub lanes_of : {A : Type 0} → List (LaneState A) → ℕ → Option BufferFault → ℕ → Bool → LanesState A
lanes_of lanes room fault time short = record {
  terms = map (λ l. l.terms) lanes;
  plans = map (λ l. l.plan) lanes;
  waiting = map (λ l. l.waiting) lanes;
  later = map (λ l. l.later) lanes;
  room = room;
  fault = fault;
  time = time;
  short = short;
}

-- one of them did something that keeps it, and answered so
pub one_kept : {A T : Type 0} {time time' : ℕ} {short short' : Bool} (lanes : List (LaneState A)) (i : ℕ) (old new : LaneState A) (room room' : ℕ) (first : Option BufferFault) (answer : Result T BufferFault)
    (before after : LanesState A) → old ≡ slice_index_or lanes i old → KeepsLane old new
    → lanes_of lanes room first time short ≡ before → after ≡ lanes_of (slice_set lanes i new) room' (fault_after first answer) time' short' → KeepsLanes before after
one_kept {A} {T} {time} {time'} {short} {short'} lanes i old new room room' first answer before after at kept b a =
    subst (λ (s : LanesState A). KeepsLanes s after) b
    (subst (KeepsLanes (lanes_of lanes room first time short)) (sym a)
    (record {
      terms = kept_at (λ (l : LaneState A). l.terms) lanes i old new at kept.terms;
      timings = kept_in (λ (l : LaneState A). l.plan) timing_of lanes i old new at kept.timing;
      fault = λ f is. still_after first answer f is;
    }))

-- one of them gave a receipt, or had none to give
pub none_changed : {A : Type 0} (lanes : List (LaneState A)) (i : ℕ) (old new : LaneState A) (room : ℕ) (first : Option BufferFault) (time : ℕ) (short : Bool) (before : LanesState A)
    → old ≡ slice_index_or lanes i old → new ≡ record old { receipts = new.receipts } → lanes_of lanes room first time short ≡ before → lanes_of (slice_set lanes i new) room first time short ≡ before
none_changed {A} lanes i old new room first time short before at is was = same ∙ was
  where
    same : lanes_of (slice_set lanes i new) room first time short ≡ lanes_of lanes room first time short
    same = λ j. record {
      terms = kept_at (λ (l : LaneState A). l.terms) lanes i old new at (ap (λ (l : LaneState A). l.terms) is) j;
      plans = kept_at (λ (l : LaneState A). l.plan) lanes i old new at (ap (λ (l : LaneState A). l.plan) is) j;
      waiting = kept_at (λ (l : LaneState A). l.waiting) lanes i old new at (ap (λ (l : LaneState A). l.waiting) is) j;
      later = kept_at (λ (l : LaneState A). l.later) lanes i old new at (ap (λ (l : LaneState A). l.later) is) j;
      room = room;
      fault = first;
      time = time;
      short = short;
    }
