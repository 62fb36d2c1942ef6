-- What is listed of one buffer of several, and an append to it that is undone.
use Rattle.std.proofs.Common.{ℕ, ◌≡◌, ◌∙◌, ◌<◌, ◌≤◌, ◌⊎◌, inl, inr, arith, List, [], ◌∷◌, ◌++◌, length, map, take, ap, refl, sym, subst, Option, Result, Ok, Err}
use Rattle.std.specs.Prelude.{◌≢◌, Contains, IfOk, OnErr, slice_index_or, slice_set, unwrap_or}
use Rattle.std.proofs.lemmas.Bool.{cases_eq}
use Rattle.std.proofs.lemmas.List.{get_or-map, get_or-set_same, get_or-set_other, length-map, length_push, map-set, set-get_or, set-set, take_at}
use Rattle.std.proofs.lemmas.List.Elements.{Contains-append_cases, Contains-push_cases}
use Rattle.std.proofs.lemmas.Option.{slice_get_past, unwrap_or-slice_get}
use Rattle.buffer_store.specs.declared.fault.BufferFault.{BufferFault}
use Rattle.relay_conf.specs.declared.output.BufferNo.{BufferNo}
use Rattle.ack_receipt.specs.Deliveries.{Pended}
use Rattle.loop_core.specs.Lanes.{EndsWith, IsAppended, IsAppendedAt, LaneState, listed_at, undone}
use Rattle.loop_core.proofs.KeepingLanes.{kept_at}

-- what is listed of a buffer is what its lane has
pub listed_is : {L X : Type 0} (f : L → List X) (lanes : List L) (buffer : BufferNo) (one : L) → buffer.0 < length lanes → one ≡ slice_index_or lanes buffer.0 one
    → listed_at (map f lanes) buffer ≡ f one
listed_is f lanes buffer one within is =
    unwrap_or-slice_get (map f lanes) buffer.0 [] ∙ get_or-map f lanes buffer.0 one [] within ∙ ap f (sym is)

-- nothing is listed of one that isn't there
pub listed_past : {X : Type 0} (lists : List (List X)) (buffer : BufferNo) → length lists ≤ buffer.0 → listed_at lists buffer ≡ []
listed_past {X} lists buffer past = ap (λ (o : Option (List X)). unwrap_or o []) (slice_get_past lists buffer.0 past)

-- what is listed of a buffer that this was put at
pub listed_here : {X : Type 0} (lists : List (List X)) (buffer other : BufferNo) (now : List X) → buffer.0 < length lists → other.0 ≡ buffer.0
    → listed_at (slice_set lists buffer.0 now) other ≡ now
listed_here {X} lists buffer other now there same =
    unwrap_or-slice_get (slice_set lists buffer.0 now) other.0 []
    ∙ ap (λ (k : ℕ). slice_index_or (slice_set lists buffer.0 now) k []) same
    ∙ get_or-set_same lists buffer.0 now [] there

-- and of another
pub listed_there : {X : Type 0} (lists : List (List X)) (place : ℕ) (other : BufferNo) (now : List X) → other.0 ≢ place
    → listed_at (slice_set lists place now) other ≡ listed_at lists other
listed_there lists place other now apart =
    unwrap_or-slice_get (slice_set lists place now) other.0 [] ∙ get_or-set_other lists place other.0 now [] apart ∙ sym (unwrap_or-slice_get lists other.0 [])

-- what f says of the lanes, where one of them is another now
pub put_at : {L X : Type 0} (f : L → X) (lanes : List L) (place : ℕ) (new : L) (one : X) → f new ≡ one → map f (slice_set lanes place new) ≡ slice_set (map f lanes) place one
put_at {L} {X} f lanes place new one is = map-set f lanes place new ∙ ap (λ (x : X). slice_set (map f lanes) place x) is

-- the append that came is the last
ends_with : (number serial : ℕ) (before behind : List Pended) → IsAppended number serial before behind → EndsWith number behind
ends_with number serial before behind a = record { before = before; last = a.last; own = a.own; is = a.is }

-- so it is at its buffer
pub ends_here : (buffer other : BufferNo) (number serial : ℕ) (before behind : List (List Pended)) → IsAppendedAt buffer number serial before behind → other.0 ≡ buffer.0
    → EndsWith number (listed_at behind other)
ends_here buffer other number serial before behind a same =
    subst (EndsWith number) (sym (ap (λ (l : List (List Pended)). listed_at l other) a.is ∙ listed_here before buffer other a.now a.there same))
    (ends_with number serial (listed_at before buffer) a.now a.one)

-- and where one was the last before, one still is
pub still_ends : (buffer other : BufferNo) (number serial : ℕ) (before behind : List (List Pended)) → IsAppendedAt buffer number serial before behind
    → EndsWith number (listed_at before other) → EndsWith number (listed_at behind other)
still_ends buffer other number serial before behind a was = by (cases_eq other.0 buffer.0)
  where
    by : (other.0 ≡ buffer.0) ⊎ (other.0 ≡ buffer.0 → ⊥) → EndsWith number (listed_at behind other)
    by (inl same) = ends_here buffer other number serial before behind a same
    by (inr apart) =
        subst (EndsWith number) (sym (ap (λ (l : List (List Pended)). listed_at l other) a.is ∙ listed_there before buffer.0 other a.now apart)) was

-- Of the first and the others each has one.
pub each_ends : (number : ℕ) (buffers others : List BufferNo) (first buffer : BufferNo) (behind : List (List Pended)) → buffers ≡ first ∷ others
    → EndsWith number (listed_at behind first) → ((other : BufferNo) → Contains others other → EndsWith number (listed_at behind other))
    → Contains buffers buffer → EndsWith number (listed_at behind buffer)
each_ends number buffers others first buffer behind e one rest within =
    by (Contains-append_cases (first ∷ []) others buffer (subst (λ (l : List BufferNo). Contains l buffer) e within))
  where
    at_first : Contains [] buffer ⊎ (first ≡ buffer) → EndsWith number (listed_at behind buffer)
    at_first (inl nowhere) = absurd (omega (arith, nowhere.1))
    at_first (inr same) = subst (λ (b : BufferNo). EndsWith number (listed_at behind b)) same one

    by : Contains (first ∷ []) buffer ⊎ Contains others buffer → EndsWith number (listed_at behind buffer)
    by (inl one') = at_first (Contains-push_cases [] first buffer one')
    by (inr among) = rest buffer among

-- an append that was the last is taken off
undone_push : (before : List Pended) (last : Pended) → undone (before ++ last ∷ []) ≡ before
undone_push before last =
    ap (λ (n : ℕ). take n (before ++ last ∷ [])) (omega (arith, length_push before last)) ∙ take_at before (last ∷ []) (length before) refl

-- An append that is undone leaves all appends as they were.
pub undone_at : (buffer : BufferNo) (number serial : ℕ) (before behind last : List (List Pended)) → IsAppendedAt buffer number serial before behind → last ≡ behind
    → slice_set last buffer.0 (undone (listed_at last buffer)) ≡ before
undone_at buffer number serial before behind last a same =
    ap (λ (l : List (List Pended)). slice_set l buffer.0 (undone (listed_at l buffer))) (same ∙ a.is)
    ∙ ap (λ (one : List Pended). slice_set (slice_set before buffer.0 a.now) buffer.0 one) back
    ∙ set-set before buffer.0 a.now (slice_index_or before buffer.0 [])
    ∙ set-get_or before buffer.0 []
  where
    back : undone (listed_at (slice_set before buffer.0 a.now) buffer) ≡ slice_index_or before buffer.0 []
    back =
        ap undone (listed_here before buffer buffer a.now a.there refl ∙ a.one.is) ∙ undone_push (listed_at before buffer) a.one.last
        ∙ unwrap_or-slice_get before buffer.0 []

-- One of the buffers answered an append.
pub appended_at : {A : Type 0} (lanes : List (LaneState A)) (buffer : BufferNo) (old new : LaneState A) (number : ℕ) (answer result : Result ℕ BufferFault) (before behind : List (List Pended))
    → result ≡ answer → buffer.0 < length lanes → old ≡ slice_index_or lanes buffer.0 old → IfOk answer (λ serial. IsAppended number serial old.waiting new.waiting)
    → map (λ l. l.waiting) lanes ≡ before → behind ≡ map (λ l. l.waiting) (slice_set lanes buffer.0 new) → IfOk result (λ serial. IsAppendedAt buffer number serial before behind)
appended_at {A} lanes buffer old new number answer result before behind same within at appended b a =
    subst (λ (r : Result ℕ BufferFault). IfOk r (λ serial. IsAppendedAt buffer number serial before behind)) (sym same) (by answer appended)
  where
    one_at : (serial : ℕ) → IsAppended number serial old.waiting new.waiting → IsAppendedAt buffer number serial before behind
    one_at serial one = record {
      there = subst (λ (n : ℕ). buffer.0 < n) (sym (length-map lanes (λ (l : LaneState A). l.waiting)) ∙ ap length b) within;
      now = new.waiting;
      one = subst (λ (l : List Pended). IsAppended number serial l new.waiting)
          (sym (listed_is (λ (l : LaneState A). l.waiting) lanes buffer old within at) ∙ ap (λ (l : List (List Pended)). listed_at l buffer) b) one;
      is = a ∙ put_at (λ (l : LaneState A). l.waiting) lanes buffer.0 new new.waiting refl ∙ ap (λ (l : List (List Pended)). slice_set l buffer.0 new.waiting) b;
    }

    by : (r : Result ℕ BufferFault) → IfOk r (λ serial. IsAppended number serial old.waiting new.waiting) → IfOk r (λ serial. IsAppendedAt buffer number serial before behind)
    by (Ok serial) one = one_at serial one
    by (Err _) one = tt

-- what was refused changed no appends
pub refused_at : {A : Type 0} (lanes : List (LaneState A)) (place : ℕ) (old new : LaneState A) (answer result : Result ℕ BufferFault) (before behind : List (List Pended))
    → result ≡ answer → old ≡ slice_index_or lanes place old → OnErr answer (new.waiting ≡ old.waiting)
    → map (λ l. l.waiting) lanes ≡ before → behind ≡ map (λ l. l.waiting) (slice_set lanes place new) → OnErr result (behind ≡ before)
refused_at {A} lanes place old new answer result before behind same at refused b a =
    subst (λ (r : Result ℕ BufferFault). OnErr r (behind ≡ before)) (sym same) (by answer refused)
  where
    by : (r : Result ℕ BufferFault) → OnErr r (new.waiting ≡ old.waiting) → OnErr r (behind ≡ before)
    by (Ok _) e = tt
    by (Err _) e = a ∙ kept_at (λ (l : LaneState A). l.waiting) lanes place old new at e ∙ b

-- One of the buffers took its last append off.
pub undone_there : {A : Type 0} (lanes : List (LaneState A)) (buffer : BufferNo) (old new : LaneState A) (before : List (List Pended)) → buffer.0 < length lanes
    → old ≡ slice_index_or lanes buffer.0 old → new ≡ record old { waiting = undone old.waiting } → map (λ l. l.waiting) lanes ≡ before
    → map (λ l. l.waiting) (slice_set lanes buffer.0 new) ≡ slice_set before buffer.0 (undone (listed_at before buffer))
undone_there {A} lanes buffer old new before within at is b =
    let waits : LaneState A → List Pended = λ l. l.waiting in
    put_at waits lanes buffer.0 new (undone old.waiting) (ap waits is)
    ∙ ap (λ (one : List Pended). slice_set (map waits lanes) buffer.0 (undone one)) (sym (listed_is waits lanes buffer old within at))
    ∙ ap (λ (l : List (List Pended)). slice_set l buffer.0 (undone (listed_at l buffer))) b
