-- What is at the keys of a loop's connections, after one changed.
use Rattle.std.proofs.Common.{ℕ, ◌≡◌, ◌∙◌, ◌+◌, ◌<◌, ◌≤◌, ◌⊎◌, inl, inr, arith, All, Bool, true, false, List, [], ◌∷◌, length, ap, refl, sym, subst, Option, None, Some, Result, Ok, Err}
use Rattle.std.specs.Prelude.{is_some, IfSome, IsSomeAnd, OnOk, option_map, slice_get, slice_index_or, slice_set}
use Rattle.std.proofs.Math.Nat.{eq-or-lt_of_le}
use Rattle.std.proofs.lemmas.List.{get_or-set_same, get_or-set_other, length-set}
use Rattle.std.proofs.lemmas.List.Elements.{All-nil, All-set}
use Rattle.std.proofs.lemmas.Option.{slice_get-map}
use Rattle.loop_core.specs.Waits.{Waits}
use Rattle.relay_sockets.specs.Endpoints.{CameAt, Origin}
use Rattle.mio_relay.specs.Connections.{AllBelow, AreFlushed, AreFlushedBelow, AreInTime, AreInTimeBelow, AreListening, AreServed, AreSettled, AreSettledBelow, BeginsAt, ConnectionState, HoldsFlushed, HoldsNone, GoesOn, GoOn, Hosted, IsSameConnection, IsServed, Served, sources_in}
use Rattle.mio_relay.specs.Turning.{MayGet}
use Rattle.relay_sockets.specs.Endpoints.{Endpoint}
use Rattle.relay_sockets.specs.declared.network.Accepted.{Accepted}
use Rattle.relay_sockets.specs.declared.network.Accepted.TheVariants.{Stream, Again, Empty, Refused}
use Rattle.relay_sockets.specs.Accepting.{IfStream}

-- the same connection is served as it was
pub same_served : (old new : ConnectionState) → IsSameConnection old new → (sources : List Served) → IsServed sources old → IsServed sources new
same_served old new same sources s = record { place = s.place; came = same.origin ∙ s.came; source = s.source; is = s.is; entry = same.entry ∙ s.entry }

-- what is at this key goes on
pub kept_at : (slots : List (Option ConnectionState)) (key : ℕ) (old new : Option ConnectionState) → key < length slots → old ≡ slice_index_or slots key old
    → GoesOn old new → GoOn slots (slice_set slots key new)
kept_at slots key old new within at goes sources all =
    let P : Option ConnectionState → Type 0 = λ slot. IfSome slot (IsServed sources) in
    All-set P slots key new (goes sources (subst P (sym at) (all key old within))) all

-- a connection of one of these sources is put at this key, where there is none
pub put_at : (slots : List (Option ConnectionState)) (key : ℕ) (old new : Option ConnectionState) (connection : ConnectionState) → key < length slots
    → old ≡ slice_index_or slots key old → MayGet connection old new → (sources : List Served) → AreServed sources slots → IsServed sources connection
    → AreServed sources (slice_set slots key new)
put_at slots key old new connection within at gets sources all one =
    let P : Option ConnectionState → Type 0 = λ slot. IfSome slot (IsServed sources) in
    All-set P slots key new (elim gets [ inl e ↦ subst P (sym e) (subst P (sym at) (all key old within)) | inr got ↦ subst P (sym got.is) one ]) all

-- what came in at the listener of this place, and begins there, is served as one of its source
pub begins_served : (hosted : List Hosted) (place : ℕ) (nonce : List ℕ) (connection : ConnectionState) → connection.origin ≡ CameAt place
    → IsSomeAnd (slice_get hosted place) (λ h. BeginsAt h.source nonce connection.peer) → IsServed (sources_in hosted) connection
begins_served hosted place nonce connection came begins = by (slice_get hosted place) refl_at begins
  where
    refl_at : slice_get hosted place ≡ slice_get hosted place
    refl_at i = slice_get hosted place

    by : (found : Option Hosted) → slice_get hosted place ≡ found → IsSomeAnd found (λ h. BeginsAt h.source nonce connection.peer) → IsServed (sources_in hosted) connection
    by None e b = absurd b
    by (Some h) e b = record {
      place = place;
      came = came;
      source = h.source;
      is = slice_get-map (λ (x : Hosted). x.source) hosted place ∙ ap (option_map (λ (x : Hosted). x.source)) e;
      entry = ap (λ p. p.entry) b.begins;
    }

-- the listener at a place has the place for its number
pub came_at : (bound : List Endpoint) (hosted : List Hosted) (place : ℕ) (h : Hosted) (origin : Origin) → AreListening bound hosted → slice_get hosted place ≡ Some h
    → origin ≡ CameAt h.number → origin ≡ CameAt place
came_at bound hosted place h origin listening at came =
    came ∙ ap CameAt (subst (λ (o : Option Hosted). IfSome o (λ x. x.number ≡ place)) at (listening.numbered place))

-- what holds of a connection that came holds of what else is said of it
pub came_too : {S : Type 0} (r : Accepted S) (P Q : S → Type 0) → ((s : S) → P s → Q s) → IfStream r P → IfStream r Q
came_too (Stream s) P Q f p = f s p
came_too Again P Q f p = tt
came_too Empty P Q f p = tt
came_too Refused P Q f p = tt

-- what came at the listener of this place came at this place
pub came_there : {S : Type 0} (origin : S → Origin) (bound : List Endpoint) (hosted shown : List Hosted) (place : ℕ) (r : Accepted S) → shown ≡ hosted → AreListening bound hosted
    → IfStream r (λ s. IsSomeAnd (slice_get shown place) (λ h. origin s ≡ CameAt h.number)) → IfStream r (λ s. origin s ≡ CameAt place)
came_there {S} origin bound hosted shown place r same listening came =
    came_too r (λ s. IsSomeAnd (slice_get shown place) (λ h. origin s ≡ CameAt h.number)) (λ s. origin s ≡ CameAt place)
    (λ s p. of s (slice_get hosted place) (at hosted) (subst (λ (l : List Hosted). IsSomeAnd (slice_get l place) (λ h. origin s ≡ CameAt h.number)) same p)) came
  where
    at : (l : List Hosted) → slice_get l place ≡ slice_get l place
    at l i = slice_get l place

    of : (s : S) (found : Option Hosted) → slice_get hosted place ≡ found → IsSomeAnd found (λ h. origin s ≡ CameAt h.number) → origin s ≡ CameAt place
    of s None e p = absurd p
    of s (Some h) e p = came_at bound hosted place h (origin s) listening e p

-- it holds of the keys below this one and of this one
pub holds_at : (P : Option ConnectionState → Type 0) (slots : List (Option ConnectionState)) (key : ℕ) (new : Option ConnectionState) → P new → AllBelow P key slots
    → AllBelow P (key + 1) (slice_set slots key new)
holds_at P slots key new one below k d lt within = by (eq-or-lt_of_le {n = k} {m = key} (omega arith))
  where
    there : k < length slots
    there = subst (λ (n : ℕ). k < n) (length-set slots key new) within

    by : (k ≡ key) ⊎ (k < key) → P (slice_index_or (slice_set slots key new) k d)
    by (inl e) =
        subst (λ (j : ℕ). P (slice_index_or (slice_set slots key new) j d)) (sym e)
        (subst P (sym (get_or-set_same slots key new d (subst (λ (j : ℕ). j < length slots) e there))) one)
    by (inr l) = subst P (sym (get_or-set_other slots key k new d (λ e. absurd (omega arith)))) (below k d l there)

-- there is nothing at this key, so that it holds there too
pub holds_past : (P : Option ConnectionState → Type 0) (slots : List (Option ConnectionState)) (key len : ℕ) → len ≡ length slots → (key < len → ⊥) → AllBelow P key slots
    → AllBelow P (key + 1) slots
holds_past P slots key len is past below k d lt within = by (eq-or-lt_of_le {n = k} {m = key} (omega arith))
  where
    by : (k ≡ key) ⊎ (k < key) → P (slice_index_or slots k d)
    by (inl e) = absurd (past (subst (λ (n : ℕ). key < n) (sym is) (subst (λ (j : ℕ). j < length slots) e within)))
    by (inr l) = below k d l within

-- what changes at a key leaves it so there
pub holds_still : (P : Option ConnectionState → Type 0) (slots : List (Option ConnectionState)) (key : ℕ) (old new : Option ConnectionState) → key < length slots
    → old ≡ slice_index_or slots key old → (P old → P new) → All P slots → All P (slice_set slots key new)
holds_still P slots key old new within at still all = All-set P slots key new (still (subst P (sym at) (all key old within))) all

-- what changes at a key leaves none waiting there
pub rests_at : (slots : List (Option ConnectionState)) (key : ℕ) (old new : Option ConnectionState) → key < length slots → old ≡ slice_index_or slots key old
    → (HoldsNone old → HoldsNone new) → AreSettled slots → AreSettled (slice_set slots key new)
rests_at = holds_still HoldsNone

-- nor anything outgoing that its stream would take
pub flushed_at : (slots : List (Option ConnectionState)) (key : ℕ) (old new : Option ConnectionState) → key < length slots → old ≡ slice_index_or slots key old
    → (HoldsFlushed old → HoldsFlushed new) → AreFlushed slots → AreFlushed (slice_set slots key new)
flushed_at = holds_still HoldsFlushed

-- no is not yes
pub no_not_yes : false ≡ true → ⊥
no_not_yes e = subst at e tt
  where
    at : Bool → Type 0
    at true = ⊥
    at false = Unit {0}

-- where there isn't some, there is none
pub none_there : {T : Type 0} (o : Option T) (b : Bool) → b ≡ is_some o → b ≡ false → o ≡ None
none_there None b tells e = refl
none_there (Some x) b tells e = absurd (no_not_yes (sym e ∙ tells))

-- none waits at the keys below the last
pub all_settled : (slots : List (Option ConnectionState)) (end : ℕ) → length slots ≤ end → AreSettledBelow end slots → AreSettled slots
all_settled slots end past below k d within = below k d (omega arith) within

-- nor is anything outgoing there that its stream would take
pub all_flushed : (slots : List (Option ConnectionState)) (end : ℕ) → length slots ≤ end → AreFlushedBelow end slots → AreFlushed slots
all_flushed slots end past below k d within = below k d (omega arith) within

-- there is no key below the first
pub none_below : (P : Option ConnectionState → Type 0) (slots : List (Option ConnectionState)) → AllBelow P 0 slots
none_below P slots k none lt within = absurd (omega (arith, lt))

-- nor is what is there late
pub all_in_time : (time : ℕ) (slots : List (Option ConnectionState)) (end : ℕ) → length slots ≤ end → AreInTimeBelow time end slots → AreInTime time slots
all_in_time time slots end past below k d within = below k d (omega arith) within

-- where not one delivery waits, none does
pub none_waits : (waits : List Waits) → (0 < length waits → ⊥) → waits ≡ []
none_waits [] none = refl
none_waits (one ∷ waits) none = absurd (none (omega arith))

-- what there is of this kind is so, where there is something
pub some_is : {T : Type 0} (o : Option T) (P : T → Type 0) → IsSomeAnd o P → IfSome o P
some_is None P is = tt
some_is (Some x) P is = is

-- what holds anyway holds where it is answered well
pub on_ok : {T E : Type 0} (r : Result T E) (P : Type 0) → P → OnOk r P
on_ok (Ok _) P p = p
on_ok (Err _) P p = tt

-- no connection is there yet
pub none_served : (sources : List Served) (slots : List (Option ConnectionState)) → slots ≡ [] → AreServed sources slots
none_served sources slots none = subst (AreServed sources) (sym none) (All-nil (λ (slot : Option ConnectionState). IfSome slot (IsServed sources)))
