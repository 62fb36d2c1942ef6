-- A step of a server's session.
use Rattle.std.proofs.Common.{ℕ, ◌≡◌, ◌+◌, List, [], ◌++◌, take, drop, refl, ap, sym, ◌∙◌, subst, inl, inr, add_comm, length, ◌≤◌, Option, Some, None, Result, Ok, Err}
use Rattle.std.specs.Prelude.{IfOk, IfSome}
use Rattle.std.proofs.lemmas.List.{drop-drop, append-nil}
use Rattle.msgpack_bytes.specs.Item.{IsOpen}
use Rattle.auth_handshake.specs.declared.answers.Ping.TheVariants.{Passed}
use Rattle.auth_handshake.specs.Ends.{ServerEnd, IsAnswer}
use Rattle.ack_receipt.specs.Reservations.{Asked, Reservation}
use Rattle.forward_core.specs.Demands.{Wanted, asked_in}
use Rattle.forward_core.specs.Handshakes.{IsShown}
use Rattle.forward_core.specs.declared.taken.TakenItem.{TakenItem}
use Rattle.forward_core.specs.Server.{ServerPhase, Awaiting, Opened, Over, Outcome, ServerState, ReadsOn, ServerReads, Greets, MayWait, after, outcome_of}

-- what bytes behind the first item come to
abbrev pub outcome : ServerPhase → List ℕ → List ℕ → List Wanted → Outcome
outcome phase rest sends wants = record { phase = phase; rest = rest; sends = sends; wants = wants }

-- a PING that passed was answered, and what is behind it was read
pub lets_in : (server : ServerEnd) (bytes item more sends sent : List ℕ) (end len : ℕ) (phase : ServerPhase) (wants : List Wanted)
    → IsShown bytes (take end bytes) (drop end bytes) → item ≡ take end bytes → more ≡ drop end bytes
    → ((pong : List ℕ) × IsAnswer server item Passed pong × (sends ≡ pong))
    → ReadsOn sends more (outcome phase (drop len more) sent wants)
    → Greets server bytes (outcome phase (drop (len + end) bytes) sent wants)
lets_in server bytes item more sends sent end len phase wants s i m p r =
    let rest : drop len more ≡ drop (len + end) bytes = ap (drop len) m ∙ drop-drop len end bytes ∙ ap (λ (k : ℕ). drop k bytes) (add_comm end len) in
    inr (inl (record {
      item = take end bytes;
      more = drop end bytes;
      pong = sends;
      shown = s;
      passed = subst (λ (z : List ℕ). IsAnswer server z Passed sends) i (subst (λ (z : List ℕ). IsAnswer server item Passed z) (sym p.2) p.1);
      reads = subst (λ (z : List ℕ). ReadsOn sends z (outcome phase (drop (len + end) bytes) sent wants)) m
          (subst (λ (z : List ℕ). ReadsOn sends more (outcome phase z sent wants)) rest r);
    }))

-- the session after what was read, part by part
pub state_after : (old : ServerState) (phase : ServerPhase) (held outgoing : List ℕ) (asked : List Asked) (taken : List Reservation) (out : Outcome)
    → phase ≡ out.phase → held ≡ out.rest → outgoing ≡ old.outgoing ++ out.sends → asked ≡ old.asked ++ asked_in out.wants → taken ≡ old.taken
    → record { phase = phase; held = held; outgoing = outgoing; asked = asked; taken = taken } ≡ after old out
state_after old phase held outgoing asked taken out p h o a t = rw (p, h, o, a, t)

-- bytes that only begin an item come to nothing yet
reads_begun : (phase : ServerPhase) (bytes : List ℕ) → (phase ≡ Over → ⊥) → MayWait phase bytes → IsOpen bytes → ServerReads phase bytes (outcome phase bytes [] [])
reads_begun (Awaiting server) bytes o m b = inl (record { begun = b; within = m; is = refl })
reads_begun Opened bytes o m b = record {
  messages = [];
  rest = bytes;
  fault = None;
  stream = record { arrivals = []; splits = refl; are = refl; ends = b };
  is = refl;
}
reads_begun Over bytes o m b = absurd (o refl)

-- and the session stays as it is
pub stays : (session : ServerState) → (session.phase ≡ Over → ⊥) → MayWait session.phase session.held → IsOpen session.held
    → (out : Outcome) × ServerReads session.phase session.held out × (session ≡ after session out) × ([] ≡ out.wants)
stays session o m b = (
  outcome session.phase session.held [] [],
  reads_begun session.phase session.held o m b,
  state_after session session.phase session.held session.outgoing session.asked session.taken (outcome session.phase session.held [] [])
      refl refl (sym (append-nil session.outgoing)) (sym (append-nil session.asked)) refl,
  refl,
)

-- what holds of each server holds of this one
pub of_this : {S T E : Type 0} (r : Result T E) (P : S → T → Type 0) (server : S) → IfOk r (λ taken. (s : S) → P s taken) → IfOk r (P server)
of_this (Ok _) P server all = all server
of_this (Err _) P server all = tt

-- what these bytes came to
abbrev Came : ServerState → List ℕ → ServerState → List Wanted → Type 0
Came old bytes new wants = (out : Outcome) × ServerReads old.phase bytes out × (new ≡ after old out) × (wants ≡ out.wants)

-- what was held came to it with the piece that it took in
pub came_with : (inside old mid new : ServerState) (held piece : List ℕ) (wants : List Wanted) → inside ≡ old → mid ≡ record inside { held = held } → held ≡ inside.held ++ piece
    → Came mid mid.held new wants → Came old (old.held ++ piece) new wants
came_with inside old mid new held piece wants same is took came =
    subst (λ (s : ServerState). Came s (s.held ++ piece) new wants) same
    (subst (λ (h : List ℕ). Came inside h new wants) took (subst (λ (s : ServerState). Came s s.held new wants) is came))

-- what was found of what is held and of more behind it
pub both_read : {A : Type 0} (found : Option (TakenItem A)) (taken : TakenItem A) (inside now : ServerState) (front more : List ℕ) → inside ≡ now → front ≡ inside.held → found ≡ Some taken
    → IfSome found (λ t. (before : ServerPhase) → ReadsOn [] (front ++ more) (outcome_of before more t)) → ReadsOn [] (now.held ++ more) (outcome_of Opened more taken)
both_read {A} found taken inside now front more same lent is reads =
    subst (λ (h : List ℕ). ReadsOn [] (h ++ more) (outcome_of Opened more taken)) (lent ∙ ap (λ (s : ServerState). s.held) same)
    (subst (λ (o : Option (TakenItem A)). IfSome o (λ t. (before : ServerPhase) → ReadsOn [] (front ++ more) (outcome_of before more t))) is reads Opened)

pub both_len : {A : Type 0} (found : Option (TakenItem A)) (taken : TakenItem A) (more : List ℕ) → found ≡ Some taken → IfSome found (λ t. t.len ≤ length more) → taken.len ≤ length more
both_len {A} found taken more is len = subst (λ (o : Option (TakenItem A)). IfSome o (λ t. t.len ≤ length more)) is len
