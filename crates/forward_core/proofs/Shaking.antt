-- A client's handshake, and what it hears then.
use Rattle.std.proofs.Common.{ℕ, ◌≡◌, ◌⊎◌, ◌↔◌, List, take, drop, refl, ap, sym, ◌∙◌, subst, inl, inr, Option, None, Bool, true, false, Result, Err, IfErr, IsErrOf}
use Rattle.std.proofs.lemmas.Result.{IfErr-at_err}
use Rattle.auth_handshake.specs.declared.answers.HandshakeFault.{HandshakeFault}
use Rattle.auth_handshake.specs.declared.answers.HandshakeFault.TheVariants.{NotHelo}
use Rattle.auth_handshake.specs.declared.answers.HeloError.{HeloError}
use Rattle.auth_handshake.specs.declared.answers.HeloError.TheVariants.{Memory, Fault}
use Rattle.auth_handshake.specs.Ends.{ClientEnd}
use Rattle.event_modes.specs.declared.chunk_id.ChunkId.{ChunkId}
use Rattle.forward_core.specs.declared.fault.SessionFault.TheVariants.{Handshake}
use Rattle.forward_core.specs.declared.client_handshake.First.TheVariants.{Taken, Refused}
use Rattle.forward_core.specs.declared.client.Phase.{Phase}
use Rattle.forward_core.specs.declared.client.Phase.TheVariants.{Shaking}
use Rattle.forward_core.specs.Client.{ClientPhase, AwaitsHelo, AwaitsPong, Ready, Ended, ClientState, Said, Fails, Listens, IsHeard, ReadsHelo, ReadsPong, TakesHelo, TakesPong, awaited, phase_if, phase_of, greeted}

-- the client whose PONG is awaited
pub pong_client : {A : Type 0} (phase : Phase A) (was_greeted : Bool) (inside client : ClientEnd)
    → phase ≡ Shaking inside → was_greeted ≡ true → phase_of phase was_greeted ≡ AwaitsPong client → inside ≡ client
pong_client phase was_greeted inside client p g e =
    let h : AwaitsPong inside ≡ AwaitsPong client = ap (λ (z : Phase _). phase_of z true) (sym p) ∙ ap (λ (z : Bool). phase_of phase z) (sym g) ∙ e in cc

-- the client whose HELO is awaited
pub helo_client : {A : Type 0} (phase : Phase A) (was_greeted : Bool) (inside client : ClientEnd)
    → phase ≡ Shaking inside → phase_of phase was_greeted ≡ AwaitsHelo client → inside ≡ client
helo_client phase true inside client p e =
    let h : AwaitsPong inside ≡ AwaitsHelo client = ap (λ (z : Phase _). phase_of z true) (sym p) ∙ e in cc
helo_client phase false inside client p e =
    let h : AwaitsHelo inside ≡ AwaitsHelo client = ap (λ (z : Phase _). phase_of z false) (sym p) ∙ e in cc

-- what was refused by a client is no HELO
pub no_helo : (r : Result Unit HeloError) (fault : HandshakeFault) (N : Type 0) → r ≡ Err (Fault fault)
    → IfErr r (λ e. (e ≡ Fault NotHelo) ⊎ (e ≡ Memory)) → (IsErrOf r (Fault NotHelo) ↔ N) → (fault ≡ NotHelo) × N
no_helo r fault N e only why =
    let which : (Fault fault ≡ Fault NotHelo) ⊎ (Fault fault ≡ Memory) = IfErr-at_err (λ (z : HeloError). (z ≡ Fault NotHelo) ⊎ (z ≡ Memory)) e only in
    let same : fault ≡ NotHelo = elim which [ inl s ↦ cc | inr s ↦ cc ] in
    (same, why.0 (e ∙ ap (λ (f : HandshakeFault). Err (Fault f)) same))

-- what a session heard, part by part
pub listened : (chunk : Option ChunkId) (old : ClientState) (bytes : List ℕ) (n : ℕ) (says : Said) (phase : ClientPhase) (held outgoing : List ℕ)
    → IsHeard chunk bytes n says → old.held ≡ bytes → chunk ≡ awaited old.phase → phase ≡ phase_if says old.phase → held ≡ drop n bytes → outgoing ≡ old.outgoing
    → Listens (awaited old.phase) old says (record { phase = phase; held = held; outgoing = outgoing })
listened chunk old bytes n says phase held outgoing h b k p d o =
    subst (λ (z : Option ChunkId). Listens z old says (record { phase = phase; held = held; outgoing = outgoing })) k
    (rw (p, d, o) (h.hears old b))

-- a PONG that is refused
pub pong_refused : (client inside : ClientEnd) (old : ClientState) (bytes outgoing held : List ℕ) (fault : HandshakeFault)
    → inside ≡ client → bytes ≡ old.held → outgoing ≡ old.outgoing → held ≡ old.held → TakesPong inside bytes (Refused fault)
    → ReadsPong client old (Fails (Handshake fault)) (record { phase = Ended; held = held; outgoing = outgoing })
pong_refused client inside old bytes outgoing held fault i b o h m =
    let at : TakesPong client old.held (Refused fault) = subst (λ (z : ClientEnd). TakesPong z old.held (Refused fault)) i (subst (λ (z : List ℕ). TakesPong inside z (Refused fault)) b m) in
    inr (inr (at.0, at.1, fault, at.2, at.3, (refl, rw (o, h) refl)))

-- a PONG that was taken, and what is behind it
pub pong_taken : (client inside : ClientEnd) (old new : ClientState) (bytes outgoing rest : List ℕ) (n : ℕ) (says : Said)
    → inside ≡ client → bytes ≡ old.held → outgoing ≡ old.outgoing → TakesPong inside bytes (Taken n) → rest ≡ drop n bytes
    → Listens None (record { phase = Ready; held = rest; outgoing = outgoing }) says new → ReadsPong client old says new
pong_taken client inside old new bytes outgoing rest n says i b o m r l =
    let at : TakesPong client old.held (Taken n) = subst (λ (z : ClientEnd). TakesPong z old.held (Taken n)) i (subst (λ (z : List ℕ). TakesPong inside z (Taken n)) b m) in
    let behind : Listens None (record { phase = Ready; held = drop n old.held; outgoing = old.outgoing }) says new =
    subst (λ (z : List ℕ). Listens None (record { phase = Ready; held = z; outgoing = old.outgoing }) says new) (r ∙ ap (drop n) b)
    (subst (λ (z : List ℕ). Listens None (record { phase = Ready; held = rest; outgoing = z }) says new) o l) in
    inr (inl (take n old.held, drop n old.held, at.1, at.2, behind))

-- a HELO that was taken, and what is behind it
pub helo_taken : (client inside new_client : ClientEnd) (old new : ClientState) (bytes outgoing sends rest : List ℕ) (n : ℕ) (says : Said)
    → inside ≡ client → bytes ≡ old.held → outgoing ≡ old.outgoing → TakesHelo inside outgoing bytes (Taken n) new_client sends → rest ≡ drop n bytes
    → ReadsPong new_client (record { phase = AwaitsPong new_client; held = rest; outgoing = sends }) says new → ReadsHelo client old says new
helo_taken client inside new_client old new bytes outgoing sends rest n says i b o m r p =
    let at : TakesHelo client old.outgoing old.held (Taken n) new_client sends =
    subst (λ (z : ClientEnd). TakesHelo z old.outgoing old.held (Taken n) new_client sends) i
    (subst (λ (z : List ℕ). TakesHelo inside z old.held (Taken n) new_client sends) o
    (subst (λ (z : List ℕ). TakesHelo inside outgoing z (Taken n) new_client sends) b m)) in
    let w = at.1 in
    let state : record { phase = AwaitsPong new_client; held = rest; outgoing = sends } ≡ greeted client w.0 (drop n old.held) old =
    rw (r, w.3, w.4, b) refl in
    inr (inl (
      take n old.held,
      drop n old.held,
      w.0,
      w.1,
      w.2,
      subst (λ (z : ClientEnd). ReadsPong z (greeted client w.0 (drop n old.held) old) says new) w.3
          (subst (λ (z : ClientState). ReadsPong new_client z says new) state p),
    ))

-- a HELO that is refused
pub helo_refused : (client inside new_client : ClientEnd) (old : ClientState) (bytes outgoing sends held : List ℕ) (fault : HandshakeFault)
    → inside ≡ client → bytes ≡ old.held → outgoing ≡ old.outgoing → held ≡ old.held → TakesHelo inside outgoing bytes (Refused fault) new_client sends
    → ReadsHelo client old (Fails (Handshake fault)) (record { phase = Ended; held = held; outgoing = sends })
helo_refused client inside new_client old bytes outgoing sends held fault i b o h m =
    let w = m.1 in
    inr (inr (w.0, w.1, rw (← b) w.2, w.3, (ap (λ (f : HandshakeFault). Fails (Handshake f)) m.0, rw (m.3, o, h) refl)))
