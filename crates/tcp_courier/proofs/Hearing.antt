-- What a session makes of what came, as long as no fault is met.
use Rattle.std.proofs.Common.{ℕ, ◌≡◌, ◌⊎◌, inl, inr, List, [], ◌∷◌, ◌++◌, refl, sym, ap, ◌∙◌, subst, append-nil, append_assoc, Option, Some, None}
use Rattle.std.specs.List.{AllByRecursion, concat}
use Rattle.std.proofs.lemmas.List.Folds.{concat-append}
use Rattle.msgpack_bytes.specs.Item.{IsItemWithin}
use Rattle.auth_handshake.specs.Written.{ping_bytes}
use Rattle.auth_handshake.specs.Ends.{ClientEnd, client_digest}
use Rattle.event_modes.specs.declared.chunk_id.ChunkId.{ChunkId}
use Rattle.event_modes.proofs.Parting.{nil_item}
use Rattle.ack_receipt.specs.Evidences.{Shows, Acknowledged}
use Rattle.forward_core.specs.Handshakes.{IsShown}
use Rattle.forward_core.specs.Client.{ClientPhase, AwaitsHelo, AwaitsPong, Ready, HasSent, Ended, ClientState, Said, Sees, Waits, Fails, IsPassed, HearsNext, Listens, ReadsPong, ReadsAll, ClientReads, greeted}
use Rattle.tcp_courier.specs.Talks.{AreItems, Hears, IsGreeting, Acknowledges}

pub items_append : (xs ys : List (List ℕ)) → AreItems xs → AreItems ys → AreItems (xs ++ ys)
items_append [] ys p q = q
items_append (x ∷ xs) ys p q = (p.0, items_append xs ys p.1 q)

-- no fault is met
abbrev pub IsWell : Said → Type 0
IsWell (Fails fault) = ⊥
IsWell _ = Unit {0}

-- whole items are read off the front of what is held, and nothing else is changed
abbrev pub Reads : ClientState → ClientState → Type 0
Reads old new = (items : List (List ℕ)) × AreItems items × (old.held ≡ concat items ++ new.held) × (new.phase ≡ old.phase) × (new.outgoing ≡ old.outgoing)

next_reads : (chunk : Option ChunkId) (old : ClientState) (rest : List ℕ) (says : Said) (new : ClientState) → HearsNext chunk old rest says new → IsWell says
    → Reads (record old { held = rest }) new
next_reads chunk old rest (Sees shown) new n w = let e = n.7 in
    let acknowledges = n.5 in (
      n.1 ∷ [],
      (acknowledges.item, tt),
      n.6 ∙ ap (λ (h : List ℕ). n.1 ++ h) (sym (ap (λ (s : ClientState). s.held) e)) ∙ ap (λ (f : List ℕ). f ++ new.held) (sym (append-nil n.1)),
      ap (λ (s : ClientState). s.phase) e,
      ap (λ (s : ClientState). s.outgoing) e,
    )
next_reads chunk old rest Waits new n w = let e = n.1 in
    ([], tt, sym (ap (λ (s : ClientState). s.held) e), ap (λ (s : ClientState). s.phase) e, ap (λ (s : ClientState). s.outgoing) e)
next_reads chunk old rest (Fails fault) new n w = absurd w

-- what is passed over are items
passed_item : (chunk : Option ChunkId) (item : List ℕ) → IsPassed chunk item → IsItemWithin item
passed_item chunk item p = elim p [
  | inl n ↦ subst IsItemWithin (sym n) nil_item
  | inr a ↦ let acknowledges = a.0.1 in acknowledges.item
]

passed_items : (chunk : Option ChunkId) (items : List (List ℕ)) → AllByRecursion (IsPassed chunk) items → AreItems items
passed_items chunk [] p = tt
passed_items chunk (x ∷ xs) p = (passed_item chunk x p.0, passed_items chunk xs p.1)

-- a session that listens
listens_reads : (chunk : Option ChunkId) (old : ClientState) (says : Said) (new : ClientState) → Listens chunk old says new → IsWell says → Reads old new
listens_reads chunk old says new l w =
    let n = next_reads chunk old l.rest says new l.next w in (
      l.items ++ n.0,
      items_append l.items n.0 (passed_items chunk l.items l.passed) n.1,
      l.whole ∙ ap (λ (r : List ℕ). concat l.items ++ r) n.2 ∙ sym (append_assoc (concat l.items) (concat n.0) new.held)
          ∙ ap (λ (f : List ℕ). f ++ new.held) (sym (concat-append l.items n.0)),
      n.3,
      n.4,
    )

-- what is shown stands at the front
shown_front : (bytes item more : List ℕ) → IsShown bytes item more → bytes ≡ item ++ more
shown_front bytes item more s = elim s [
  | inl i ↦ i.1
  | inr f ↦ sym (ap (λ (m : List ℕ). item ++ m) f.3 ∙ append-nil item ∙ f.2)
]

-- a session that awaits a PONG
pong_reads : (client : ClientEnd) (old : ClientState) (says : Said) (new : ClientState) → ReadsPong client old says new → old.phase ≡ AwaitsPong client → IsWell says
    → (items : List (List ℕ)) × AreItems items × (old.held ≡ concat items ++ new.held) × (new.outgoing ≡ old.outgoing)
    × ((more : List ℕ) (later : List (List ℕ)) → IsGreeting new.phase more later → IsGreeting (AwaitsPong client) more (items ++ later))
pong_reads client old says new r p w = elim r [
  | inl e ↦ (
    [],
    tt,
    sym (ap (λ (s : ClientState). s.held) e.2),
    ap (λ (s : ClientState). s.outgoing) e.2,
    λ more later. subst (λ (q : ClientPhase). IsGreeting q more later) (ap (λ (s : ClientState). s.phase) e.2 ∙ p),
  )
  | inr s ↦ elim s [
    | inl t ↦
        let k = listens_reads None (record old { phase = Ready; held = t.1 }) says new t.4 w in
        let verdict = t.3 in
        let says_pong = verdict.0.1 in (
          t.0 ∷ k.0,
          (says_pong.item, k.1),
          shown_front old.held t.0 t.1 t.2 ∙ ap (λ (m : List ℕ). t.0 ++ m) k.2 ∙ sym (append_assoc t.0 (concat k.0) new.held),
          k.4,
          λ more later g. (t.0, k.0 ++ later, verdict, subst (λ (q : ClientPhase). IsGreeting q more later) k.3 g, refl),
        )
    | inr f ↦ absurd (subst IsWell f.5.0 w)
  ]
]

-- What came is taken in: what the session says to it is added to what is outgoing, and items are
-- read off what is held; and what is said then, before the message, and the items by which that is
-- answered, follow on these.
pub record Heeds (was : ClientState) (came : List ℕ) (is : ClientState) : Type 0 where
  pub added : List ℕ
  pub items : List (List ℕ)
  pub framed : AreItems items
  pub out : is.outgoing ≡ was.outgoing ++ added
  pub held : was.held ++ came ≡ concat items ++ is.held
  pub greets : (more : List ℕ) (later : List (List ℕ)) → IsGreeting is.phase more later → IsGreeting was.phase (added ++ more) (items ++ later)

-- too little came
same_heed : (was : ClientState) (came : List ℕ) (is : ClientState) → is ≡ record was { held = was.held ++ came } → Heeds was came is
same_heed was came is e = record {
  added = [];
  items = [];
  framed = tt;
  out = ap (λ (s : ClientState). s.outgoing) e ∙ sym (append-nil was.outgoing);
  held = sym (ap (λ (s : ClientState). s.held) e);
  greets = λ more later. subst (λ (q : ClientPhase). IsGreeting q more later) (ap (λ (s : ClientState). s.phase) e);
}

-- a session whose handshake is done, and so says no greeting whatever comes
listens_heed : (chunk : Option ChunkId) (was : ClientState) (came : List ℕ) (says : Said) (is : ClientState)
    → ((more : List ℕ) (later any : List (List ℕ)) → IsGreeting was.phase more later → IsGreeting was.phase more any)
    → Listens chunk (record was { held = was.held ++ came }) says is → IsWell says → Heeds was came is
listens_heed chunk was came says is f l w =
    let k = listens_reads chunk (record was { held = was.held ++ came }) says is l w in
    record {
      added = [];
      items = k.0;
      framed = k.1;
      out = k.4 ∙ sym (append-nil was.outgoing);
      held = k.2;
      greets = λ more later g. f more later (k.0 ++ later) (subst (λ (q : ClientPhase). IsGreeting q more later) k.3 g);
    }

all_heed : (phase : ClientPhase) (was : ClientState) (came : List ℕ) (says : Said) (is : ClientState) → was.phase ≡ phase
    → ReadsAll phase (record was { held = was.held ++ came }) says is → IsWell says → Heeds was came is
all_heed (AwaitsHelo client) was came says is p a w = elim a [
  | inl e ↦ same_heed was came is e.2
  | inr s ↦ elim s [
    | inl t ↦
        let nonce = t.2 in
        let ping = ping_bytes client.host client.salt (client_digest client nonce) in
        let next = record client { nonce = Some nonce } in
        let mid = greeted client nonce t.1 (record was { held = was.held ++ came }) in
        let k = pong_reads next mid says is t.5 refl w in
        let helo = t.4 in
        record {
          added = ping;
          items = t.0 ∷ k.0;
          framed = (helo.item, k.1);
          out = k.3;
          held = shown_front (was.held ++ came) t.0 t.1 t.3 ∙ ap (λ (m : List ℕ). t.0 ++ m) k.2 ∙ sym (append_assoc t.0 (concat k.0) is.held);
          greets = λ more later g.
              let answered = k.4 more later g in
              subst (λ (q : ClientPhase). IsGreeting q (ping ++ more) (t.0 ∷ (k.0 ++ later))) (sym p) (
                nonce,
                t.0,
                answered.0,
                answered.1,
                helo,
                answered.2,
                ap (λ (m : List ℕ). ping ++ m) answered.3 ∙ append-nil ping,
                ap (λ (l : List (List ℕ)). t.0 ∷ l) answered.4,
              );
        }
    | inr f ↦ absurd (subst IsWell f.4.0 w)
  ]
]
all_heed (AwaitsPong client) was came says is p a w =
    let k = pong_reads client (record was { held = was.held ++ came }) says is a p w in
    record {
      added = [];
      items = k.0;
      framed = k.1;
      out = k.3 ∙ sym (append-nil was.outgoing);
      held = k.2;
      greets = λ more later g. subst (λ (q : ClientPhase). IsGreeting q more (k.0 ++ later)) (sym p) (k.4 more later g);
    }
all_heed Ready was came says is p a w =
    listens_heed None was came says is
    (λ more later any g. subst (λ (q : ClientPhase). IsGreeting q more any) (sym p) (subst (λ (q : ClientPhase). IsGreeting q more later) p g)) a w
all_heed (HasSent chunk) was came says is p a w =
    listens_heed chunk was came says is
    (λ more later any g. subst (λ (q : ClientPhase). IsGreeting q more any) (sym p) (subst (λ (q : ClientPhase). IsGreeting q more later) p g)) a w
all_heed Ended was came says is p a w = absurd a

reads_heed : (was : ClientState) (came : List ℕ) (says : Said) (is : ClientState) → ClientReads was came says is → IsWell says → Heeds was came is
reads_heed was came says is r w = elim r [
  | inl e ↦ absurd (subst IsWell e.1 w)
  | inr a ↦ all_heed was.phase was came says is refl a w
]

-- whatever is heard
pub hears_heed : (was : ClientState) (came : List ℕ) (heard : Option Shows) (is : ClientState) → Hears was came heard is → Heeds was came is
hears_heed was came (Some shown) is h = reads_heed was came (Sees shown) is h tt
hears_heed was came None is h = elim h [
  | inl e ↦ same_heed was came is (e.1 ∙ ap (λ (l : List ℕ). record was { held = l }) (sym (append-nil was.held) ∙ ap (λ (c : List ℕ). was.held ++ c) (sym e.0)))
  | inr r ↦ reads_heed was came Waits is r tt
]

-- what a session listens to that sent a message
sent_listens : (chunk : Option ChunkId) (was : ClientState) (came : List ℕ) (says : Said) (is : ClientState) → was.phase ≡ HasSent chunk → ClientReads was came says is
    → IsWell says → Listens chunk (record was { held = was.held ++ came }) says is
sent_listens chunk was came says is p r w = elim r [
  | inl e ↦ absurd (subst IsWell e.1 w)
  | inr a ↦ subst (λ (q : ClientPhase). ReadsAll q (record was { held = was.held ++ came }) says is) p a
]

-- a session that sent a message waits on
pub sent_waits : (chunk : Option ChunkId) (was : ClientState) (came : List ℕ) (is : ClientState) → was.phase ≡ HasSent chunk → Hears was came None is
    → (is.phase ≡ HasSent chunk) × (items : List (List ℕ)) × AreItems items × (was.held ++ came ≡ concat items ++ is.held)
sent_waits chunk was came is p h = elim h [
  | inl e ↦ (ap (λ (s : ClientState). s.phase) e.1 ∙ p, [], tt, ap (λ (c : List ℕ). was.held ++ c) e.0 ∙ append-nil was.held ∙ sym (ap (λ (s : ClientState). s.held) e.1))
  | inr r ↦
      let k = listens_reads chunk (record was { held = was.held ++ came }) Waits is (sent_listens chunk was came Waits is p r tt) tt in
      (k.3 ∙ p, k.0, k.1, k.2)
]

-- a session that sent a message sees the acknowledgement of its chunk
pub sent_sees : (id : ChunkId) (was : ClientState) (came : List ℕ) (shown : Shows) (is : ClientState) → was.phase ≡ HasSent (Some id) → Hears was came (Some shown) is
    → (shown ≡ Acknowledged id) × Acknowledges id (was.held ++ came)
sent_sees id was came shown is p h =
    let l = sent_listens (Some id) was came (Sees shown) is p h tt in
    let n = l.next in
    let named = n.3 in
    let same : n.0 ≡ id = cc in (
      n.4 ∙ ap Acknowledged same,
      subst (λ (i : ChunkId). Acknowledges i (was.held ++ came)) same (record {
        items = l.items;
        framed = passed_items (Some id) l.items l.passed;
        item = n.1;
        behind = n.2;
        is = n.5;
        whole = l.whole ∙ ap (λ (r : List ℕ). concat l.items ++ r) n.6;
      }),
    )
