-- Steps of a talk over a connection, one behind another.
use Rattle.std.proofs.Common.{ℕ, zero, suc, arith, ◌≡◌, List, [], ◌∷◌, ◌++◌, take, drop, refl, sym, ap, ◌∙◌, subst, append-nil, append_assoc, take-append-drop, length, get_or, ◌<◌, Option, Some, None, Bool, true, false, option_map, Result, Ok, Err}
use Rattle.std.specs.Prelude.{OnOk}
use Rattle.std.specs.List.{concat}
use Rattle.std.proofs.KnownBytes.{Appends-nil, Appends-trans}
use Rattle.std.proofs.lemmas.List.Folds.{concat-append}
use Rattle.event_modes.specs.declared.chunk_id.ChunkId.{ChunkId}
use Rattle.event_modes.specs.ChunkIds.{chunk_text}
use Rattle.event_modes.specs.Packed.{packed_message}
use Rattle.ack_receipt.specs.Claims.{Claimed, id_of}
use Rattle.ack_receipt.specs.Evidences.{Shows, Acknowledged}
use Rattle.forward_core.specs.Client.{ClientPhase, Ready, HasSent, ClientState, initial_client, named}
use Rattle.forward_core.specs.declared.security.Security.{Security}
use Rattle.forward_core.specs.Credentials.{Credentials, credentials_in}
use Rattle.relay_sockets.specs.Traffics.{Traffic, Conveys, IsFresh}
use Rattle.relay_sockets.specs.Endpoints.{Endpoint, Origin, WentTo}
use Rattle.relay_sockets.specs.Drawing.{IsDrawn}
use Rattle.tcp_courier.specs.Carrying.{Sender, Delivers, IsToOne}
use Rattle.tcp_courier.specs.Talks.{Hears, IsGreeting, AreItems, IsBare, begun, TalksOn, Acknowledges, ConveysChunk}
use Rattle.tcp_courier.proofs.Hearing.{items_append, hears_heed, sent_waits, sent_sees}

pub Conveys-none : (a : Traffic) → Conveys a a [] []
Conveys-none a = (Appends-nil a.taken, Appends-nil a.given)

pub Conveys-trans : (a b c : Traffic) (s u t v : List ℕ) → Conveys a b s u → Conveys b c t v → Conveys a c (s ++ t) (u ++ v)
Conveys-trans a b c s u t v p q = (Appends-trans a.taken b.taken c.taken s t p.0 q.0, Appends-trans a.given b.given c.given u v p.1 q.1)

-- n bytes more of what was outgoing are written
pub written_more : (a b c : Traffic) (r s t : ClientState) (sent : List ℕ) (n : ℕ) → s ≡ record r { outgoing = s.outgoing } → r.outgoing ≡ sent ++ s.outgoing
    → Conveys a b sent [] → Conveys b c (take n s.outgoing) [] → t ≡ record s { outgoing = drop n s.outgoing }
    → (t ≡ record r { outgoing = t.outgoing }) × (more : List ℕ) × (r.outgoing ≡ more ++ t.outgoing) × Conveys a c more []
written_more a b c r s t sent n k h p q e =
    let out : t.outgoing ≡ drop n s.outgoing = ap (λ (v : ClientState). v.outgoing) e in (
      e ∙ ap (λ (v : ClientState). record v { outgoing = drop n s.outgoing }) k ∙ ap (λ (o : List ℕ). record r { outgoing = o }) (sym out),
      sent ++ take n s.outgoing,
      h ∙ ap (λ (l : List ℕ). sent ++ l) (sym (take-append-drop n s.outgoing)) ∙ sym (append_assoc sent (take n s.outgoing) (drop n s.outgoing))
          ∙ ap (λ (o : List ℕ). (sent ++ take n s.outgoing) ++ o) (sym out),
      Conveys-trans a b c sent [] (take n s.outgoing) [] p q,
    )

-- what is left of the first is what the second begins with
behind : (a x y p b q c : List ℕ) → a ++ x ≡ p ++ b → b ++ y ≡ q ++ c → a ++ (x ++ y) ≡ (p ++ q) ++ c
behind a x y p b q c h k =
    sym (append_assoc a x y) ∙ ap (λ (l : List ℕ). l ++ y) h ∙ append_assoc p b y ∙ ap (λ (l : List ℕ). p ++ l) k ∙ sym (append_assoc p q c)

-- so do items
items_behind : (a x y : List ℕ) (i : List (List ℕ)) (b : List ℕ) (j : List (List ℕ)) (c : List ℕ) → a ++ x ≡ concat i ++ b → b ++ y ≡ concat j ++ c
    → a ++ (x ++ y) ≡ concat (i ++ j) ++ c
items_behind a x y i b j c h k = behind a x y (concat i) b (concat j) c h k ∙ ap (λ (l : List ℕ). l ++ c) (sym (concat-append i j))

pub TalksOn-trans : (a b c : Traffic) (r s t : ClientState) (x y : List ℕ) (i j : List (List ℕ)) → TalksOn a b r s x i → TalksOn b c s t y j
    → TalksOn a c r t (x ++ y) (i ++ j)
TalksOn-trans a b c r s t x y i j p q = record {
  sent = p.sent ++ q.sent;
  came = p.came ++ q.came;
  conveys = Conveys-trans a b c p.sent p.came q.sent q.came p.conveys q.conveys;
  out = behind r.outgoing x y p.sent s.outgoing q.sent t.outgoing p.out q.out;
  framed = items_append i j p.framed q.framed;
  held = items_behind r.held p.came q.came i s.held j t.held p.held q.held;
}

-- all that is outgoing is written
pub TalksOn-written : (a b : Traffic) (s t : ClientState) → t ≡ record s { outgoing = [] } → Conveys a b s.outgoing [] → TalksOn a b s t [] []
TalksOn-written a b s t e p = record {
  sent = s.outgoing;
  came = [];
  conveys = p;
  out = ap (λ (l : List ℕ). s.outgoing ++ l) (sym (ap (λ (v : ClientState). v.outgoing) e));
  framed = tt;
  held = append-nil s.held ∙ sym (ap (λ (v : ClientState). v.held) e);
}

-- a message more is outgoing
pub TalksOn-said : (a : Traffic) (s t : ClientState) (message : List ℕ) → t.outgoing ≡ s.outgoing ++ message → t.held ≡ s.held → TalksOn a a s t message []
TalksOn-said a s t message o h = record {
  sent = [];
  came = [];
  conveys = Conveys-none a;
  out = sym o;
  framed = tt;
  held = append-nil s.held ∙ sym h;
}

-- A session goes on with its greeting: what it says now, and then before its message, is what it
-- says before its message; and so are the items that answer it.
pub record Greets (a b : Traffic) (was is : ClientState) : Type 0 where
  pub added : List ℕ
  pub items : List (List ℕ)
  pub on : TalksOn a b was is added items
  pub greets : (more : List ℕ) (later : List (List ℕ)) → IsGreeting is.phase more later → IsGreeting was.phase (added ++ more) (items ++ later)

pub Greets-none : (a : Traffic) (s : ClientState) → Greets a a s s
Greets-none a s = record { added = []; items = []; on = TalksOn-said a s s [] (sym (append-nil s.outgoing)) refl; greets = λ more later g. g }

pub Greets-trans : (a b c : Traffic) (r s t : ClientState) → Greets a b r s → Greets b c s t → Greets a c r t
Greets-trans a b c r s t p q = record {
  added = p.added ++ q.added;
  items = p.items ++ q.items;
  on = TalksOn-trans a b c r s t p.added q.added p.items q.items p.on q.on;
  greets = λ more later g.
      subst (λ (l : List (List ℕ)). IsGreeting r.phase ((p.added ++ q.added) ++ more) l) (sym (append_assoc p.items q.items later))
      (subst (λ (m : List ℕ). IsGreeting r.phase m (p.items ++ (q.items ++ later))) (sym (append_assoc p.added q.added more))
      (p.greets (q.added ++ more) (q.items ++ later) (q.greets more later g)));
}

pub Greets-written : (a b : Traffic) (s t : ClientState) → t ≡ record s { outgoing = [] } → Conveys a b s.outgoing [] → Greets a b s t
Greets-written a b s t e p = record {
  added = [];
  items = [];
  on = TalksOn-written a b s t e p;
  greets = λ more later. subst (λ (q : ClientPhase). IsGreeting q more later) (ap (λ (v : ClientState). v.phase) e);
}

pub Greets-heard : (a b : Traffic) (s t : ClientState) (came : List ℕ) (heard : Option Shows) → Conveys a b [] came → Hears s came heard t → Greets a b s t
Greets-heard a b s t came heard p h =
    let k = hears_heed s came heard t h in
    record {
      added = k.added;
      items = k.items;
      on = record { sent = []; came = came; conveys = p; out = sym k.out; framed = k.framed; held = k.held };
      greets = k.greets;
    }

-- a session that is ready has said its greeting
pub greeted : (a b : Traffic) (r s : ClientState) → Greets a b r s → s.phase ≡ Ready
    → (greeting : List ℕ) × (items : List (List ℕ)) × IsGreeting r.phase greeting items × TalksOn a b r s greeting items
greeted a b r s p e = (
  p.added,
  p.items,
  subst (λ (l : List (List ℕ)). IsGreeting r.phase p.added l) (append-nil p.items)
      (subst (λ (m : List ℕ). IsGreeting r.phase m (p.items ++ [])) (append-nil p.added)
      (p.greets [] [] (subst (λ (q : ClientPhase). IsGreeting q [] []) (sym e) refl))),
  p.on,
)

-- A session that sent its message goes on to wait for the acknowledgement.
pub record AwaitsOn (a b : Traffic) (was is : ClientState) (chunk : Option ChunkId) : Type 0 where
  pub came : List ℕ
  pub items : List (List ℕ)
  pub framed : AreItems items
  pub conveys : Conveys a b [] came
  pub held : was.held ++ came ≡ concat items ++ is.held
  pub phase : is.phase ≡ HasSent chunk

pub AwaitsOn-none : (a : Traffic) (s : ClientState) (chunk : Option ChunkId) → s.phase ≡ HasSent chunk → AwaitsOn a a s s chunk
AwaitsOn-none a s chunk p = record { came = []; items = []; framed = tt; conveys = Conveys-none a; held = append-nil s.held; phase = p }

pub AwaitsOn-heard : (a b c : Traffic) (r s t : ClientState) (chunk : Option ChunkId) (came : List ℕ) → AwaitsOn a b r s chunk → Conveys b c [] came → Hears s came None t
    → AwaitsOn a c r t chunk
AwaitsOn-heard a b c r s t chunk came w p h =
    let k = sent_waits chunk s came t w.phase h in
    record {
      came = w.came ++ came;
      items = w.items ++ k.1;
      framed = items_append w.items k.1 w.framed k.2;
      conveys = Conveys-trans a b c [] w.came [] came w.conveys p;
      held = items_behind r.held w.came came w.items s.held k.1 t.held w.held k.3;
      phase = k.0;
    }

-- an item behind others is behind what they are behind
acknowledges_behind : (id : ChunkId) (front : List (List ℕ)) (bytes : List ℕ) → AreItems front → Acknowledges id bytes → Acknowledges id (concat front ++ bytes)
acknowledges_behind id front bytes f k = record {
  items = front ++ k.items;
  framed = items_append front k.items f k.framed;
  item = k.item;
  behind = k.behind;
  is = k.is;
  whole = ap (λ (l : List ℕ). concat front ++ l) k.whole ∙ sym (append_assoc (concat front) (concat k.items) (k.item ++ k.behind))
      ∙ ap (λ (l : List ℕ). l ++ (k.item ++ k.behind)) (sym (concat-append front k.items));
}

-- what is held, and what came then, stands behind the items that were read
acknowledges_more : (id : ChunkId) (held came : List ℕ) (items : List (List ℕ)) (rest more : List ℕ) → AreItems items → held ++ came ≡ concat items ++ rest
    → Acknowledges id (rest ++ more) → Acknowledges id (held ++ (came ++ more))
acknowledges_more id held came items rest more f h k =
    subst (Acknowledges id) (sym (append_assoc (concat items) rest more) ∙ ap (λ (l : List ℕ). l ++ more) (sym h) ∙ append_assoc held came more)
    (acknowledges_behind id items (rest ++ more) f k)

-- the acknowledgement came
pub AwaitsOn-seen : (a b c : Traffic) (r s t : ClientState) (id : ChunkId) (came : List ℕ) (shown : Shows) → AwaitsOn a b r s (Some id) → Conveys b c [] came
    → Hears s came (Some shown) t → (shown ≡ Acknowledged id) × (all : List ℕ) × Conveys a c [] all × Acknowledges id (r.held ++ all)
AwaitsOn-seen a b c r s t id came shown w p h =
    let k = sent_sees id s came shown t w.phase h in
    (k.0, w.came ++ came, Conveys-trans a b c [] w.came [] came w.conveys p, acknowledges_more id r.held w.came w.items s.held came w.framed w.held k.1)

-- the message of a chunk
abbrev pub message_of : Claimed → List (List ℕ) → Bool → List ℕ
message_of chunk entries asks = packed_message chunk.tag entries (option_map chunk_text (named asks (id_of chunk)))

-- a session that sent its message, with these parts
abbrev pub after_message : ClientState → List ℕ → List (List ℕ) → Bool → ChunkId → ClientState
after_message s tag entries asks id = record s {
  phase = HasSent (named asks id);
  outgoing = s.outgoing ++ packed_message tag entries (option_map chunk_text (named asks id));
}

-- the parts are those of the chunk
of_chunk : (s : ClientState) (chunk : Claimed) (tag : List ℕ) (entries : List (List ℕ)) (asks : Bool) (id : ChunkId) → tag ≡ chunk.tag → id ≡ id_of chunk
    → after_message s tag entries asks id ≡ after_message s chunk.tag entries asks (id_of chunk)
of_chunk s chunk tag entries asks id t i = ap (λ (x : List ℕ). after_message s x entries asks id) t ∙ ap (λ (x : ChunkId). after_message s chunk.tag entries asks x) i

-- the name of the chunk is awaited, where an acknowledgement is asked for
pub asked_phase : (s t u : ClientState) (chunk : Claimed) (tag : List ℕ) (entries : List (List ℕ)) (asks : Bool) (id : ChunkId)
    → t ≡ after_message s tag entries asks id → tag ≡ chunk.tag → id ≡ id_of chunk → u ≡ record t { outgoing = [] } → asks ≡ true
    → u.phase ≡ HasSent (Some (id_of chunk))
asked_phase s t u chunk tag entries asks id m g i e a =
    ap (λ (v : ClientState). v.phase) e ∙ ap (λ (v : ClientState). v.phase) (m ∙ of_chunk s chunk tag entries asks id g i)
    ∙ ap (λ (b : Bool). HasSent (named b (id_of chunk))) a

-- A greeting was said, and then the message of a chunk; both are written.
pub said_whole : (a b c : Traffic) (r s t u : ClientState) (greeting : List ℕ) (items : List (List ℕ)) (chunk : Claimed) (tag : List ℕ) (entries : List (List ℕ)) (asks : Bool)
    (id : ChunkId) → IsBare r → TalksOn a b r s greeting items → t ≡ after_message s tag entries asks id → tag ≡ chunk.tag → id ≡ id_of chunk
    → u ≡ record t { outgoing = [] } → Conveys b c t.outgoing []
    → (came : List ℕ) × (came ≡ concat items ++ u.held) × Conveys a c (greeting ++ message_of chunk entries asks) came
said_whole a b c r s t u greeting items chunk tag entries asks id n g m k i e p =
    let message = message_of chunk entries asks in
    let sends = m ∙ of_chunk s chunk tag entries asks id k i in
    let said = TalksOn-said b s t message (ap (λ (v : ClientState). v.outgoing) sends) (ap (λ (v : ClientState). v.held) sends) in
    let all =
    TalksOn-trans a b c r s u greeting (message ++ []) items [] g (TalksOn-trans b b c s t u message [] [] [] said (TalksOn-written b c t u e p)) in
    let sent : all.sent ≡ greeting ++ message =
    sym (append-nil all.sent) ∙ ap (λ (l : List ℕ). all.sent ++ l) (sym (ap (λ (v : ClientState). v.outgoing) e)) ∙ sym all.out
    ∙ ap (λ (l : List ℕ). l ++ (greeting ++ (message ++ []))) n.0 ∙ ap (λ (l : List ℕ). greeting ++ l) (append-nil message) in (
      all.came,
      ap (λ (l : List ℕ). l ++ all.came) (sym n.1) ∙ all.held ∙ ap (λ (l : List (List ℕ)). concat l ++ u.held) (append-nil items),
      subst (λ (l : List ℕ). Conveys a c l all.came) sent all.conveys,
    )

-- what holds where a call went well, if more does
pub well_too : {P Q X E : Type 0} (r : Result X E) → OnOk r P → (P → Q) → OnOk r Q
well_too (Ok x) p f = f p
well_too (Err e) p f = tt

-- the message was sent, and nothing more is waited for
pub delivered_unasked : (a c : Traffic) (begins : ClientPhase) (chunk : Claimed) (entries : List (List ℕ)) (asks : Bool) (greeting : List ℕ) (items : List (List ℕ))
    (came held : List ℕ) → asks ≡ false → IsGreeting begins greeting items → AreItems items → came ≡ concat items ++ held
    → Conveys a c (greeting ++ message_of chunk entries asks) came → ConveysChunk a c begins chunk entries asks
delivered_unasked a c begins chunk entries asks greeting items came held n g f h p = record {
  greeting = greeting;
  items = items;
  came = came;
  rest = held;
  greets = g;
  framed = f;
  whole = h;
  conveys = p;
  answered = λ asked. absurd cc;
}

-- the message was sent, and its acknowledgement came
pub delivered_asked : (a c d : Traffic) (begins : ClientPhase) (chunk : Claimed) (entries : List (List ℕ)) (asks : Bool) (greeting : List ℕ) (items : List (List ℕ))
    (came held more : List ℕ) → IsGreeting begins greeting items → AreItems items → came ≡ concat items ++ held
    → Conveys a c (greeting ++ message_of chunk entries asks) came → Conveys c d [] more
    → Acknowledges (id_of chunk) (held ++ more) → ConveysChunk a d begins chunk entries asks
delivered_asked a c d begins chunk entries asks greeting items came held more g f h p q k = record {
  greeting = greeting;
  items = items;
  came = came ++ more;
  rest = held ++ more;
  greets = g;
  framed = f;
  whole = ap (λ (l : List ℕ). l ++ more) h ∙ append_assoc (concat items) held more;
  conveys = subst (λ (l : List ℕ). Conveys a d l (came ++ more)) (append-nil (greeting ++ message_of chunk entries asks))
      (Conveys-trans a c d (greeting ++ message_of chunk entries asks) came [] more p q);
  answered = λ asked. acknowledges_more (id_of chunk) [] came items held more f h k;
}

-- a session that begins has nothing outgoing and nothing held
pub begun_bare : (s : ClientState) (shows : Option Credentials) (salt : List ℕ) → s ≡ begun shows salt → IsBare s
begun_bare s None salt e = (ap (λ (v : ClientState). v.outgoing) e, ap (λ (v : ClientState). v.held) e)
begun_bare s (Some shows) salt e = (ap (λ (v : ClientState). v.outgoing) e, ap (λ (v : ClientState). v.held) e)

-- a session of a handshake begins with what that shows
pub initial_begun : (security : Option Security) (shows : Option Credentials) (salt : List ℕ) → credentials_in security ≡ shows → initial_client security salt ≡ begun shows salt
initial_begun None shows salt e = ap (λ (c : Option Credentials). begun c salt) e
initial_begun (Some security) shows salt e = ap (λ (c : Option Credentials). begun c salt) e

-- a session of the courier's own conveyed the chunk over a connection that was new
pub delivers : {N : Type 0} (sender : Sender N) (chunk : Claimed) (a b : Traffic) (s : ClientState) (salt : List ℕ) (entries : List (List ℕ)) (asks : Bool)
    → IsFresh a → IsDrawn salt → s ≡ begun sender.shows salt → length entries ≡ chunk.count → asks ≡ sender.asks → ConveysChunk a b s.phase chunk entries asks
    → Delivers sender chunk b
delivers sender chunk a b s salt entries asks f d e n k h = record {
  new = a;
  fresh = f;
  salt = salt;
  drawn = d;
  entries = entries;
  count = n;
  conveys = subst (λ (m : Bool). ConveysChunk a b (begun sender.shows salt).phase chunk entries m) k
      (subst (λ (q : ClientPhase). ConveysChunk a b q chunk entries asks) (ap (λ (v : ClientState). v.phase) e) h);
}

-- a connection that went to the server at a place went to one of the servers
pub to_one : (servers : List Endpoint) (k : ℕ) (server : Endpoint) (origin : Origin) → k < length servers → server ≡ get_or servers k server → WentTo server ≡ origin
    → IsToOne servers origin
to_one [] k server origin within is e = absurd (omega arith)
to_one (x ∷ xs) zero server origin within is e = (zero, omega arith, sym (ap WentTo is) ∙ e)
to_one (x ∷ xs) (suc k) server origin within is e = let more = to_one xs k server origin (omega arith) is e in (suc more.0, omega arith, more.2)
