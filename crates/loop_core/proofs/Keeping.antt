-- What a connection keeps.
use Rattle.std.proofs.Common.{ℕ, suc, ◌≡◌, ◌∙◌, ◌+◌, ◌<◌, ◌⊎◌, inl, inr, arith, Bool, true, false, not, cond, ◌||◌, List, [], ◌∷◌, ◌++◌, length, map, ap, refl, sym, subst, append_assoc, append-nil, length-append, Option, None, Some, Result, Ok, Err}
use Rattle.std.specs.Prelude.{IsSomeAnd, OnOk, OnErr, Contains, ◌≢◌, slice_index_or}
use Rattle.std.proofs.lemmas.List.{get_or-map, length-map}
use Rattle.std.specs.List.{All, filter}
use Rattle.relay_conf.specs.declared.output.BufferNo.{BufferNo}
use Rattle.loop_core.specs.Lanes.{KeepsLanes, LanesState, NoneLater, later_at}
use Rattle.book_audit.specs.declared.line.Leaf.{Leaf}
use Rattle.std.proofs.lemmas.List.Elements.{All-nil, All-push, All-head, All-rest, All-same, All-weaker, Contains-append_left}
use Rattle.ack_receipt.specs.Deliveries.{OpenDelivery}
use Rattle.ack_receipt.specs.Reservations.{Asked, Answer, Reservation, answer_to}
use Rattle.forward_core.specs.declared.security.Security.{Security}
use Rattle.event_modes.specs.declared.fault.ModeFault.{ModeFault}
use Rattle.event_modes.specs.Message.{Parts}
use Rattle.event_modes.specs.declared.message.Message.{Message}
use Rattle.forward_core.specs.declared.demand.Demand.{Demand}
use Rattle.forward_core.specs.declared.demand.Demand.TheVariants.{Deliver, Close}
use Rattle.forward_core.specs.declared.fault.SessionError.{SessionError}
use Rattle.forward_core.specs.declared.fault.SessionError.TheVariants as error
use Rattle.forward_core.specs.declared.fault.SessionFault.{SessionFault}
use Rattle.forward_core.specs.declared.fault.SessionFault.TheVariants.{Closed}
use Rattle.forward_core.specs.Demands.{Wanted, Delivers, asked_in, wanted}
use Rattle.forward_core.specs.Server.{ServerPhase, Awaiting, Opened, Over, ServerReads, ReadsOn, ServerState, Outcome, after, close_by, phase_by, initial_server}
use Rattle.relay_ports.specs.Leaves.{Entry, IsRoutedTo, leaf_of}
use Rattle.loop_core.specs.Waits.{Awaited, HasEntries, Waits, awaited_by}
use Rattle.book_audit.specs.Stubs.{Left}
use Rattle.loop_core.specs.Collecting.{IsAbandoned, IsAnswerTo, those_later}
use Rattle.loop_core.specs.Peers.{AreAmong, BecomeInOrder, Becomes, GoOnWaiting, IsOwed, IsEarned, IsFaithful, IsRead, IsTaken, OneMoreWaits, Standing, awaited_in, wants_close}

-- a connection that was opened
pub opened : (entry : Entry) (security : Option Security) (nonce : List ℕ)
    → IsFaithful entry (initial_server security nonce).asked (initial_server security nonce).taken []
opened entry None nonce = record { owed = All-nil (IsOwed entry []); earned = All-nil (IsEarned entry) }
opened entry (Some security) nonce = record { owed = All-nil (IsOwed entry []); earned = All-nil (IsEarned entry) }

owed_more : (entry : Entry) (asked more : List Asked) (waits : List Waits)
    → All (IsOwed entry asked) waits → All (IsOwed entry (asked ++ more)) waits
owed_more entry asked more waits owed =
    All-weaker (IsOwed entry asked) (IsOwed entry (asked ++ more))
    (λ w o. record { demanded = Contains-append_left asked more w.awaited.asked o.demanded; goes = o.goes }) waits owed

-- more was demanded
pub fed : (entry : Entry) (old new : ServerState) (out : Outcome) (waits : List Waits)
    → new ≡ after old out → IsFaithful entry old.asked old.taken waits → IsFaithful entry new.asked new.taken waits
fed entry old new out waits e f =
    subst (λ (s : ServerState). IsFaithful entry s.asked s.taken waits) (sym e)
    (record { owed = owed_more entry old.asked (asked_in out.wants) waits f.owed; earned = f.earned })

-- one more delivery waits
pub waits_too : (entry : Entry) (asked : List Asked) (taken : List Reservation) (waits : List Waits) (w : Waits)
    → IsFaithful entry asked taken waits → IsOwed entry asked w → IsFaithful entry asked taken (waits ++ w ∷ [])
waits_too entry asked taken waits w f o = record {
  owed = All-push (IsOwed entry asked) waits w f.owed o;
  earned = f.earned;
}

-- a delivery's leaves are the buffers that its entries go to
pub places_of : (relay : ℕ) (leaves made : List Leaf) (buffers : List BufferNo) → leaves ≡ made → made ≡ map (leaf_of relay) buffers
    → map (λ leaf. leaf.buffer) leaves ≡ map (λ buffer. buffer.0) buffers
places_of relay leaves made buffers same is = ap (map (λ (leaf : Leaf). leaf.buffer)) (same ∙ is) ∙ numbers buffers
  where
    numbers : (all : List BufferNo) → map (λ leaf. leaf.buffer) (map (leaf_of relay) all) ≡ map (λ buffer. buffer.0) all
    numbers [] = refl
    numbers (buffer ∷ more) = ap (λ (rest : List ℕ). buffer.0 ∷ rest) (numbers more)

-- an answer names the tag and the buffers that its delivery had
filled_earned : (entry : Entry) (asked : Asked) (tag : List ℕ) (leaves : List Leaf) (bytes : List ℕ) (o : Option Answer)
    → IsSomeAnd o (λ answer. (answer.bytes ≡ bytes) × (answer.tag ≡ tag) × (answer.leaves ≡ leaves)) → IsRoutedTo entry asked tag leaves
    → IsSomeAnd o (λ answer. IsRoutedTo entry asked answer.tag answer.leaves)
filled_earned entry asked tag leaves bytes None s l = s
filled_earned entry asked tag leaves bytes (Some answer) s l =
    subst (λ (ls : List Leaf). IsRoutedTo entry asked answer.tag ls) (sym s.2) (subst (λ (t : List ℕ). IsRoutedTo entry asked t leaves) (sym s.1) l)

pub answer_earned : (entry : Entry) (asked : List Asked) (w : Waits) (reserved : Reservation)
    → IsOwed entry asked w → IsAnswerTo w.awaited reserved → IsEarned entry reserved
answer_earned entry asked w reserved o a = record {
  goes = filled_earned entry reserved.asked w.awaited.tag w.awaited.leaves (answer_to w.awaited.asked.ack) reserved.filled a.1
      (subst (λ (x : Asked). IsRoutedTo entry x w.awaited.tag w.awaited.leaves) (sym a.0) o.goes);
}

pub answer_demanded : (entry : Entry) (asked : List Asked) (w : Waits) (reserved : Reservation)
    → IsOwed entry asked w → IsAnswerTo w.awaited reserved → Contains asked reserved.asked
answer_demanded entry asked w reserved o a = subst (Contains asked) (sym a.0) o.demanded

-- the delivery of the same message waits on, for other buffers
pub still_owed : (entry : Entry) (asked : List Asked) (old new : Waits) → new.awaited ≡ old.awaited → IsOwed entry asked old → IsOwed entry asked new
still_owed entry asked old new e o = record {
  demanded = subst (λ (a : Awaited). Contains asked a.asked) (sym e) o.demanded;
  goes = subst (λ (a : Awaited). IsRoutedTo entry a.asked a.tag a.leaves) (sym e) o.goes;
}

-- the session took an answer
pub answered : (entry : Entry) (asked new_asked : List Asked) (taken new_taken : List Reservation) (waits : List Waits)
    → new_asked ≡ asked → (All (IsEarned entry) taken → All (IsEarned entry) new_taken)
    → IsFaithful entry asked taken waits → IsFaithful entry new_asked new_taken waits
answered entry asked new_asked taken new_taken waits e t f = record {
  owed = subst (λ (a : List Asked). All (IsOwed entry a) waits) (sym e) f.owed;
  earned = t f.earned;
}

-- what holds of all holds of the first; and of the others, also where the list of demands is
-- written otherwise
pub first_owed : {X : Type 0} (P : X → Type 0) (first : X) (rest all : List X) → all ≡ first ∷ rest → All P all → P first
first_owed P first rest all e a = All-head P first rest (All-same P (first ∷ rest) all (sym e) a)

pub rest_owed : (entry : Entry) (asked new_asked : List Asked) (w : Waits) (rest all : List Waits) → new_asked ≡ asked → all ≡ w ∷ rest
    → All (IsOwed entry asked) all → All (IsOwed entry new_asked) rest
rest_owed entry asked new_asked w rest all e f a =
    subst (λ (x : List Asked). All (IsOwed entry x) rest) (sym e) (All-rest (IsOwed entry asked) w rest all f a)

-- a delivery that goes somewhere has entries
pub has_entries : {B : Type 0} (d : OpenDelivery) (n : ℕ) (given named : List B) → length d.message.entries ≡ n → given ≡ named
    → (0 < n) ⊎ (named ≡ []) → HasEntries d given
has_entries d n given named e f (inl p) = inl (subst (λ (k : ℕ). 0 < k) (sym e) p)
has_entries d n given named e f (inr p) = inr (cc)

none_passes : {X : Type 0} (test : X → Bool) → ((x : X) → test x ≡ false) → (xs : List X) → filter test xs ≡ []
none_passes test none [] = refl
none_passes {X} test none (x ∷ xs) = ap (λ (b : Bool). cond b (x ∷ filter test xs) (filter test xs)) (none x) ∙ none_passes test none xs

-- What isn't held behind another delivery waits for no receipts where none come later.
pub none_waits : (later : List Bool) (buffers : List BufferNo) (held : Bool) → NoneLater later → held ≡ false → ¬ ((held ≡ true) ⊎ (those_later later buffers ≢ []))
none_waits later buffers held none free (inl h) = cc
none_waits later buffers held none free (inr some) = some (none_passes (later_at later) none buffers)

-- each delivery is among those that it is one of
pub among_itself : (waits : List Waits) → AreAmong (awaited_in waits) waits
among_itself waits k d within =
    let f : Waits → Awaited = λ w. w.awaited in
    (k, subst (λ (n : ℕ). k < n) (sym (length-map waits f)) within, get_or-map f waits k d (f (slice_index_or waits k d)) within)

-- a call behind another keeps what both keep
pub keeps_on : {A : Type 0} (old between new : LanesState A) → KeepsLanes old between → KeepsLanes between new → KeepsLanes old new
keeps_on old between new first next = record {
  terms = next.terms ∙ first.terms;
  timings = next.timings ∙ first.timings;
  fault = λ fault is. next.fault fault (first.fault fault is);
}

-- what waits, waits on
pub goes_on : (old between new : List Waits) → GoOnWaiting old between → GoOnWaiting between new → GoOnWaiting old new
goes_on old between new first next = record {
  more = first.more ++ next.more;
  is = next.is ∙ ap (λ (l : List Waits). l ++ next.more) first.is ∙ append_assoc old first.more next.more;
}

-- and so where one comes at most
pub begins_on : (old between new : List Waits) → GoOnWaiting old between → (new ≡ between) ⊎ OneMoreWaits between new → GoOnWaiting old new
begins_on old between new first (inl same) = record { more = first.more; is = same ∙ first.is }
begins_on old between new first (inr next) = goes_on old between new first (record { more = next.one ∷ []; is = next.is })

-- so where nothing came
pub stays_waiting : (old new : List Waits) → new ≡ old → GoOnWaiting old new
stays_waiting old new same = record { more = []; is = same ∙ sym (append-nil old) }

-- A message that is to be delivered closes nothing, and is one that was asked for.
pub delivers : {A : Type 0} (all left : List (Demand A)) (demand : Demand A) (message : Message A) → all ≡ demand ∷ left → demand ≡ Deliver message
    → (wants_close (map wanted all) ≡ wants_close (map wanted left)) × (length (asked_in (map wanted all)) ≡ suc (length (asked_in (map wanted left))))
delivers {A} all left demand message e is =
    let whole : all ≡ Deliver message ∷ left = e ∙ ap (λ (d : Demand A). d ∷ left) is in
    (ap (λ (l : List (Demand A)). wants_close (map wanted l)) whole, ap (λ (l : List (Demand A)). length (asked_in (map wanted l))) whole)

-- A demand to close is no message.
pub closes : {A : Type 0} (all left : List (Demand A)) (demand : Demand A) (fault : SessionFault) → all ≡ demand ∷ left → demand ≡ Close fault
    → (wants_close (map wanted all) ≡ true) × (length (asked_in (map wanted all)) ≡ length (asked_in (map wanted left)))
closes {A} all left demand fault e is =
    let whole : all ≡ Close fault ∷ left = e ∙ ap (λ (d : Demand A). d ∷ left) is in
    (ap (λ (l : List (Demand A)). wants_close (map wanted l)) whole, ap (λ (l : List (Demand A)). length (asked_in (map wanted l))) whole)

pub or_true : (b : Bool) → (b || true) ≡ true
or_true true = refl
or_true false = refl

pub or_false : (b : Bool) → (b || false) ≡ b
or_false true = refl
or_false false = refl

-- the messages are delivered, and then the connection is closed
closes_behind : (messages : List Parts) (fault : ModeFault) → wants_close (map Delivers messages ++ close_by (Some fault)) ≡ true
closes_behind [] fault = refl
closes_behind (m ∷ messages) fault = closes_behind messages fault

-- an open session that is over then wants the connection closed
over_reading : (sends bytes : List ℕ) (out : Outcome) → ReadsOn sends bytes out → out.phase ≡ Over → wants_close out.wants ≡ true
over_reading sends bytes out r over = by r.fault (ap (λ (o : Outcome). o.phase) r.is) (ap (λ (o : Outcome). o.wants) r.is)
  where
    by : (fault : Option ModeFault) → out.phase ≡ phase_by fault → out.wants ≡ map Delivers r.messages ++ close_by fault → wants_close out.wants ≡ true
    by None phase wants = let no : Opened ≡ Over = sym phase ∙ over in cc
    by (Some fault) phase wants = ap wants_close wants ∙ closes_behind r.messages fault

-- so does any
pub over_closes : (phase : ServerPhase) (bytes : List ℕ) (out : Outcome) → ServerReads phase bytes out → out.phase ≡ Over → wants_close out.wants ≡ true
over_closes (Awaiting server) bytes out (inl w) over = let no : Awaiting server ≡ Over = sym (ap (λ (o : Outcome). o.phase) w.is) ∙ over in cc
over_closes (Awaiting server) bytes out (inr (inl l)) over = over_reading l.pong l.more out l.reads over
over_closes (Awaiting server) bytes out (inr (inr (inl s))) over = ap (λ (o : Outcome). wants_close o.wants) s.is
over_closes (Awaiting server) bytes out (inr (inr (inr s))) over = ap (λ (o : Outcome). wants_close o.wants) s.is
over_closes Opened bytes out r over = over_reading [] bytes out r over
over_closes Over bytes out r over = absurd r

-- what was read is what the session is
pub has_read : (piece : List ℕ) (old between new : ServerState) (out : Outcome) → ServerReads old.phase (old.held ++ piece) out → between ≡ after old out → new ≡ between
    → IsRead piece old new
has_read piece old between new out reads is same = record { out = out; reads = reads; is = same ∙ is }

-- each message that was demanded has its number
pub numbered_on : {T E : Type 0} (r : Result T E) (before behind : ℕ) (old between new : ServerState) (out : Outcome) (wants : List Wanted)
    → OnOk r (behind ≡ before + length (asked_in wants)) → wants ≡ out.wants → between ≡ after old out → new ≡ between
    → OnOk r (behind + length old.asked ≡ before + length new.asked)
numbered_on (Ok _) before behind old between new out wants n w is same =
    let count : length new.asked ≡ length old.asked + length (asked_in wants) =
    ap (λ (s : ServerState). length s.asked) (same ∙ is) ∙ length-append old.asked (asked_in out.wants)
    ∙ ap (λ (l : List Wanted). length old.asked + length (asked_in l)) (sym w) in
    omega (arith, n, count)
numbered_on (Err _) before behind old between new out wants n w is same = tt

-- a session that is over then is closed
pub closes_on : {T E : Type 0} (r : Result T E) (old between new : ServerState) (out : Outcome) (piece : List ℕ) (wants : List Wanted) (was closing : Bool)
    → OnOk r (closing ≡ (was || wants_close wants)) → wants ≡ out.wants → ServerReads old.phase (old.held ++ piece) out → between ≡ after old out → new ≡ between
    → OnOk r (new.phase ≡ Over → closing ≡ true)
closes_on (Ok _) old between new out piece wants was closing c w reads is same =
    λ over.
    let phase : out.phase ≡ Over = sym (ap (λ (s : ServerState). s.phase) (same ∙ is)) ∙ over in
    c ∙ ap (λ (b : Bool). was || b) (ap wants_close w ∙ over_closes old.phase (old.held ++ piece) out reads phase) ∙ or_true was
closes_on (Err _) old between new out piece wants was closing c w reads is same = tt

-- what holds anyway holds where it is answered so
pub on_ok : {T E : Type 0} (r : Result T E) (P : Type 0) → P → OnOk r P
on_ok (Ok _) P p = p
on_ok (Err _) P p = tt

pub on_err : {T E : Type 0} (r : Result T E) (P : Type 0) → P → OnErr r P
on_err (Ok _) P p = tt
on_err (Err _) P p = p

-- the first of these became so, and then the others
pub first_becomes : (all rest : List Waits) (w : Waits) (old between new : Standing) → all ≡ w ∷ rest → Becomes w old between → BecomeInOrder rest between new → BecomeInOrder all old new
first_becomes all rest w old between new e first others = subst (λ (l : List Waits). BecomeInOrder l old new) (sym e) (between, first, others)

-- the first of these was settled, and then the others; the connection is closing where there was no
-- memory for the first
pub first_settled : (all rest : List Waits) (w : Waits) (left left' : List Waits) (session session' : ServerState) (closing closing' took : Bool) (end : Standing)
    → all ≡ w ∷ rest → (closing || not took) ≡ closing'
    → ((was : Bool) → Becomes w (record { left = left; session = session; closing = was }) (record { left = left'; session = session'; closing = was || not took }))
    → BecomeInOrder rest (record { left = left'; session = session'; closing = closing' }) end
    → BecomeInOrder all (record { left = left; session = session; closing = closing }) end
first_settled all rest w left left' session session' closing closing' took end e now becomes others =
    first_becomes all rest w (record { left = left; session = session; closing = closing }) (record { left = left'; session = session'; closing = closing' }) end e
    (subst (λ (b : Bool). Becomes w (record { left = left; session = session; closing = closing }) (record { left = left'; session = session'; closing = b })) now (becomes closing))
    others

-- the session took the answer, or had no memory for it: then the connection is closing
pub answer_becomes : (w : Waits) (reserved : Reservation) (left : List Waits) (took : Bool) (old new : ServerState) (closing : Bool) → IsAnswerTo w.awaited reserved → left ≡ []
    → (took ≡ true → IsTaken reserved old new) → (took ≡ false → new ≡ old)
    → Becomes w (record { left = left; session = old; closing = closing }) (record { left = left; session = new; closing = closing || not took })
answer_becomes w reserved left true old new closing answer none took refused =
    inl (record { first = none; left = none; reserved = reserved; answer = answer; taken = took refl; closing = or_false closing })
answer_becomes w reserved left false old new closing answer none took refused =
    inr (inr (inr (
    ap (λ (s : ServerState). record { left = left; session = s; closing = closing || true }) (refused refl)
    ∙ ap (λ (b : Bool). record { left = left; session = old; closing = b }) (or_true closing))))

-- one of its buffers refused it
pub refused_becomes : (w : Waits) (stub : Left) (s : Standing) → IsAbandoned w.awaited stub
    → Becomes w s (record { left = s.left; session = s.session; closing = s.closing || false })
refused_becomes w stub s missing =
    inr (inr (inl (record { stub = stub; missing = missing; same = ap (λ (b : Bool). record { left = s.left; session = s.session; closing = b }) (or_false s.closing) })))

-- it waits on
pub waits_on_becomes : (w on : Waits) (left : List Waits) (s : Standing) → on.awaited ≡ w.awaited → left ≡ s.left ++ on ∷ []
    → Becomes w s (record { left = left; session = s.session; closing = s.closing || false })
waits_on_becomes w on left s same pushed = inr (inl (record { on = on; same = same; left = pushed; session = refl; closing = or_false s.closing }))

-- there was no memory for it to wait on
pub shut_out_becomes : (w : Waits) (left : List Waits) (s : Standing) → left ≡ s.left
    → Becomes w s (record { left = left; session = s.session; closing = s.closing || true })
shut_out_becomes w left s same =
    inr (inr (inr (
    ap (λ (l : List Waits). record { left = l; session = s.session; closing = s.closing || true }) same
    ∙ ap (λ (b : Bool). record { left = s.left; session = s.session; closing = b }) (or_true s.closing))))

-- A session that refuses a piece by a fault met one before.
pub met_before : {T : Type 0} (e : SessionError) (fault : SessionFault) (phase : ServerPhase) → e ≡ error.Fault fault → (e ≡ error.Fault Closed) ⊎ (e ≡ error.Memory)
    → (◌≡◌ {A = Result T SessionError} (Err e) (Err (error.Fault Closed)) → phase ≡ Over) → phase ≡ Over
met_before {T} e fault phase is (inl closed) over = over (ap {B = Result T SessionError} (λ (x : SessionError). Err x) closed)
met_before e fault phase is (inr memory) over = let never : error.Fault fault ≡ error.Memory = sym is ∙ memory in cc

-- the delivery of a message that comes in here is owed where the message was demanded
pub begun_owed : (entry : Entry) (number : ℕ) (one : Asked) (tag : List ℕ) (leaves : List Leaf) (w : Waits)
    → w.awaited ≡ record { number = number; asked = one; tag = tag; leaves = leaves } → IsRoutedTo entry one tag leaves
    → (asked : List Asked) → Contains asked one → IsOwed entry asked w
begun_owed entry number one tag leaves w e goes asked demanded = record {
  demanded = subst (λ (a : Awaited). Contains asked a.asked) (sym e) demanded;
  goes = subst (λ (a : Awaited). IsRoutedTo entry a.asked a.tag a.leaves) (sym e) goes;
}

-- so it waits behind the others
pub begun_behind : (entry : Entry) (number : ℕ) (one : Asked) (tag : List ℕ) (leaves : List Leaf) (old new : List Waits) → IsRoutedTo entry one tag leaves
    → (new ≡ old) ⊎ ((more : OneMoreWaits old new) × (more.one.awaited ≡ record { number = number; asked = one; tag = tag; leaves = leaves }))
    → (new ≡ old) ⊎ ((more : OneMoreWaits old new) × ((asked : List Asked) → Contains asked one → IsOwed entry asked more.one))
begun_behind entry number one tag leaves old new goes (inl none) = inl none
begun_behind entry number one tag leaves old new goes (inr w) = inr (w.0, begun_owed entry number one tag leaves w.0.one w.1 goes)

-- a connection keeps what it kept where a delivery of a demanded message begins
pub begun_faithful : (entry held : Entry) (asked : List Asked) (taken : List Reservation) (one : Asked) (old new : List Waits) → held ≡ entry
    → IsFaithful entry asked taken old → Contains asked one
    → (new ≡ old) ⊎ ((more : OneMoreWaits old new) × ((asked : List Asked) → Contains asked one → IsOwed held asked more.one))
    → IsFaithful entry asked taken new
begun_faithful entry held asked taken one old new same f demanded (inl none) = subst (IsFaithful entry asked taken) (sym none) f
begun_faithful entry held asked taken one old new same f demanded (inr w) =
    subst (IsFaithful entry asked taken) (sym w.0.is)
    (waits_too entry asked taken old w.0.one f (subst (λ (e : Entry). IsOwed e asked w.0.one) same (w.1 asked demanded)))

-- so one waits more at most
pub begun_more : (old new : List Waits) (P : OneMoreWaits old new → Type 0) → (new ≡ old) ⊎ ((more : OneMoreWaits old new) × P more) → (new ≡ old) ⊎ OneMoreWaits old new
begun_more old new P (inl none) = inl none
begun_more old new P (inr w) = inr w.0

-- a delivery that was begun so waits, where room was made first
pub begun_as : (old between new : List Waits) (opened delivery : OpenDelivery) → between ≡ old → opened ≡ delivery
    → (new ≡ between) ⊎ ((more : OneMoreWaits between new) × (more.one.awaited ≡ awaited_by opened))
    → (new ≡ old) ⊎ ((more : OneMoreWaits old new) × (more.one.awaited ≡ awaited_by delivery))
begun_as old between new opened delivery room same (inl none) = inl (none ∙ room)
begun_as old between new opened delivery room same (inr w) =
    inr (record { one = w.0.one; is = w.0.is ∙ ap (λ (l : List Waits). l ++ w.0.one ∷ []) room }, w.1 ∙ ap awaited_by same)
