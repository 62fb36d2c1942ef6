-- Reading the messages of a stream, one arrival after another.
use Rattle.std.proofs.Common.{ℕ, ◌≡◌, ◌+◌, ◌-◌, ◌<◌, ◌≤◌, List, [], ◌∷◌, ◌++◌, length, take, drop, map, refl, ap, sym, ◌∙◌, subst, arith, append_assoc, Option, Some, None}
use Rattle.std.proofs.lemmas.List.{take-append-drop, drop-drop, length-drop, length-take-le, map-append, append-nil}
use Rattle.msgpack_bytes.specs.Item.{IsOpen}
use Rattle.event_modes.specs.declared.fault.ModeFault.{ModeFault}
use Rattle.event_modes.specs.Message.{Parts}
use Rattle.event_modes.specs.Stream.{Arrival, Sent, Heartbeat, IsArrival, Splits}
use Rattle.event_modes.specs.Faults.{StreamFault}
use Rattle.event_modes.specs.Reading.{Means, Beats, Answers}
use Rattle.event_modes.proofs.One.{arrival_text}
use Rattle.event_modes.proofs.Again.{some_byte}
use Rattle.forward_core.specs.declared.fault.SessionFault.TheVariants.{BadStream}
use Rattle.forward_core.specs.Demands.{Wanted, Delivers, Closes}
use Rattle.forward_core.specs.Streams.{messages_in}
use Rattle.forward_core.specs.Server.{Opened, Outcome, Over, ReadsOn, ServerPhase, close_by, phase_by}

-- the first `len` bytes were read as messages that are wanted to be delivered
pub record Reading (bytes : List ℕ) (len : ℕ) (wants : List Wanted) : Type 0 where
  pub at_most : len ≤ length bytes
  pub arrivals : List Arrival
  pub splits : Splits bytes arrivals (drop len bytes)
  pub delivers : wants ≡ map Delivers (messages_in arrivals)

pub reading_none : (bytes : List ℕ) (wants : List Wanted) → wants ≡ [] → Reading bytes 0 wants
reading_none bytes wants w = record { at_most = omega arith; arrivals = []; splits = refl; delivers = w }

-- one more arrival behind the others
pub splits_more : (bytes : List ℕ) (arrivals : List Arrival) (rest front back : List ℕ) (arrival : Arrival)
    → Splits bytes arrivals rest → IsArrival front arrival → rest ≡ front ++ back → Splits bytes (arrivals ++ arrival ∷ []) back
splits_more bytes [] rest front back arrival s p e = (front, back, p, refl, s ∙ e)
splits_more bytes (a ∷ arrivals) rest front back arrival s p e =
    (s.0, s.1, s.2, splits_more s.1 arrivals rest front back arrival s.3 p e, s.4)

pub messages_more : (arrivals : List Arrival) (parts : Parts) → messages_in (arrivals ++ Sent parts ∷ []) ≡ messages_in arrivals ++ parts ∷ []
messages_more [] parts = refl
messages_more (Sent p ∷ arrivals) parts = ap (λ (z : List Parts). p ∷ z) (messages_more arrivals parts)
messages_more (Heartbeat ∷ arrivals) parts = messages_more arrivals parts

pub messages_beat : (arrivals : List Arrival) → messages_in (arrivals ++ Heartbeat ∷ []) ≡ messages_in arrivals
messages_beat [] = refl
messages_beat (Sent p ∷ arrivals) = ap (λ (z : List Parts). p ∷ z) (messages_beat arrivals)
messages_beat (Heartbeat ∷ arrivals) = messages_beat arrivals

-- where the arrival that was read lies in the bytes
record Behind (bytes : List ℕ) (len n : ℕ) (arrival : Arrival) : Type 0 where
  pub front : List ℕ
  pub is : IsArrival front arrival
  pub whole : drop len bytes ≡ front ++ drop (len + n) bytes
  pub some : 0 < n
  pub fits : len + n ≤ length bytes

behind : (bytes : List ℕ) (len n : ℕ) (arrival : Arrival) → len ≤ length bytes → n ≤ length (drop len bytes) → IsArrival (take n (drop len bytes)) arrival → Behind bytes len n arrival
behind bytes len n arrival l f p =
    let t = take n (drop len bytes) in
    let k : length t ≡ n = length-take-le n (drop len bytes) f in
    record {
      front = t;
      is = p;
      whole = sym (take-append-drop n (drop len bytes)) ∙ ap (λ (z : List ℕ). t ++ z) (drop-drop n len bytes);
      some = subst (λ (z : ℕ). 0 < z) k (some_byte t (arrival_text t arrival p));
      fits = omega (arith, f, l, length-drop len bytes);
    }

-- a message was read behind the others
pub reading_message : (bytes : List ℕ) (len n : ℕ) (parts : Parts) (wants new_wants : List Wanted)
    → Reading bytes len wants → Answers (drop len bytes) (Means parts n)
    → new_wants ≡ wants ++ Delivers parts ∷ []
    → Reading bytes (len + n) new_wants × (0 < n)
reading_message bytes len n parts wants new_wants r p w =
    let b = behind bytes len n (Sent parts) r.at_most p.0 p.1 in (
      record {
        at_most = b.fits;
        arrivals = r.arrivals ++ Sent parts ∷ [];
        splits = splits_more bytes r.arrivals (drop len bytes) b.front (drop (len + n) bytes) (Sent parts) r.splits b.is b.whole;
        delivers = w ∙ ap (λ (z : List Wanted). z ++ Delivers parts ∷ []) r.delivers ∙ sym (map-append Delivers (messages_in r.arrivals) (parts ∷ []))
            ∙ ap (map Delivers) (sym (messages_more r.arrivals parts));
      },
      b.some,
    )

-- the first byte is a nil
nil_first : (bytes : List ℕ) (n : ℕ) → Answers bytes (Beats n) → (n ≤ length bytes) × IsArrival (take n bytes) Heartbeat
nil_first bytes n p = subst (λ (z : List ℕ). (n ≤ length z) × IsArrival (take n z) Heartbeat) (sym p.1.1)
    (subst (λ (k : ℕ). (k ≤ length (0xc0 ∷ p.1.0)) × IsArrival (take k (0xc0 ∷ p.1.0)) Heartbeat) (sym p.0) (omega arith, refl))

-- a heartbeat was read behind the others
pub reading_beat : (bytes : List ℕ) (len n : ℕ) (wants : List Wanted)
    → Reading bytes len wants → Answers (drop len bytes) (Beats n) → Reading bytes (len + n) wants × (0 < n)
reading_beat bytes len n wants r p =
    let f = nil_first (drop len bytes) n p in
    let b = behind bytes len n Heartbeat r.at_most f.0 f.1 in (
      record {
        at_most = b.fits;
        arrivals = r.arrivals ++ Heartbeat ∷ [];
        splits = splits_more bytes r.arrivals (drop len bytes) b.front (drop (len + n) bytes) Heartbeat r.splits b.is b.whole;
        delivers = r.delivers ∙ ap (map Delivers) (sym (messages_beat r.arrivals));
      },
      b.some,
    )

-- what was read, where no more is whole
pub reads_open : (sends bytes : List ℕ) (len : ℕ) (wants : List Wanted)
    → Reading bytes len wants → IsOpen (drop len bytes)
    → ReadsOn sends bytes (record { phase = Opened; rest = drop len bytes; sends = sends; wants = wants })
reads_open sends bytes len wants r o = record {
  messages = messages_in r.arrivals;
  rest = drop len bytes;
  fault = None;
  stream = record { arrivals = r.arrivals; splits = r.splits; are = refl; ends = o };
  is = ap (λ (w : List Wanted). record { phase = Opened; rest = drop len bytes; sends = sends; wants = w })
      (r.delivers ∙ sym (append-nil (map Delivers (messages_in r.arrivals))));
}

-- what was read, where a fault stands
pub reads_fault : (sends bytes : List ℕ) (len : ℕ) (wants new_wants : List Wanted) (fault : ModeFault)
    → Reading bytes len wants → StreamFault (drop len bytes) fault → new_wants ≡ wants ++ Closes (BadStream fault) ∷ []
    → ReadsOn sends bytes (record { phase = Over; rest = drop len bytes; sends = sends; wants = new_wants })
reads_fault sends bytes len wants new_wants fault r p w = record {
  messages = messages_in r.arrivals;
  rest = drop len bytes;
  fault = Some fault;
  stream = record { arrivals = r.arrivals; splits = r.splits; are = refl; ends = p };
  is = ap (λ (w : List Wanted). record { phase = Over; rest = drop len bytes; sends = sends; wants = w })
      (w ∙ ap (λ (z : List Wanted). z ++ Closes (BadStream fault) ∷ []) r.delivers);
}

-- the bytes that are left grow fewer
pub less_left : (bytes : List ℕ) (old len n : ℕ) → len ≡ old → 0 < n → len + n ≤ length bytes → length bytes - (len + n) < length bytes - old
less_left bytes old len n e s f = omega arith

-- bytes behind others are behind where the messages of these end
splits_before : (bytes rest back : List ℕ) (arrivals : List Arrival) → Splits bytes arrivals rest → Splits (bytes ++ back) arrivals (rest ++ back)
splits_before bytes rest back [] s = ap (λ (z : List ℕ). z ++ back) s
splits_before bytes rest back (a ∷ arrivals) s =
    (s.0, s.1 ++ back, s.2, splits_before s.1 rest back arrivals s.3, ap (λ (z : List ℕ). z ++ back) s.4 ∙ append_assoc s.0 s.1 back)

-- what was read up to there, and what was read from there on
splits_both : (bytes middle rest : List ℕ) (first more : List Arrival) → Splits bytes first middle → Splits middle more rest → Splits bytes (first ++ more) rest
splits_both bytes middle rest [] more s t = subst (λ (z : List ℕ). Splits z more rest) (sym s) t
splits_both bytes middle rest (a ∷ first) more s t = (s.0, s.1, s.2, splits_both s.1 middle rest first more s.3 t, s.4)

messages_both : (first more : List Arrival) → messages_in (first ++ more) ≡ messages_in first ++ messages_in more
messages_both [] more = refl
messages_both (Sent p ∷ first) more = ap (λ (z : List Parts). p ∷ z) (messages_both first more)
messages_both (Heartbeat ∷ first) more = messages_both first more

-- a session that stays open met no fault
no_fault : (fault : Option ModeFault) → phase_by fault ≡ Opened → fault ≡ None
no_fault None e = refl
no_fault (Some f) e = cc

-- bytes that are read whole, and those behind them
pub reads_both : (front back : List ℕ) (one two : Outcome) → ReadsOn [] front one → one.rest ≡ [] → one.phase ≡ Opened → ReadsOn [] back two
    → ReadsOn [] (front ++ back) (record { phase = two.phase; rest = two.rest; sends = []; wants = one.wants ++ two.wants })
reads_both front back one two r none opened s =
    let whole : r.fault ≡ None = no_fault r.fault (sym (ap (λ (o : Outcome). o.phase) r.is) ∙ opened) in
    let ends : r.rest ≡ [] = sym (ap (λ (o : Outcome). o.rest) r.is) ∙ none in
    let first : one.wants ≡ map Delivers r.messages =
    ap (λ (o : Outcome). o.wants) r.is ∙ ap (λ (f : Option ModeFault). map Delivers r.messages ++ close_by f) whole ∙ append-nil (map Delivers r.messages) in
    let behind : Splits (front ++ back) r.stream.arrivals back =
    subst (λ (z : List ℕ). Splits (front ++ back) r.stream.arrivals (z ++ back)) ends (splits_before front r.rest back r.stream.arrivals r.stream.splits) in
    record {
      messages = r.messages ++ s.messages;
      rest = s.rest;
      fault = s.fault;
      stream = record {
        arrivals = r.stream.arrivals ++ s.stream.arrivals;
        splits = splits_both (front ++ back) back s.rest r.stream.arrivals s.stream.arrivals behind s.stream.splits;
        are = ap (λ (z : List Parts). z ++ s.messages) r.stream.are ∙ ap (λ (z : List Parts). messages_in r.stream.arrivals ++ z) s.stream.are
            ∙ sym (messages_both r.stream.arrivals s.stream.arrivals);
        ends = s.stream.ends;
      };
      is = both_wants one.wants r.messages s.messages s.fault two s.rest first s.is;
    }
  where
    both_wants : (wants : List Wanted) (messages more : List Parts) (fault : Option ModeFault) (two : Outcome) (rest : List ℕ)
        → wants ≡ map Delivers messages → two ≡ record { phase = phase_by fault; rest = rest; sends = []; wants = map Delivers more ++ close_by fault }
        → ◌≡◌ {A = Outcome} (record { phase = two.phase; rest = two.rest; sends = []; wants = wants ++ two.wants })
        (record { phase = phase_by fault; rest = rest; sends = []; wants = map Delivers (messages ++ more) ++ close_by fault })
    both_wants wants messages more fault two rest w e = rw (e, w, map-append, append_assoc)

-- the same by its parts
pub reads_so : (bytes : List ℕ) (phase : ServerPhase) (rest sends : List ℕ) (first more wants : List Wanted) → sends ≡ [] → wants ≡ first ++ more
    → ReadsOn [] bytes (record { phase = phase; rest = rest; sends = []; wants = first ++ more }) → ReadsOn [] bytes (record { phase = phase; rest = rest; sends = sends; wants = wants })
reads_so bytes phase rest sends first more wants s w r = rw (s, w) r
