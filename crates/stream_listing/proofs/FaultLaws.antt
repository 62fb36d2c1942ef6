-- What is known of a fault of the stream.
use Rattle.std.proofs.Common.{inl, inr, ℕ, ◌≡◌, List, [], ◌∷◌, ◌++◌, sym, ap, ◌∙◌, subst, append_assoc, append-nil, arith}
use Rattle.msgpack_bytes.specs.Item.{IsItemWithin, IsOpen}
use Rattle.msgpack_bytes.specs.Fault.{IsFaulty}
use Rattle.msgpack_bytes.specs.declared.answers.MsgFault.{MsgFault}
use Rattle.msgpack_bytes.proofs.Standing.{faulty_more}
use Rattle.event_modes.specs.declared.fault.ModeFault.{ModeFault}
use Rattle.event_modes.specs.Stream.{Arrival, Sent, Heartbeat, IsArrival, IsRest, IsLost}
use Rattle.event_modes.specs.Faults.{StreamFault}
use Rattle.event_modes.proofs.Only.{stream_one, open_unfaulted, nil_faultless, faultless}
use Rattle.event_modes.proofs.One.{arrival_text}
use Rattle.event_modes.proofs.Parting.{same_front, text_item}
use Rattle.event_modes.proofs.Aheads.{none_open}
use Rattle.event_modes.proofs.Scans.{not_faulty}
use Rattle.stream_listing.specs.Listing.{IsPending}
use Rattle.stream_listing.specs.Laws.{StandsForGood}

-- a fault stays, whatever follows
pub fault_stays : (bytes more : List ℕ) (fault : ModeFault) → StreamFault bytes fault → StreamFault (bytes ++ more) fault
fault_stays bytes more fault (inl p) = inl (p.0, p.1, faulty_more p.0 bytes more p.2)
fault_stays bytes more fault (inr p) = inr (p.0, p.1 ++ more, p.2, p.3, ap (λ l. l ++ more) p.4 ∙ append_assoc p.0 p.1 more)

-- no bytes and the beginning of an item have none
pub fault_not_pending : (bytes : List ℕ) (fault : ModeFault) → StreamFault bytes fault → IsPending bytes → ⊥
fault_not_pending bytes fault h (inl none) = open_unfaulted [] fault none_open (subst (λ b. StreamFault b fault) none h)
fault_not_pending bytes fault h (inr begun) = open_unfaulted bytes fault begun h

-- the beginning of an item within the limits is open, unless it is one
pub longer_open : (front more : List ℕ) → IsItemWithin (front ++ more) → (IsItemWithin front → ⊥) → IsOpen front
longer_open front [] h none = absurd (none (subst IsItemWithin (append-nil front) h))
longer_open front (m ∷ more) h none = record { more = m ∷ more; some = omega arith; ends = h; unended = none }

faulty_lost : (why : MsgFault) (bytes : List ℕ) → IsFaulty why bytes → IsLost bytes
faulty_lost why bytes h = record {
  begins_none = λ more text.
      h.closed (h.rest ++ more) (subst IsItemWithin (ap (λ l. l ++ more) h.whole ∙ append_assoc h.shortest h.rest more) text);
  has_none = λ front back e text. not_faulty why bytes (record { front = front; back = back; is = text; whole = e }) h;
}

-- bytes that begin with an arrival have none
fault_first : (bytes front back : List ℕ) (arrival : Arrival) (fault : ModeFault) → StreamFault bytes fault → IsArrival front arrival → bytes ≡ front ++ back → ⊥
fault_first bytes front back arrival fault (inl p) a e = not_faulty p.0 bytes (record { front = front; back = back; is = arrival_text front arrival a; whole = e }) p.2
fault_first bytes front back arrival fault (inr p) a e =
    let same = same_front front p.0 back p.1 (text_item front (arrival_text front arrival a)) (text_item p.0 p.2) (sym e ∙ p.4) in
    alone arrival (subst (λ b. IsArrival b arrival) same a)
  where
    alone : (arrival : Arrival) → IsArrival p.0 arrival → ⊥
    alone (Sent parts) a = faultless p.0 parts fault a p.3
    alone Heartbeat a = nil_faultless p.0 fault a p.3

-- it is where the messages end
pub fault_rest : (bytes : List ℕ) (fault : ModeFault) → StreamFault bytes fault → IsRest bytes
fault_rest bytes fault (inl p) = inr (inr (inr (faulty_lost p.0 bytes p.2)))
fault_rest bytes fault (inr p) = inr (inr (inl (record {
  item = p.0;
  more = p.1;
  is_item = p.2;
  neither = neither;
  whole = p.4;
}))) where
  neither : (arrival : Arrival) → IsArrival p.0 arrival → ⊥
  neither (Sent parts) a = faultless p.0 parts fault a p.3
  neither Heartbeat a = nil_faultless p.0 fault a p.3

pub stands_for_good : StandsForGood
stands_for_good bytes fault h = record {
  begins_none = λ front back arrival a e. fault_first bytes front back arrival fault h a e;
  not_pending = fault_not_pending bytes fault h;
  one = λ other k. stream_one bytes fault other h k;
  stays = λ more. fault_stays bytes more fault h;
}
