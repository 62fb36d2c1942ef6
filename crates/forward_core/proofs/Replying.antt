-- Listening to the replies of a server, one item after another.
use Rattle.std.proofs.Common.{ℕ, ◌≡◌, ◌+◌, ◌-◌, ◌<◌, ◌≤◌, List, [], ◌∷◌, ◌++◌, length, take, drop, refl, ap, sym, ◌∙◌, subst, inr, arith, append_assoc, Option, Some}
use Rattle.std.specs.List.{AllByRecursion, concat}
use Rattle.std.proofs.lemmas.List.{take-append-drop, drop-drop, length-drop, length-take-le, append-nil}
use Rattle.msgpack_bytes.specs.declared.answers.Scan.TheVariants.{End}
use Rattle.msgpack_bytes.specs.Answers.{IsScanned}
use Rattle.msgpack_bytes.specs.Item.{IsItemWithin, IsOpen}
use Rattle.msgpack_bytes.proofs.Walk.{all_with}
use Rattle.event_modes.specs.declared.chunk_id.ChunkId.{ChunkId}
use Rattle.event_modes.specs.ChunkIds.{chunk_text}
use Rattle.event_modes.specs.Acknowledgement.{IsAcknowledgement}
use Rattle.event_modes.specs.Acks.{IsAckAt, AckFault}
use Rattle.event_modes.specs.declared.fault.ModeFault.{ModeFault}
use Rattle.event_modes.specs.declared.fault.ModeFault.TheVariants.{NotAMessage, BadTag, BadTime, BadRecord, BadEntry, TornPacked, Compressed, BadOption, Bytes}
use Rattle.event_modes.proofs.Parting.{text_item, same_front}
use Rattle.event_modes.proofs.Stored.{concat-push}
use Rattle.event_modes.proofs.Again.{some_byte}
use Rattle.event_modes.proofs.Only.{no_begin}
use Rattle.std.specs.Prelude.{slice_range}
use Rattle.ack_receipt.specs.Evidences.{Shows, Acknowledged}
use Rattle.forward_core.specs.declared.fault.SessionFault.TheVariants.{BadAck}
use Rattle.forward_core.specs.Client.{Sees, Waits, Fails, IsPassed, IsOther, IsNoReply, IsHeard}

-- the first n bytes are items that were passed over
pub record Passing (chunk : Option ChunkId) (bytes : List ℕ) (n : ℕ) : Type 0 where
  pub within : n ≤ length bytes
  pub items : List (List ℕ)
  pub passed : AllByRecursion (IsPassed chunk) items
  pub whole : bytes ≡ concat items ++ drop n bytes

pub passing_none : (chunk : Option ChunkId) (bytes : List ℕ) → Passing chunk bytes 0
passing_none chunk bytes = record { within = omega arith; items = []; passed = tt; whole = refl }

-- an item within the limits at the front of what is left
pub record Front (bytes : List ℕ) (n end : ℕ) : Type 0 where
  pub whole : drop n bytes ≡ take end (drop n bytes) ++ drop (n + end) bytes
  pub some : 0 < end
  pub within : n + end ≤ length bytes

pub front_at : (bytes : List ℕ) (n end : ℕ) → n ≤ length bytes → end ≤ length (drop n bytes) → IsItemWithin (take end (drop n bytes)) → Front bytes n end
front_at bytes n end w e p = record {
  whole = sym (take-append-drop end (drop n bytes)) ∙ ap (λ (z : List ℕ). take end (drop n bytes) ++ z) (drop-drop end n bytes);
  some = subst (λ (k : ℕ). 0 < k) (length-take-le end (drop n bytes) e) (some_byte (take end (drop n bytes)) p);
  within = omega (arith, e, w, length-drop n bytes);
}

-- one more item was passed over
pub passing_more : (chunk : Option ChunkId) (bytes : List ℕ) (n end : ℕ) → Passing chunk bytes n → Front bytes n end
    → IsPassed chunk (take end (drop n bytes)) → Passing chunk bytes (n + end)
passing_more chunk bytes n end p f q =
    let item = take end (drop n bytes) in
    let rest = drop (n + end) bytes in
    record {
      within = f.within;
      items = p.items ++ item ∷ [];
      passed = all_with (IsPassed chunk) p.items item p.passed q;
      whole = p.whole ∙ ap (λ (z : List ℕ). concat p.items ++ z) f.whole ∙ sym (append_assoc (concat p.items) item rest)
          ∙ ap (λ (z : List ℕ). z ++ rest) (sym (concat-push p.items item));
    }

-- what is heard where nothing whole is left
pub heard_wait : (chunk : Option ChunkId) (bytes : List ℕ) (n : ℕ) → Passing chunk bytes n → IsOpen (drop n bytes) → IsHeard chunk bytes n Waits
heard_wait chunk bytes n p o = record {
  within = p.within;
  hears = λ old h. record { items = p.items; rest = drop n bytes; passed = p.passed; whole = h ∙ p.whole; next = (o, refl) };
}

-- what is heard where no reply stands
pub heard_bad : (chunk : Option ChunkId) (bytes : List ℕ) (n : ℕ) → Passing chunk bytes n → IsNoReply (drop n bytes) → IsHeard chunk bytes n (Fails BadAck)
heard_bad chunk bytes n p o = record {
  within = p.within;
  hears = λ old h. record { items = p.items; rest = drop n bytes; passed = p.passed; whole = h ∙ p.whole; next = (refl, o, refl) };
}

-- what is heard where the acknowledgement stands that is awaited
pub heard_seen : (chunk : Option ChunkId) (bytes : List ℕ) (n end : ℕ) (shown : Shows) (id : ChunkId) → Passing chunk bytes n → Front bytes n end
    → chunk ≡ Some id → shown ≡ Acknowledged id → IsAcknowledgement (take end (drop n bytes)) (chunk_text id) → IsHeard chunk bytes (n + end) (Sees shown)
heard_seen chunk bytes n end shown id p f k s a = record {
  within = f.within;
  hears = λ old h. record {
    items = p.items;
    rest = drop n bytes;
    passed = p.passed;
    whole = h ∙ p.whole;
    next = (id, take end (drop n bytes), drop (n + end) bytes, k, s, a, f.whole, refl);
  };
}

-- the bytes that are left grow fewer
pub fewer_left : (bytes : List ℕ) (n end : ℕ) → Front bytes n end → length bytes - (n + end) < length bytes - n
fewer_left bytes n end f = let s = f.some in let w = f.within in omega arith

-- bytes with an item behind them begin with no reply, where the item is none
pub other_item : (bytes : List ℕ) (n end : ℕ) → Front bytes n end → IsItemWithin (take end (drop n bytes)) → IsOther (take end (drop n bytes)) → IsNoReply (drop n bytes)
other_item bytes n end f i o = inr (take end (drop n bytes), drop (n + end) bytes, i, o, f.whole)

-- what is read of an item that acknowledges nothing
pub no_ack : (item content : List ℕ) (fault : ModeFault) → IsItemWithin item → AckFault item fault → IsAcknowledgement item content → ⊥
no_ack item content NotAMessage i p a =
    let e : item ≡ p.item = same_front item p.item [] p.more (text_item item i) (text_item p.item p.is_item) (append-nil item ∙ p.whole) in
    p.none content (subst (λ (z : List ℕ). IsAcknowledgement z content) e a)
no_ack item content (Bytes m) i p a = no_begin item (Bytes m) p (record { front = item; back = []; is = i; whole = sym (append-nil item) })
no_ack item content BadTag i p a = p
no_ack item content BadTime i p a = p
no_ack item content BadRecord i p a = p
no_ack item content BadEntry i p a = p
no_ack item content TornPacked i p a = p
no_ack item content Compressed i p a = p
no_ack item content BadOption i p a = p

-- an acknowledgement at the front of an item is all of it
pub some_ack : (item : List ℕ) (start end next : ℕ) → IsItemWithin item → IsAckAt item start end next → (content : List ℕ) × IsAcknowledgement item content
some_ack item start end next i p =
    let front = take next item in
    let e : front ≡ item = same_front front item (drop next item) [] (text_item front p.is.item) (text_item item i) (take-append-drop next item ∙ sym (append-nil item)) in
    (slice_range item start end, subst (λ (z : List ℕ). IsAcknowledgement z (slice_range item start end)) e p.is)

-- the item that a scan found
pub front_scanned : (bytes rest : List ℕ) (n end : ℕ) → n ≤ length bytes → rest ≡ drop n bytes → IsScanned rest 0 (End end)
    → Front bytes n end × IsItemWithin (take end (drop n bytes))
front_scanned bytes rest n end w r s =
    let e : slice_range rest 0 end ≡ take end rest = grind arith in
    let item : IsItemWithin (take end (drop n bytes)) = subst (λ (z : List ℕ). IsItemWithin (take end z)) r (subst IsItemWithin e s.2) in
    (front_at bytes n end w (subst (λ (z : List ℕ). end ≤ length z) r s.1) item, item)
