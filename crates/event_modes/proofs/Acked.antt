-- What is written as an acknowledgement is one, and where its content lies.
use Rattle.std.proofs.Common.{ℕ, ◌≡◌, ◌+◌, ◌-◌, ◌≤◌, List, [], ◌∷◌, ◌++◌, length, take, drop, refl, ap, sym, subst, ◌∙◌, arith, append_assoc, inl, inr}
use Rattle.std.specs.Prelude.{codes, slice_range}
use Rattle.std.specs.List.{concat}
use Rattle.std.proofs.lemmas.List.{append-nil, length-append, length-drop, length-take-le, take_all, take-append-drop, take-append-le, drop-append-le}
use Rattle.msgpack_bytes.specs.declared.format.Kind.TheVariants as kind
use Rattle.msgpack_bytes.specs.declared.format.Container.TheVariants as container
use Rattle.msgpack_bytes.specs.Format.{shape_of}
use Rattle.msgpack_bytes.specs.Item.{IsScalarHeader, IsContainerHeader, Spells, IsItemWithin}
use Rattle.msgpack_bytes.specs.Kinds.{IsText}
use Rattle.msgpack_bytes.proofs.Slices.{slice_middle}
use Rattle.msgpack_bytes.specs.Containers.{IsPart, Pair, pair_items, IsMap}
use Rattle.msgpack_bytes.specs.Names.{HasNoKey, IsLastValue}
use Rattle.event_modes.specs.Options.{longest_chunk}
use Rattle.event_modes.specs.Pairs.{pair_of}
use Rattle.msgpack_bytes.specs.declared.answers.MsgFault.{MsgFault}
use Rattle.msgpack_bytes.specs.Item.{IsOpen}
use Rattle.msgpack_bytes.specs.Answers.{Begins}
use Rattle.msgpack_bytes.proofs.Slices.{slice_length}
use Rattle.event_modes.specs.declared.fault.ModeFault.{ModeFault}
use Rattle.event_modes.specs.declared.fault.ModeFault.TheVariants.{NotAMessage, BadTag, BadTime, BadRecord, BadEntry, TornPacked, Compressed, BadOption, Bytes}
use Rattle.event_modes.specs.declared.acks.AckRead.{AckRead}
use Rattle.event_modes.specs.declared.acks.AckRead.TheVariants as ack
use Rattle.event_modes.proofs.Scans.{not_open, not_faulty}
use Rattle.event_modes.proofs.Only.{fault_one, open_faultless}
use Rattle.event_modes.specs.Acks.{IsAckAt, AckFault, AnswersAck}
use Rattle.event_modes.specs.Acknowledgement.{IsAcknowledgement, acknowledgement_of}
use Rattle.event_modes.proofs.Parting.{same_front, text_item, scalar_is_part, container_is_item}
use Rattle.event_modes.proofs.Begins.{map_one, text_one}
use Rattle.msgpack_bytes.proofs.Contained.{pairs_map}
use Rattle.msgpack_bytes.proofs.Walk.{last_one}
use Rattle.event_modes.proofs.Last.{same_last, lacks_last}

ack_key : List ℕ
ack_key = 0xa3 ∷ 0x61 ∷ 0x63 ∷ 0x6b ∷ []

key_header : IsScalarHeader kind.Str 3 (0xa3 ∷ [])
unfolding shape_of
key_header = inl (refl, refl)

one_header : IsContainerHeader container.Map 1 (0x81 ∷ [])
unfolding shape_of
one_header = inl (refl, refl)

key_spelled : Spells kind.Str ack_key (codes "ack")
unfolding ack_key
key_spelled = record { header = 0xa3 ∷ []; sized = key_header; whole = refl }

pub text_part : (bytes content : List ℕ) → IsText bytes content → IsPart bytes
text_part bytes content (inl s) = scalar_is_part bytes (record { kind = kind.Str; content = content; spelled = s })
text_part bytes content (inr s) = scalar_is_part bytes (record { kind = kind.Bin; content = content; spelled = s })

ack_whole : (item : List ℕ) → acknowledgement_of item ≡ (0x81 ∷ []) ++ (ack_key ++ item)
unfolding ack_key
ack_whole item = refl

-- what is written acknowledges the chunk
pub acknowledges : (item content : List ℕ) → IsText item content → length item ≤ longest_chunk → IsAcknowledgement (acknowledgement_of item) content
acknowledges item content t l =
    let k = text_part ack_key (codes "ack") (inl key_spelled) in
    let v = text_part item content t in
    record {
      item = record {
        item = container_is_item (acknowledgement_of item) (record {
          container = container.Map;
          n = 1;
          header = 0x81 ∷ [];
          inner = ack_key ++ item;
          counted = one_header;
          parts = (ack_key, item, k, (item, [], v, refl, sym (append-nil item)), refl);
          whole = ack_whole item;
        });
        short = omega arith;
      };
      pairs = pair_of ack_key item ∷ [];
      map = pairs_map (pair_of ack_key item ∷ []) (acknowledgement_of item) (record {
        header = 0x81 ∷ [];
        counted = one_header;
        each = (record { key = k; value = v }, tt);
        whole = ack_whole item ∙ ap (λ (z : List ℕ). (0x81 ∷ []) ++ z) (sym (append-nil (ack_key ++ item)));
      });
      value = item;
      last = record { before = []; key = ack_key; after = []; named = inl key_spelled; last = tt; whole = refl };
      text = t;
    }

-- the bytes of pairs, one list after another
concat-pairs : (ps qs : List Pair) → concat (pair_items (ps ++ qs)) ≡ concat (pair_items ps) ++ concat (pair_items qs)
concat-pairs [] qs = refl
concat-pairs (p ∷ ps) qs =
    ap (λ (z : List ℕ). p.key ++ (p.value ++ z)) (concat-pairs ps qs)
    ∙ ap (λ (z : List ℕ). p.key ++ z) (sym (append_assoc p.value (concat (pair_items ps)) (concat (pair_items qs))))
    ∙ sym (append_assoc p.key (p.value ++ concat (pair_items ps)) (concat (pair_items qs)))

pub record Placed (item content : List ℕ) (behind : ℕ) : Type 0 where
  pub front : List ℕ
  pub back : List ℕ
  pub whole : item ≡ front ++ (content ++ back)
  pub behind_is : behind ≡ length back

-- where the content of the last value lies
pub placed : (item name value content : List ℕ) (pairs : List Pair) (behind : ℕ) (l : IsLastValue name pairs value) → IsMap pairs item → behind ≡ length (concat (pair_items l.after)) → IsText value content → Placed item content behind
placed item name value content pairs behind l m b t =
    let h = spelled value content t in
    let before : List ℕ = concat (pair_items l.before) in
    let after : List ℕ = concat (pair_items l.after) in
    let inner : concat (pair_items pairs) ≡ before ++ (l.key ++ (value ++ after)) = ap (λ (ps : List Pair). concat (pair_items ps)) l.whole ∙ concat-pairs l.before (pair_of l.key value ∷ l.after) in
    let e : item ≡ m.header ++ (before ++ (l.key ++ (value ++ after))) = m.whole ∙ ap (λ (z : List ℕ). m.header ++ z) inner in
    let front : List ℕ = m.header ++ (before ++ (l.key ++ h.0)) in
    record {
      front = front;
      back = after;
      whole = e ∙ regroup m.header before l.key h.0 content after value h.1;
      behind_is = b;
    }
  where
    spelled : (value content : List ℕ) → IsText value content → (header : List ℕ) × (value ≡ header ++ content)
    spelled value content (inl s) = (s.header, s.whole)
    spelled value content (inr s) = (s.header, s.whole)

    regroup : (a b c h x y v : List ℕ) → v ≡ h ++ x → a ++ (b ++ (c ++ (v ++ y))) ≡ (a ++ (b ++ (c ++ h))) ++ (x ++ y)
    regroup a b c h x y v e =
        ap (λ (z : List ℕ). a ++ (b ++ (c ++ (z ++ y)))) e ∙ ap (λ (z : List ℕ). a ++ (b ++ (c ++ z))) (append_assoc h x y)
        ∙ sym (append_assoc a (b ++ (c ++ h)) (x ++ y) ∙ ap (λ (z : List ℕ). a ++ z) (append_assoc b (c ++ h) (x ++ y) ∙ ap (λ (z : List ℕ). b ++ z) (append_assoc c h (x ++ y))))

pub record Spanned (item content : List ℕ) (behind : ℕ) : Type 0 where
  pub fits : behind + length content ≤ length item
  pub span : slice_range item (length item - behind - length content) (length item - behind) ≡ content

pub spanned : (item content : List ℕ) (behind : ℕ) → Placed item content behind → Spanned item content behind
spanned item content behind p =
    let l = ap length p.whole in
    let n : length item ≡ length p.front + (length content + behind) = omega (arith, p.behind_is, length-append p.front (content ++ p.back), length-append content p.back) in
    record {
      fits = omega arith;
      span = slice_middle item p.front content p.back 0 (length item - behind - length content) (length item - behind) p.whole (omega arith) (omega arith);
    }

-- another acknowledgement of the item has the same last value
pub same_value : (item content value : List ℕ) (pairs : List Pair) → IsMap pairs item → IsLastValue (codes "ack") pairs value → (a : IsAcknowledgement item content) → IsText value content
same_value item content value pairs m l a =
    let e = map_one a.pairs pairs item a.map m in
    subst (λ (v : List ℕ). IsText v content) (last_one (codes "ack") pairs a.value value (subst (λ (ps : List Pair). IsLastValue (codes "ack") ps a.value) e a.last) l) a.text

pub no_value : (item content : List ℕ) (pairs : List Pair) → IsMap pairs item → HasNoKey (codes "ack") pairs → IsAcknowledgement item content → ⊥
no_value item content pairs m l a =
    lacks_last (codes "ack") a.pairs a.value (subst (HasNoKey (codes "ack")) (map_one pairs a.pairs item m a.map) l) a.last

-- ---- where an acknowledgement lies

take_whole : (item : List ℕ) → take (length item) item ≡ item
take_whole item = take_all (length item) item (omega arith)

-- the item itself, seen as the front of its bytes
pub acknowledged_at : (item content value : List ℕ) (behind : ℕ) (pairs : List Pair) → IsItemWithin item → IsMap pairs item → (l : IsLastValue (codes "ack") pairs value) → behind ≡ length (concat (pair_items l.after)) → IsText value content
    → Spanned item content behind → IsAckAt item (length item - behind - length content) (length item - behind) (length item)
acknowledged_at item content value behind pairs t m l b x s = record {
  fits = omega arith;
  is = record {
    item = subst IsItemWithin (sym (take_whole item)) t;
    pairs = pairs;
    map = subst (IsMap pairs) (sym (take_whole item)) m;
    value = value;
    last = l;
    text = subst (IsText value) (sym s.span) x;
  };
  starts = omega arith;
  ends = (let f = s.fits in omega arith);
}

-- what begins the bytes lies where it lies in the whole of them
span_of_front : (bytes item rest : List ℕ) (start end : ℕ) → bytes ≡ item ++ rest → start ≤ end → end ≤ length item → slice_range item start end ≡ slice_range bytes start end
span_of_front bytes item rest start end e le lt =
    let d : drop start bytes ≡ drop start item ++ rest = ap (drop start) e ∙ drop-append-le start item rest (omega arith) in
    sym (ap (take (end - start)) d ∙ take-append-le (end - start) (drop start item) rest (omega (arith, length-drop start item)))

pub at_front : (bytes item : List ℕ) (start end next : ℕ) → next ≤ length bytes → item ≡ take next bytes → IsAckAt item start end (length item) → IsAckAt bytes start end next
at_front bytes item start end next le e a =
    let n : length item ≡ next = ap length e ∙ length-take-le next bytes le in
    let w : bytes ≡ item ++ drop next bytes = sym (take-append-drop next bytes) ∙ ap (λ (z : List ℕ). z ++ drop next bytes) (sym e) in
    let f : take (length item) item ≡ take next bytes = take_whole item ∙ e in
    let s = a.is in
    record {
      fits = le;
      is = record {
        item = subst IsItemWithin f s.item;
        pairs = s.pairs;
        map = subst (IsMap s.pairs) f s.map;
        value = s.value;
        last = s.last;
        text = subst (IsText s.value) (span_of_front bytes item (drop next bytes) start end w a.starts (let x = a.ends in omega arith)) s.text;
      };
      starts = a.starts;
      ends = a.ends ∙ n;
    }

begins_ack : (bytes : List ℕ) (start end next : ℕ) → IsAckAt bytes start end next → Begins IsItemWithin bytes
begins_ack bytes start end next a = record { front = take next bytes; back = drop next bytes; is = a.is.item; whole = sym (take-append-drop next bytes) }

same_place : (bytes : List ℕ) (s e n t f m : ℕ) → IsAckAt bytes s e n → IsAckAt bytes t f m → (s ≡ t) × (e ≡ f) × (n ≡ m)
same_place bytes s e n t f m p q =
    let front = same_front (take n bytes) (take m bytes) (drop n bytes) (drop m bytes) (text_item (take n bytes) p.is.item) (text_item (take m bytes) q.is.item) (take-append-drop n bytes ∙ sym (take-append-drop m bytes)) in
    let nm : n ≡ m = sym (length-take-le n bytes p.fits) ∙ ap length front ∙ length-take-le m bytes q.fits in
    let pairs = map_one p.is.pairs q.is.pairs (take m bytes) (subst (IsMap p.is.pairs) front p.is.map) q.is.map in
    let a = same_last (codes "ack") p.is.pairs q.is.pairs p.is.value q.is.value pairs p.is.last q.is.last in
    let behind = ap (λ (ps : List Pair). length (concat (pair_items ps))) a.1 in
    let x = p.ends in
    let y = q.ends in
    let ef : e ≡ f = omega arith in
    let c = text_one q.is.value (slice_range bytes s e) (slice_range bytes t f) (subst (λ (v : List ℕ). IsText v (slice_range bytes s e)) a.0 p.is.text) q.is.text in
    let l = ap length c in
    let st : s ≡ t = omega (arith, slice_length bytes s e p.starts (omega (arith, p.fits)), slice_length bytes t f q.starts (omega (arith, q.fits)), p.starts, q.starts) in
    (st, ef, nm)

one_ack_fault : (bytes : List ℕ) (f g : ModeFault) → AckFault bytes f → AckFault bytes g → f ≡ g
one_ack_fault bytes NotAMessage NotAMessage p q = refl
one_ack_fault bytes NotAMessage (Bytes n) p q = absurd (not_faulty n bytes (record { front = p.item; back = p.more; is = p.is_item; whole = p.whole }) q)
one_ack_fault bytes (Bytes m) NotAMessage p q = absurd (not_faulty m bytes (record { front = q.item; back = q.more; is = q.is_item; whole = q.whole }) p)
one_ack_fault bytes (Bytes m) (Bytes n) p q = ap (λ (x : MsgFault). Bytes x) (fault_one bytes m n p q)
one_ack_fault bytes BadTag g p q = absurd p
one_ack_fault bytes BadTime g p q = absurd p
one_ack_fault bytes BadRecord g p q = absurd p
one_ack_fault bytes BadEntry g p q = absurd p
one_ack_fault bytes TornPacked g p q = absurd p
one_ack_fault bytes Compressed g p q = absurd p
one_ack_fault bytes BadOption g p q = absurd p
one_ack_fault bytes f BadTag p q = absurd q
one_ack_fault bytes f BadTime p q = absurd q
one_ack_fault bytes f BadRecord p q = absurd q
one_ack_fault bytes f BadEntry p q = absurd q
one_ack_fault bytes f TornPacked p q = absurd q
one_ack_fault bytes f Compressed p q = absurd q
one_ack_fault bytes f BadOption p q = absurd q

-- an acknowledgement is no fault
no_ack_fault : (bytes : List ℕ) (s e n : ℕ) (f : ModeFault) → IsAckAt bytes s e n → AckFault bytes f → ⊥
no_ack_fault bytes s e n NotAMessage p q =
    let front = same_front (take n bytes) q.item (drop n bytes) q.more (text_item (take n bytes) p.is.item) (text_item q.item q.is_item) (take-append-drop n bytes ∙ q.whole) in
    q.none (slice_range bytes s e) (subst (λ (z : List ℕ). IsAcknowledgement z (slice_range bytes s e)) front p.is)
no_ack_fault bytes s e n (Bytes m) p q = not_faulty m bytes (begins_ack bytes s e n p) q
no_ack_fault bytes s e n BadTag p q = q
no_ack_fault bytes s e n BadTime p q = q
no_ack_fault bytes s e n BadRecord p q = q
no_ack_fault bytes s e n BadEntry p q = q
no_ack_fault bytes s e n TornPacked p q = q
no_ack_fault bytes s e n Compressed p q = q
no_ack_fault bytes s e n BadOption p q = q

open_ack_fault : (bytes : List ℕ) (f : ModeFault) → IsOpen bytes → AckFault bytes f → ⊥
open_ack_fault bytes NotAMessage o q = not_open bytes (record { front = q.item; back = q.more; is = q.is_item; whole = q.whole }) o
open_ack_fault bytes (Bytes m) o q = open_faultless bytes m o q
open_ack_fault bytes BadTag o q = q
open_ack_fault bytes BadTime o q = q
open_ack_fault bytes BadRecord o q = q
open_ack_fault bytes BadEntry o q = q
open_ack_fault bytes TornPacked o q = q
open_ack_fault bytes Compressed o q = q
open_ack_fault bytes BadOption o q = q

-- there is one answer to bytes
pub one_ack : (bytes : List ℕ) (a b : AckRead) → AnswersAck bytes a → AnswersAck bytes b → a ≡ b
one_ack bytes (ack.Value s e n) (ack.Value t f m) p q =
    let x = same_place bytes s e n t f m p q in
    ap (λ (k : ℕ). ack.Value k e n) x.0 ∙ ap (λ (k : ℕ). ack.Value t k n) x.1 ∙ ap (λ (k : ℕ). ack.Value t f k) x.2
one_ack bytes (ack.Value s e n) ack.Need p q = absurd (not_open bytes (begins_ack bytes s e n p) q)
one_ack bytes (ack.Value s e n) (ack.Bad f) p q = absurd (no_ack_fault bytes s e n f p q)
one_ack bytes ack.Need (ack.Value s e n) p q = absurd (not_open bytes (begins_ack bytes s e n q) p)
one_ack bytes ack.Need ack.Need p q = refl
one_ack bytes ack.Need (ack.Bad f) p q = absurd (open_ack_fault bytes f p q)
one_ack bytes (ack.Bad f) (ack.Value s e n) p q = absurd (no_ack_fault bytes s e n f q p)
one_ack bytes (ack.Bad f) ack.Need p q = absurd (open_ack_fault bytes f q p)
one_ack bytes (ack.Bad f) (ack.Bad g) p q = ap (λ (x : ModeFault). ack.Bad x) (one_ack_fault bytes f g p q)
