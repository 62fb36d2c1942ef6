-- Messages of one event and entries, told by their first bytes.
use Rattle.std.proofs.Common.{ℕ, suc, ◌≡◌, ◌+◌, ◌-◌, ◌⊎◌, ◌<◌, ◌≤◌, List, [], ◌∷◌, ◌++◌, length, get_or, take, drop, pos, refl, ap, sym, subst, ◌∙◌, arith, inl, inr, None}
use Rattle.std.specs.List.{AllByRecursion, concat}
use Rattle.std.proofs.lemmas.List.{append-nil, length-append, take-append-drop, length-take-le}
use Rattle.std.proofs.Math.Seq.{drop-cons}
use Rattle.std.proofs.lemmas.Grind.{common_steps}
use Rattle.msgpack_bytes.specs.declared.format.Shape.TheVariants.{Fixed}
use Rattle.msgpack_bytes.specs.declared.format.Kind.TheVariants as kind
use Rattle.msgpack_bytes.specs.declared.format.Container.{Container}
use Rattle.msgpack_bytes.specs.declared.format.Container.TheVariants as container
use Rattle.msgpack_bytes.specs.Format.{big_endian, items_in, shape_of}
use Rattle.msgpack_bytes.specs.Parts.{Row}
use Rattle.msgpack_bytes.specs.Item.{IsScalarHeader, IsContainerHeader, IsScalar, Item, longest, IsItemWithin}
use Rattle.msgpack_bytes.specs.Kinds.{IsText, Unsigned, Positive}
use Rattle.msgpack_bytes.specs.Containers.{IsPart, IsArray}
use Rattle.event_modes.specs.Entry.{IsEventTime, IsTime, IsRecord}
use Rattle.event_modes.specs.Message.{Single}
use Rattle.event_modes.specs.Rows.{IsStored}
use Rattle.event_modes.specs.Usual.{BeginsStr, BeginsMap, BeginsEvent, IsOneEvent}
use Rattle.msgpack_bytes.proofs.Rows.{fixstr}
use Rattle.msgpack_bytes.proofs.Contained.{row_items, pairs_map}
use Rattle.event_modes.proofs.Parting.{IsItem, item_cases, scalar_is_item, part_item, same_front, same_behind}
use Rattle.event_modes.proofs.Begins.{family_of, family_in, family_at, BeginsAs, begins_one, begins_front, spells_begins, header_begins, int_begins, array_begins}
use Rattle.event_modes.proofs.Heads.{container_parts, row_pairs, same_container, no_scalar, integer_scalar}
use Rattle.event_modes.proofs.Collected.{stored_is}

-- ---- times

event_time_scalar : (bytes : List ℕ) → IsEventTime bytes → IsScalar bytes
unfolding shape_of
event_time_scalar bytes t = elim t.spelled [
  | inl e ↦ record { kind = kind.Ext; content = 0x00 ∷ t.content; spelled = record { header = 0xd7 ∷ []; sized = inl (ap (λ (n : ℕ). Fixed kind.Ext (suc n)) (sym t.eight), refl); whole = e } }
  | inr e ↦ record { kind = kind.Ext; content = 0x00 ∷ t.content; spelled = record { header = 0xc7 ∷ 0x08 ∷ []; sized = inr (1, refl, (let n = t.eight in omega arith)); whole = e } }
]

time_scalar : (bytes : List ℕ) → IsTime bytes → IsScalar bytes
time_scalar bytes (inl i) = integer_scalar bytes i.0 i.1
time_scalar bytes (inr t) = event_time_scalar bytes t

event_time_begins : (bytes : List ℕ) → IsEventTime bytes → BeginsAs 6 bytes
unfolding shape_of
event_time_begins bytes t = elim t.spelled [
  | inl e ↦ subst (BeginsAs 6) (sym e) refl
  | inr e ↦ subst (BeginsAs 6) (sym e) refl
]

-- a time is of one of two families
time_family : (bytes : List ℕ) (k : ℕ) → IsTime bytes → BeginsAs k bytes → (k ≡ 2) ⊎ (k ≡ 6)
time_family bytes k (inl i) b = inl (begins_one k 2 bytes b (int_begins bytes i.0 i.1))
time_family bytes k (inr t) b = inr (begins_one k 6 bytes b (event_time_begins bytes t))

no_array_time : (bytes : List ℕ) → IsTime bytes → (items : List (List ℕ)) → IsArray items bytes → ⊥
no_array_time bytes t items a = elim (time_family bytes 7 t (array_begins items bytes a)) [ inl e ↦ omega arith | inr e ↦ omega arith ]

no_text_time : (bytes : List ℕ) → IsTime bytes → (content : List ℕ) → IsText bytes content → ⊥
no_text_time bytes t content (inl s) = elim (time_family bytes 4 t (spells_begins kind.Str bytes content s)) [ inl e ↦ omega arith | inr e ↦ omega arith ]
no_text_time bytes t content (inr s) = elim (time_family bytes 5 t (spells_begins kind.Bin bytes content s)) [ inl e ↦ omega arith | inr e ↦ omega arith ]

-- ---- records

map_family : (first : ℕ) → BeginsMap first → family_at (shape_of first) ≡ 8
unfolding shape_of
map_family first (inl m) = let low = m.0 in let high = m.1 in grind (arith, common_steps)
map_family first (inr e) = subst (λ (b : ℕ). family_at (shape_of b) ≡ 8) (sym e) refl

-- an item that begins as a map is a record
begins_record : (bytes : List ℕ) → IsItem bytes → BeginsAs 8 bytes → IsRecord bytes
begins_record bytes p b = elim (item_cases bytes p) [
  | inl s ↦ absurd (no_scalar s.kind container.Map (begins_one (family_of s.kind) 8 bytes (spells_begins s.kind bytes s.content s.spelled) b))
  | inr d ↦
      let e = same_container d.container container.Map (begins_one (family_in d.container) 8 bytes (begins_front (family_in d.container) bytes d.header d.inner (header_begins d.container d.n d.header d.counted) d.whole) b) in
      let counted = subst (λ (c : Container). IsContainerHeader c d.n d.header) e d.counted in
      let r = row_pairs d.n d.inner (subst (λ (c : Container). Row (Item 63) (items_in c d.n) d.inner) e d.parts) in
      (r.0, pairs_map r.0 bytes (record { header = d.header; counted = subst (λ (n : ℕ). IsContainerHeader container.Map n d.header) r.1 counted; each = r.2; whole = d.whole ∙ ap (λ (z : List ℕ). d.header ++ z) r.3 }))
]

-- ---- strs

first_of : (xs : List ℕ) (first : ℕ) → 0 < length xs → get_or xs 0 0 ≡ first → xs ≡ first ∷ drop 1 xs
first_of [] first h e = absurd (omega arith)
first_of (x ∷ xs) first h e = ap (λ (b : ℕ). b ∷ xs) e

pub begins_as : (item elements : List ℕ) (first : ℕ) → 0 < length item → get_or item 0 0 ≡ first → elements ≡ drop 1 item → item ≡ first ∷ elements
begins_as item elements first h e d = first_of item first h e ∙ ap (λ (z : List ℕ). first ∷ z) (sym d)

short_header : (n : ℕ) → n < 32 → IsScalarHeader kind.Str n ((0xa0 + n) ∷ [])
short_header n h = inl (fixstr n h, refl)

-- a fixstr
pub short_found : (bytes content behind : List ℕ) (first : ℕ) → 0 < length bytes → get_or bytes 0 0 ≡ first → 0xa0 ≤ first → first ≤ 0xbf → length content ≡ first - 0xa0 → drop 1 bytes ≡ content ++ behind → BeginsStr bytes content behind
short_found bytes content behind first h e low high n d =
    let same : 0xa0 + length content ≡ first = omega arith in
    record {
      front = first ∷ content;
      is_str = record { header = first ∷ []; sized = subst (λ (b : ℕ). IsScalarHeader kind.Str (length content) (b ∷ [])) same (short_header (length content) (omega arith)); whole = refl };
      whole = first_of bytes first h e ∙ ap (λ (z : List ℕ). first ∷ z) d;
      short = omega arith;
    }

-- a str 8
pub longer_found : (bytes content behind : List ℕ) (size : ℕ) → 1 < length bytes → get_or bytes 0 0 ≡ 0xd9 → get_or bytes 1 0 ≡ size → size < 256 → length content ≡ size → drop 2 bytes ≡ content ++ behind → BeginsStr bytes content behind
unfolding shape_of
longer_found [] content behind size h e f small n d = absurd (omega arith)
longer_found (x ∷ []) content behind size h e f small n d = absurd (omega arith)
longer_found (x ∷ y ∷ rest) content behind size h e f small n d = record {
  front = 0xd9 ∷ size ∷ content;
  is_str = record { header = 0xd9 ∷ size ∷ []; sized = inr (0, refl, omega arith); whole = refl };
  whole = ap (λ (b : ℕ). b ∷ y ∷ rest) e ∙ ap (λ (b : ℕ). 0xd9 ∷ b ∷ rest) f ∙ ap (λ (z : List ℕ). 0xd9 ∷ size ∷ z) d;
  short = omega arith;
}

-- ---- a time and a map behind it

cut_at : (xs : List ℕ) (n : ℕ) → n < length xs → xs ≡ take n xs ++ get_or xs n 0 ∷ drop (suc n) xs
cut_at xs n h = sym (take-append-drop n xs) ∙ ap (λ (z : List ℕ). take n xs ++ z) (drop-cons xs n 0 h)

pub event_time_found : (bytes : List ℕ) → 10 < length bytes → get_or bytes 0 0 ≡ 0xd7 → get_or bytes 1 0 ≡ 0 → BeginsMap (get_or bytes 10 0) → BeginsEvent bytes
event_time_found [] h e f m = absurd (omega arith)
event_time_found (x ∷ []) h e f m = absurd (omega arith)
event_time_found (x ∷ y ∷ more) h e f m = record {
  time = 0xd7 ∷ 0x00 ∷ take 8 more;
  first = get_or more 8 0;
  rest = drop 9 more;
  is_time = inr (record { content = take 8 more; eight = length-take-le 8 more (omega arith); spelled = inl refl });
  map = m;
  whole = ap (λ (b : ℕ). b ∷ y ∷ more) e ∙ ap (λ (b : ℕ). 0xd7 ∷ b ∷ more) f ∙ ap (λ (z : List ℕ). 0xd7 ∷ 0x00 ∷ z) (cut_at more 8 (omega arith));
}

pub seconds_found : (bytes : List ℕ) → 5 < length bytes → get_or bytes 0 0 ≡ 0xce → BeginsMap (get_or bytes 5 0) → BeginsEvent bytes
unfolding shape_of
seconds_found [] h e m = absurd (omega arith)
seconds_found (x ∷ more) h e m = record {
  time = 0xce ∷ take 4 more;
  first = get_or more 4 0;
  rest = drop 5 more;
  is_time = inl (
    pos (big_endian (take 4 more)),
    Unsigned (take 4 more) (record { header = 0xce ∷ []; sized = inl (ap (λ (n : ℕ). Fixed kind.Unsigned n) (sym (length-take-le 4 more (omega arith))), refl); whole = refl }) refl,
  );
  map = m;
  whole = ap (λ (b : ℕ). b ∷ more) e ∙ ap (λ (z : List ℕ). 0xce ∷ z) (cut_at more 4 (omega arith));
}

pub one_byte_found : (bytes : List ℕ) → 1 < length bytes → get_or bytes 0 0 < 0x80 → BeginsMap (get_or bytes 1 0) → BeginsEvent bytes
one_byte_found [] h e m = absurd (omega arith)
one_byte_found (x ∷ []) h e m = absurd (omega arith)
one_byte_found (x ∷ y ∷ more) h e m = record {
  time = x ∷ [];
  first = y;
  rest = more;
  is_time = inl (pos x, Positive x e refl refl);
  map = m;
  whole = refl;
}

-- the two parts of an event
record Event (event : List ℕ) : Type 0 where
  time : List ℕ
  fields : List ℕ
  time_part : IsPart time
  fields_part : IsPart fields
  is_time : IsTime time
  is_record : IsRecord fields
  whole : event ≡ time ++ fields

-- where the bytes are two parts, what they begin with is the one, and the other a record
event_of : (event b c : List ℕ) → IsPart b → IsPart c → event ≡ b ++ (c ++ []) → BeginsEvent event → Event event
event_of event b c p q w v =
    let i : IsItem v.time = record { item = scalar_is_item v.time (time_scalar v.time v.is_time) } in
    let e : v.time ++ v.first ∷ v.rest ≡ b ++ (c ++ []) = sym v.whole ∙ w in
    let first = same_front v.time b (v.first ∷ v.rest) (c ++ []) i (part_item b p) e in
    let second : v.first ∷ v.rest ≡ c = same_behind v.time b (v.first ∷ v.rest) (c ++ []) i (part_item b p) e ∙ append-nil c in
    let fields = subst IsPart (sym second) q in
    record {
      time = v.time;
      fields = v.first ∷ v.rest;
      time_part = subst IsPart (sym first) p;
      fields_part = fields;
      is_time = v.is_time;
      is_record = begins_record (v.first ∷ v.rest) (part_item (v.first ∷ v.rest) fields) (map_family v.first v.map);
      whole = v.whole;
    }

event_stored : (event : List ℕ) → length event < longest → Event event → IsStored (0x92 ∷ event)
event_stored event short v =
    let n : length v.time + length v.fields < longest = omega (arith, ap length v.whole, length-append v.time v.fields) in
    subst IsStored (ap (λ (z : List ℕ). 0x92 ∷ z) (sym v.whole)) (stored_is v.time v.fields v.time_part v.fields_part v.is_time v.is_record n)

-- ---- entries

two_header : IsContainerHeader container.Array 2 (0x92 ∷ [])
unfolding shape_of
two_header = inl (refl, refl)

pub entry_is_stored : (entry event : List ℕ) → IsItemWithin entry → entry ≡ 0x92 ∷ event → BeginsEvent event → IsStored entry
entry_is_stored entry event t e v = parts r.0 r.1 r.2 r.3
  where
    r : (items : List (List ℕ)) × (2 ≡ length items) × AllByRecursion IsPart items × (event ≡ concat items)
    r = row_items (Item 63) 2 event (container_parts container.Array 2 (0x92 ∷ []) event (subst IsItemWithin e t) two_header)

    parts : (items : List (List ℕ)) → 2 ≡ length items → AllByRecursion IsPart items → event ≡ concat items → IsStored entry
    parts [] n p w = absurd (omega arith)
    parts (a ∷ []) n p w = absurd (omega arith)
    parts (a ∷ b ∷ c ∷ xs) n p w = absurd (omega arith)
    parts (a ∷ b ∷ []) n p w = subst IsStored (sym e) (event_stored event (omega (arith, t.short, ap length e)) (event_of event a b p.0 p.1.0 w v))

-- ---- messages

three_header : IsContainerHeader container.Array 3 (0x93 ∷ [])
unfolding shape_of
three_header = inl (refl, refl)

pub one_event_is : (item tag event elements : List ℕ) → IsItemWithin item → item ≡ 0x93 ∷ elements → BeginsStr elements tag event → BeginsEvent event → IsOneEvent item tag event
one_event_is item tag event elements t e s v = parts r.0 r.1 r.2 r.3
  where
    front : List ℕ
    front = s.front

    inner : List ℕ
    inner = front ++ event

    spelled : item ≡ 0x93 ∷ inner
    spelled = e ∙ ap (λ (z : List ℕ). 0x93 ∷ z) s.whole

    r : (items : List (List ℕ)) × (3 ≡ length items) × AllByRecursion IsPart items × (inner ≡ concat items)
    r = row_items (Item 63) 3 inner (container_parts container.Array 3 (0x93 ∷ []) inner (subst IsItemWithin spelled t) three_header)

    of : IsPart front → Event event → IsOneEvent item tag event
    of p x = record {
      message = record {
        item = t;
        frame = record { tag = front; carrier = Single x.time x.fields; option = None };
        framed = record {
          elements = front ∷ x.time ∷ x.fields ∷ [];
          array = record {
            header = 0x93 ∷ [];
            counted = three_header;
            all = refl;
            each = (p, (x.time_part, (x.fields_part, tt)));
            whole = spelled ∙ ap (λ (z : List ℕ). 0x93 ∷ (front ++ z)) (x.whole ∙ ap (λ (z : List ℕ). x.time ++ z) (sym (append-nil x.fields)));
          };
          laid_out = (refl, no_array_time x.time x.is_time, no_text_time x.time x.is_time);
        };
        tag = (inl s.is_str, (let n = s.short in omega arith));
        entries = (x.is_time, x.is_record, ap (λ (z : List ℕ). (0x92 ∷ z) ∷ []) x.whole);
        ack = refl;
      };
      stored = event_stored event (omega (arith, t.short, ap length spelled, length-append front event)) x;
    }

    parts : (items : List (List ℕ)) → 3 ≡ length items → AllByRecursion IsPart items → inner ≡ concat items → IsOneEvent item tag event
    parts [] n p w = absurd (omega arith)
    parts (a ∷ []) n p w = absurd (omega arith)
    parts (a ∷ b ∷ []) n p w = absurd (omega arith)
    parts (a ∷ b ∷ c ∷ d ∷ xs) n p w = absurd (omega arith)
    parts (a ∷ b ∷ c ∷ []) n p w =
        let i : IsItem front = record { item = scalar_is_item front (record { kind = kind.Str; content = tag; spelled = s.is_str }) } in
        let first = same_front front a event (b ++ (c ++ [])) i (part_item a p.0) w in
        let behind = same_behind front a event (b ++ (c ++ [])) i (part_item a p.0) w in
        of (subst IsPart (sym first) p.0) (event_of event b c p.1.0 p.1.1.0 behind v)
