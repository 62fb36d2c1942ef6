-- Collecting the events of a message.
use Rattle.std.proofs.Common.{ℕ, ◌≡◌, ◌+◌, ◌<◌, ◌≤◌, List, [], ◌∷◌, ◌++◌, length, refl, ap, sym, subst, ◌∙◌, arith, append_assoc, inl, inr}
use Rattle.std.specs.List.{AllByRecursion, AllZip, concat}
use Rattle.std.proofs.lemmas.List.{append-nil, length-append}
use Rattle.std.proofs.lemmas.List.Elements.{AllZip-push}
use Rattle.msgpack_bytes.specs.declared.format.Container.TheVariants as container
use Rattle.msgpack_bytes.specs.Format.{shape_of}
use Rattle.msgpack_bytes.specs.Parts.{HasRow}
use Rattle.msgpack_bytes.specs.Item.{IsContainerHeader, Item, longest, IsItemWithin}
use Rattle.event_modes.specs.declared.fault.ModeFault.{ModeFault}
use Rattle.event_modes.specs.declared.fault.ModeFault.TheVariants.{NotAMessage, BadTag, BadTime, BadRecord, BadEntry, TornPacked, Compressed, BadOption, Bytes}
use Rattle.msgpack_bytes.specs.Containers.{IsPart, IsArray}
use Rattle.event_modes.specs.Entry.{IsTime, IsRecord, stored_entry, IsEntry}
use Rattle.event_modes.specs.Rows.{IsStored}
use Rattle.event_modes.specs.Message.{Forward, Packed, Carries}
use Rattle.event_modes.specs.Faults.{FirstBad, EntryFault, IsGoodEntry, PackedEnd, PackedFault, CarriedFault}
use Rattle.event_modes.proofs.Parting.{part_item, container_is_item, text_item, some_item}
use Rattle.event_modes.proofs.Counted.{element_texts}
use Rattle.msgpack_bytes.proofs.Walk.{all_with}
use Rattle.event_modes.proofs.Stored.{concat-push}
use Rattle.event_modes.proofs.Firsts.{bad_behind}

-- ---- an event as it is stored

pub part_text : (bytes : List ℕ) → IsPart bytes → length bytes ≤ longest → IsItemWithin bytes
part_text bytes p l = record { item = (part_item bytes p).item; short = l }

pair_header : IsContainerHeader container.Array 2 (0x92 ∷ [])
unfolding shape_of
pair_header = inl (refl, refl)

stored_container : (time fields : List ℕ) → IsPart time → IsPart fields → HasRow (Item 63) (stored_entry time fields)
stored_container time fields t f = record {
  container = container.Array;
  n = 2;
  header = 0x92 ∷ [];
  inner = time ++ fields;
  counted = pair_header;
  parts = (time, fields, t, (fields, [], f, refl, sym (append-nil fields)), refl);
  whole = refl;
}

pub stored_is : (time fields : List ℕ) → IsPart time → IsPart fields → IsTime time → IsRecord fields → length time + length fields < longest → IsStored (stored_entry time fields)
stored_is time fields t f i r l = record {
  item = record { item = container_is_item (stored_entry time fields) (stored_container time fields t f); short = omega (arith, length-append time fields) };
  kept = record {
    time = time;
    fields = fields;
    array = record { header = 0x92 ∷ []; counted = pair_header; all = refl; each = (t, (f, tt)); whole = ap (λ (x : List ℕ). 0x92 ∷ time ++ x) (sym (append-nil fields)) };
    is_time = i;
    is_record = r;
    is_stored = refl;
  };
}

-- a header has a first byte
pub some_header : (c : _) (n : ℕ) (h : List ℕ) → IsContainerHeader c n h → 0 < length h
some_header c n [] p = absurd p
some_header c n (a ∷ h) p = omega arith

pub entry_stored : (entry stored : List ℕ) → IsItemWithin entry → IsEntry entry stored → IsStored stored
entry_stored entry stored t e =
    let h = some_header container.Array 2 e.array.header e.array.counted in
    let l = ap length e.array.whole in
    let n : length (concat (e.time ∷ e.fields ∷ [])) ≡ length e.time + length e.fields = omega (arith, length-append e.time (e.fields ++ []), length-append {A = ℕ} e.fields []) in
    let s = stored_is e.time e.fields e.array.each.0 e.array.each.1.0 e.is_time e.is_record (omega (arith, length-append e.array.header (concat (e.time ∷ e.fields ∷ [])), t.short)) in
    subst IsStored (sym e.is_stored) s

-- ---- entries of an array

pub good_entries : (items entries : List (List ℕ)) → AllZip IsEntry items entries → AllByRecursion IsGoodEntry items
good_entries [] [] p = tt
good_entries [] (e ∷ es) p = absurd p
good_entries (i ∷ is) [] p = absurd p
good_entries (i ∷ is) (e ∷ es) p = ((e, p.0), good_entries is es p.1)

-- the entries before are collected, and these are left
pub record Collected (array : List ℕ) (left entries : List (List ℕ)) : Type 0 where
  pub before : List (List ℕ)
  pub is_array : IsArray (before ++ left) array
  pub each : AllZip IsEntry before entries

pub forward_start : (array : List ℕ) (items entries : List (List ℕ)) → IsArray items array → entries ≡ [] → Collected array items entries
forward_start array items entries a e = record { before = []; is_array = a; each = subst (AllZip IsEntry []) (sym e) tt }

all_behind : (P : List ℕ → Type 0) (xs ys : List (List ℕ)) → AllByRecursion P (xs ++ ys) → AllByRecursion P ys
all_behind P [] ys p = p
all_behind P (x ∷ xs) ys p = all_behind P xs ys p.1

pub forward_text : (array entry : List ℕ) (left others entries : List (List ℕ)) → IsItemWithin array → Collected array left entries → left ≡ entry ∷ others → IsItemWithin entry
forward_text array entry left others entries t c e =
    let p : AllByRecursion IsItemWithin (entry ∷ others) = subst (AllByRecursion IsItemWithin) e (all_behind IsItemWithin c.before left (element_texts (c.before ++ left) array t c.is_array)) in
    p.0

pub forward_more : (array entry stored : List ℕ) (left others entries : List (List ℕ)) → Collected array left entries → left ≡ entry ∷ others → IsEntry entry stored → Collected array others (entries ++ stored ∷ [])
forward_more array entry stored left others entries c e i = record {
  before = c.before ++ entry ∷ [];
  is_array = subst (λ (xs : List (List ℕ)). IsArray xs array) (ap (λ (xs : List (List ℕ)). c.before ++ xs) e ∙ sym (append_assoc c.before (entry ∷ []) others)) c.is_array;
  each = AllZip-push IsEntry c.before entries entry stored c.each i;
}

pub forward_end : (array : List ℕ) (left entries : List (List ℕ)) → Collected array left entries → left ≡ [] → Carries (Forward array) entries
forward_end array left entries c e =
    (c.before, subst (λ (xs : List (List ℕ)). IsArray xs array) (ap (λ (xs : List (List ℕ)). c.before ++ xs) e ∙ append-nil c.before) c.is_array, c.each)

pub forward_fault : (array entry : List ℕ) (left others entries : List (List ℕ)) (fault : ModeFault) → Collected array left entries → left ≡ entry ∷ others → EntryFault entry fault → CarriedFault (Forward array) fault
forward_fault array entry left others entries fault c e f =
    let bad = bad_behind IsGoodEntry (λ (item : List ℕ). EntryFault item fault) c.before entry others (good_entries c.before entries c.each) f in (
      c.before ++ left,
      c.is_array,
      subst (λ (xs : List (List ℕ)). FirstBad IsGoodEntry (λ item. EntryFault item fault) (c.before ++ xs)) (sym e) bad,
    )

-- ---- packed entries

pub record Packing (content rest : List ℕ) (entries : List (List ℕ)) : Type 0 where
  pub before : List (List ℕ)
  pub texts : AllByRecursion IsItemWithin before
  pub each : AllZip IsEntry before entries
  pub whole : content ≡ concat before ++ rest

pub packed_start : (content : List ℕ) (entries : List (List ℕ)) → entries ≡ [] → Packing content content entries
packed_start content entries e = record { before = []; texts = tt; each = subst (AllZip IsEntry []) (sym e) tt; whole = refl }

pub packed_more : (content rest entry behind stored : List ℕ) (entries : List (List ℕ)) → Packing content rest entries → IsItemWithin entry → rest ≡ entry ++ behind → IsEntry entry stored → Packing content behind (entries ++ stored ∷ [])
packed_more content rest entry behind stored entries p t e i = record {
  before = p.before ++ entry ∷ [];
  texts = all_with IsItemWithin p.before entry p.texts t;
  each = AllZip-push IsEntry p.before entries entry stored p.each i;
  whole = p.whole ∙ ap (λ (x : List ℕ). concat p.before ++ x) e ∙ sym (append_assoc (concat p.before) entry behind) ∙ ap (λ (x : List ℕ). x ++ behind) (sym (concat-push p.before entry));
}

pub packed_end : (content rest : List ℕ) (entries : List (List ℕ)) → Packing content rest entries → rest ≡ [] → Carries (Packed content) entries
packed_end content rest entries p e = (p.before, p.texts, p.whole ∙ ap (λ (x : List ℕ). concat p.before ++ x) e ∙ append-nil (concat p.before), p.each)

-- where packed bytes begin with no whole item, that is the fault
end_fault : (rest : List ℕ) (fault : ModeFault) → (rest ≡ [] → ⊥) → PackedEnd rest fault → PackedFault rest fault
end_fault rest TornPacked n p = inl (refl, n, p)
end_fault rest (Bytes why) n p = inr (inl (why, refl, p))
end_fault rest NotAMessage n p = absurd p
end_fault rest BadTag n p = absurd p
end_fault rest BadTime n p = absurd p
end_fault rest BadRecord n p = absurd p
end_fault rest BadEntry n p = absurd p
end_fault rest Compressed n p = absurd p
end_fault rest BadOption n p = absurd p

pub packed_torn : (content rest : List ℕ) (entries : List (List ℕ)) (fault : ModeFault) → Packing content rest entries → (rest ≡ [] → ⊥) → PackedEnd rest fault → CarriedFault (Packed content) fault
packed_torn content rest entries fault p n f = (p.before, rest, p.texts, good_entries p.before entries p.each, p.whole, end_fault rest fault n f)

pub packed_bad : (content rest entry behind : List ℕ) (entries : List (List ℕ)) (fault : ModeFault) → Packing content rest entries → IsItemWithin entry → rest ≡ entry ++ behind → EntryFault entry fault → CarriedFault (Packed content) fault
packed_bad content rest entry behind entries fault p t e f = (p.before, rest, p.texts, good_entries p.before entries p.each, p.whole, inr (inr (entry, behind, t, f, e)))

-- taking an item shortens what is left
pub packed_shorter : (rest entry behind : List ℕ) → IsItemWithin entry → rest ≡ entry ++ behind → length behind < length rest
packed_shorter rest [] behind t e = absurd (some_item (text_item [] t))
packed_shorter rest (x ∷ entry) behind t e = let l = ap length e in omega (arith, length-append entry behind)
