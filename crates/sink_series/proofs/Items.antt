-- The items of events: bytes begin with one at most.
use Rattle.std.proofs.Common.{ℕ, ◌≡◌, ◌≢◌, Bor, ◌-◌, ◌≤◌, List, [], ◌∷◌, ◌++◌, length, take, drop, Option, Some, None, refl, ap, sym, subst, ◌∙◌, arith, append_assoc, inl}
use Rattle.std.specs.Prelude.{IfSome, MatchOption}
use Rattle.std.proofs.Math.Seq.{take-append_seam}
use Rattle.std.specs.List.{concat, AllByRecursion}
use Rattle.std.proofs.lemmas.List.{length-append, append-nil}
use Rattle.msgpack_bytes.specs.declared.format.Kind.TheVariants as kind
use Rattle.msgpack_bytes.specs.Item.{IsItemWithin}
use Rattle.msgpack_bytes.specs.Kinds.{IsStr, IsText, IsArrayHeader}
use Rattle.msgpack_bytes.specs.Spelling.{str_of}
use Rattle.msgpack_bytes.proofs.Shortest.{str_spelled, array_spelled}
use Rattle.event_modes.specs.Message.{longest_tag}
use Rattle.event_modes.specs.Rows.{IsStored, AreEntries}
use Rattle.event_modes.proofs.Parting.{IsItem, same_front, same_behind, scalar_is_item, text_item, parts_texts}
use Rattle.event_modes.proofs.Begins.{text_one}
use Rattle.sink_series.specs.Events.{Event, IsEvent, item_of, run_of, under}

-- a stored entry is 92, a time and a record
pub record Split (entry : List ℕ) : Type 0 where
  pub time : List ℕ
  pub fields : List ℕ
  pub is_time : IsItemWithin time
  pub is_fields : IsItemWithin fields
  pub whole : entry ≡ 0x92 ∷ time ++ fields

pub split_of : (entry : List ℕ) → IsStored entry → Split entry
split_of entry s =
    let k = s.kept in
    let items : List (List ℕ) = k.time ∷ k.fields ∷ [] in
    let short : length (concat items) ≤ 16777216 = omega (arith, ap length k.array.whole, length-append k.array.header (concat items), s.item.short) in
    let texts = parts_texts items k.array.each short in
    record { time = k.time; fields = k.fields; is_time = texts.0; is_fields = texts.1.0; whole = k.is_stored }

-- a tag's str says the tag, and is an item
pub tag_says : (tag : List ℕ) → length tag ≤ 1024 → IsStr (str_of tag) tag
tag_says tag short = (str_spelled tag (omega arith)).0

tag_item : (tag : List ℕ) → length tag ≤ 1024 → IsItem (str_of tag)
tag_item tag short = record { item = scalar_is_item (str_of tag) (record { kind = kind.Str; content = tag; spelled = tag_says tag short }) }

-- what stands behind a first byte
behind : (a b : ℕ) (x y : List ℕ) → a ∷ x ≡ b ∷ y → x ≡ y
behind a b x y e = cc

-- an item in its parts, whatever follows it
pub in_parts : (event : Event) (s : Split event.entry) (rest : List ℕ) → item_of event ++ rest ≡ 0x93 ∷ (str_of event.tag ++ (s.time ++ (s.fields ++ rest)))
unfolding item_of
in_parts event s rest =
    ap (λ (z : List ℕ). 0x93 ∷ z) (append_assoc (str_of event.tag) (drop 1 event.entry) rest
    ∙ ap (λ (z : List ℕ). str_of event.tag ++ z) (ap (λ (z : List ℕ). drop 1 z ++ rest) s.whole ∙ append_assoc s.time s.fields rest))

-- two items that begin one list are of one event
pub item_one : (e f : Event) (x y : List ℕ) → IsEvent e → IsEvent f → item_of e ++ x ≡ item_of f ++ y → (e ≡ f) × (x ≡ y)
item_one e f x y p q same =
    let s = split_of e.entry p.stored in
    let t = split_of f.entry q.stored in
    let parts = behind _ _ _ _ (sym (in_parts e s x) ∙ same ∙ in_parts f t y) in
    let tags = same_front (str_of e.tag) (str_of f.tag) _ _ (tag_item e.tag p.short) (tag_item f.tag q.short) parts in
    let times_on = same_behind (str_of e.tag) (str_of f.tag) _ _ (tag_item e.tag p.short) (tag_item f.tag q.short) parts in
    let times = same_front s.time t.time _ _ (text_item s.time s.is_time) (text_item t.time t.is_time) times_on in
    let fields_on = same_behind s.time t.time _ _ (text_item s.time s.is_time) (text_item t.time t.is_time) times_on in
    let fields = same_front s.fields t.fields _ _ (text_item s.fields s.is_fields) (text_item t.fields t.is_fields) fields_on in
    let rests = same_behind s.fields t.fields _ _ (text_item s.fields s.is_fields) (text_item t.fields t.is_fields) fields_on in
    let tag : e.tag ≡ f.tag = text_one (str_of e.tag) e.tag f.tag (inl (tag_says e.tag p.short)) (subst (λ (z : List ℕ). IsText z f.tag) (sym tags) (inl (tag_says f.tag q.short))) in
    let entry : e.entry ≡ f.entry = s.whole ∙ ap (λ (z : List ℕ). 0x92 ∷ z ++ s.fields) times ∙ ap (λ (z : List ℕ). 0x92 ∷ t.time ++ z) fields ∙ sym t.whole in
    (ap (λ (a : List ℕ). let v : Event = record { tag = a; entry = e.entry } in v) tag ∙ ap (λ (a : List ℕ). let v : Event = record { tag = f.tag; entry = a } in v) entry, rests)

-- what is behind one front
after_front : (front a b : List ℕ) → front ++ a ≡ front ++ b → a ≡ b
after_front [] a b same = same
after_front (x ∷ front) a b same = after_front front a b (behind x x (front ++ a) (front ++ b) same)

-- an item as it is put together
pub item_made : (out front back all : List ℕ) (event : Event) → front ≡ out ++ 0x93 ∷ str_of event.tag → back ≡ drop 1 event.entry → all ≡ front ++ back → all ≡ out ++ item_of event
unfolding item_of
item_made out front back all event begun rest is =
    is ∙ ap (λ (z : List ℕ). z ++ back) begun ∙ ap (λ (z : List ℕ). (out ++ 0x93 ∷ str_of event.tag) ++ z) rest
    ∙ append_assoc out (0x93 ∷ str_of event.tag) (drop 1 event.entry)

-- an item is its front and its entry's time and record
pub item_parts : (front back : List ℕ) (event : Event) → front ≡ 0x93 ∷ str_of event.tag → back ≡ drop 1 event.entry → front ++ back ≡ item_of event
unfolding item_of
item_parts front back event begun rest = ap (λ (z : List ℕ). z ++ back) begun ∙ ap (λ (z : List ℕ). (0x93 ∷ str_of event.tag) ++ z) rest

-- what is behind an item, where what is behind its front is known
pub item_stripped : (bytes content front back item : List ℕ) (o : Option (Bor (List ℕ))) → bytes ≡ front ++ content → front ++ back ≡ item
    → MatchOption o ((rest : List ℕ) → content ≢ back ++ rest) (λ x. content ≡ back ++ x.now)
    → MatchOption o ((rest : List ℕ) → bytes ≡ item ++ rest → ⊥) (λ x. bytes ≡ item ++ x.now)
item_stripped bytes content front back item None begun parts none = λ rest same.
    none rest (after_front front content (back ++ rest) (sym begun ∙ same ∙ ap (λ (z : List ℕ). z ++ rest) (sym parts) ∙ append_assoc front back rest))
item_stripped bytes content front back item (Some x) begun parts found =
    begun ∙ ap (λ (z : List ℕ). front ++ z) found ∙ sym (append_assoc front back x.now) ∙ ap (λ (z : List ℕ). z ++ x.now) parts

-- a stored entry isn't empty
pub not_empty : (entry : List ℕ) → IsStored entry → 1 ≤ length entry
not_empty entry s = omega (arith, ap length s.kept.is_stored)

-- the items of entries under a tag, where one entry more is taken
pub one_under : (out new tag x : List ℕ) (old left all : List (List ℕ)) → old ≡ x ∷ left → new ≡ out ++ item_of (record { tag = tag; entry = x })
    → out ++ run_of (under tag old) ≡ run_of (under tag all) → new ++ run_of (under tag left) ≡ run_of (under tag all)
one_under out new tag x old left all split made so_far =
    let e : Event = record { tag = tag; entry = x } in
    ap (λ (z : List ℕ). z ++ run_of (under tag left)) made ∙ append_assoc out (item_of e) (run_of (under tag left))
    ∙ ap (λ (es : List (List ℕ)). out ++ run_of (under tag es)) (sym split) ∙ so_far

-- Bytes that begin with the item of an event
module _ (bytes : List ℕ) (event : Event) (rest : List ℕ) (is : IsEvent event) (same : bytes ≡ item_of event ++ rest) where
  pub parts : Split event.entry
  parts = split_of event.entry is.stored

  pub begins : bytes ≡ 0x93 ∷ (str_of event.tag ++ (parts.time ++ (parts.fields ++ rest)))
  begins = same ∙ in_parts event parts rest

-- the header of an item
pub header : IsArrayHeader 3 (0x93 ∷ [])
header = (array_spelled 3 (omega arith)).0

-- entries under a short tag are events
pub all_under : (tag : List ℕ) (entries : List (List ℕ)) → length tag ≤ longest_tag → AllByRecursion IsStored entries → AllByRecursion IsEvent (under tag entries)
all_under tag [] short each = tt
all_under tag (e ∷ es) short each = (record { short = short; stored = each.0 }, all_under tag es short each.1)

-- the time and the record are what is before the rest
pub body_is : (entry : List ℕ) (s : Split entry) (rest content end body : List ℕ) → content ≡ s.time ++ (s.fields ++ rest) → end ≡ rest → body ≡ take (length content - length end) content
    → 0x92 ∷ body ≡ entry
body_is entry s rest content end body whole ends cut =
    let parts : content ≡ (s.time ++ s.fields) ++ rest = whole ∙ sym (append_assoc s.time s.fields rest) in
    let n : length content - length end ≡ length (s.time ++ s.fields) = omega (arith, ap length parts, ap length ends, length-append (s.time ++ s.fields) rest) in
    let b : body ≡ s.time ++ s.fields =
    cut ∙ ap (λ (k : ℕ). take k content) n ∙ ap (take (length (s.time ++ s.fields))) parts ∙ take-append_seam (s.time ++ s.fields) rest in
    ap (λ (z : List ℕ). 0x92 ∷ z) b ∙ sym s.whole

-- One stored entry

pub one_entry : (entry : List ℕ) → IsStored entry → AreEntries (entry ∷ []) 1 entry
one_entry entry s = record { each = (s, tt); all = refl; whole = append-nil entry }

pub only_entry : (entries : List (List ℕ)) (entry : List ℕ) → AreEntries entries 1 entry → IsStored entry
only_entry [] entry a = absurd (omega (arith, a.all))
only_entry (x ∷ []) entry a = subst IsStored (sym (append-nil x) ∙ a.whole) a.each.0
only_entry (x ∷ y ∷ es) entry a = absurd (omega (arith, a.all))

pub some_stored : (o : Option (List (List ℕ))) (entry : List ℕ) (x : List (List ℕ)) → o ≡ Some x → IfSome o (λ es. AreEntries es 1 entry) → IsStored entry
some_stored None entry x some found = absurd (cc some)
some_stored (Some es) entry x some found = only_entry es entry found

pub none_stored : (o : Option (List (List ℕ))) (entry : List ℕ) → o ≡ None → ((es : List (List ℕ)) → AreEntries es 1 entry → o ≡ Some es) → IsStored entry → ⊥
none_stored o entry none only s = let e = only (entry ∷ []) (one_entry entry s) in cc
