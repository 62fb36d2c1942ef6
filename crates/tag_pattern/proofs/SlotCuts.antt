-- The first slot of a pattern's text, and what stands behind it.
use Rattle.std.proofs.Common.{◌≡◌, ◌≢◌, ℕ, ◌⊎◌, ◌==◌, true, false, List, [], ◌∷◌, ◌++◌, length, map, Bor, MatchOption, Option, Some, None, inl, inr, refl, sym, ap, subst, ◌∙◌, append_assoc, length-append, arith}
use Rattle.std.specs.List.{AllByRecursion, list_any, onto_first, join_with_byte}
use Rattle.std.proofs.lemmas.Bool.{cases_eq, eq-eqb, ne_eqb, eqb-true, eqb-false, false≢true, or_parts, or_from, or_left}
use Rattle.std.proofs.lemmas.List.{append-nil, nil_from_length}
use Rattle.std.proofs.lemmas.List.Splits.{slice_split-cons_yes, slice_split-cons_no, join_with_byte-slice_split}
use Rattle.tag_pattern.specs.Cuts.{is_among, is_nil, choices_in, BeginsWith, BeginsWithSlot, EndsSlot, HasSlotFirst, IsBody, IsCut, IsGroup, comma, open_brace, close_brace}
use Rattle.tag_pattern.specs.Grammar.{Slot, Part, Group, IsAlternative, IsPartText, IsSlot, IsPatternText, slot_text}
use Rattle.tag_pattern.specs.Parts.{dot, parts_of}
use Rattle.tag_pattern.proofs.Splits.{HasNo, pieces, pieces_lack, pieces_some, pieces_last, pieces-join, same_cut}

-- ---- what holds of each element

module _ {X : Type 0} where
  pub along : (P Q : X → Type 0) → ((x : X) → P x → Q x) → (xs : List X) → AllByRecursion P xs → AllByRecursion Q xs
  along P Q f [] h = tt
  along P Q f (x ∷ xs) (h, hs) = (f x h, along P Q f xs hs)

  both : (P Q : X → Type 0) → (xs : List X) → AllByRecursion P xs → AllByRecursion Q xs → AllByRecursion (λ x. P x × Q x) xs
  both P Q [] h k = tt
  both P Q (x ∷ xs) (h, hs) (k, ks) = ((h, k), both P Q xs hs ks)

  pub all_append : (P : X → Type 0) → (xs ys : List X) → AllByRecursion P xs → AllByRecursion P ys → AllByRecursion P (xs ++ ys)
  all_append P [] ys h k = k
  all_append P (x ∷ xs) ys (h, hs) k = (h, all_append P xs ys hs k)

all_join : (P : ℕ → Type 0) (c : ℕ) → P c → (xs : List (List ℕ)) → AllByRecursion (AllByRecursion P) xs → AllByRecursion P (join_with_byte c xs)
all_join P c mark [] h = tt
all_join P c mark (x ∷ []) (h, hs) = h
all_join P c mark (x ∷ y ∷ xs) (h, hs) = all_append P x (c ∷ join_with_byte c (y ∷ xs)) h (mark, all_join P c mark (y ∷ xs) hs)

all_onto : (P : ℕ → Type 0) (b : ℕ) → P b → (xs : List (List ℕ)) → AllByRecursion (AllByRecursion P) xs → AllByRecursion (AllByRecursion P) (onto_first b xs)
all_onto P b here [] h = ((here, tt), tt)
all_onto P b here (x ∷ xs) (h, hs) = ((here, h), hs)

all_pieces : (P : ℕ → Type 0) (c : ℕ) (text : List ℕ) → AllByRecursion P text → AllByRecursion (AllByRecursion P) (pieces c text)
all_pieces P c [] h = (tt, tt)
all_pieces P c (b ∷ text) (h, hs) = elim (cases_eq b c) [
  | inl e ↦ rw (slice_split-cons_yes (λ x. x == c) b text (eq-eqb b c e)) (tt, all_pieces P c text hs)
  | inr other ↦ rw (slice_split-cons_no (λ x. x == c) b text (ne_eqb b c other)) (all_onto P b h (pieces c text) (all_pieces P c text hs))
]

-- ---- marks

lacks_mark : (marks : List ℕ) (b : ℕ) → is_among marks b ≡ false → AllByRecursion (λ mark. mark ≢ b) marks
lacks_mark [] b h = tt
lacks_mark (mark ∷ marks) b h =
    let parts = or_parts (mark == b) (is_among marks b) h in (eqb-false mark b parts.0, lacks_mark marks b parts.1)

mark_lacks : (marks : List ℕ) (b : ℕ) → AllByRecursion (λ mark. mark ≢ b) marks → is_among marks b ≡ false
mark_lacks [] b h = refl
mark_lacks (mark ∷ marks) b (h, hs) = or_from (mark == b) (is_among marks b) (ne_eqb mark b h) (mark_lacks marks b hs)

abbrev ends : List ℕ
ends = dot ∷ comma ∷ open_brace ∷ close_brace ∷ []

abbrev braces : List ℕ
braces = open_brace ∷ close_brace ∷ []

abbrev IsPartByte : ℕ → Type 0
IsPartByte b = (b ≢ dot) × (b ≢ comma) × (b ≢ open_brace) × (b ≢ close_brace)

part_byte : (b : ℕ) → is_among ends b ≡ false → IsPartByte b
part_byte b h = let m = lacks_mark ends b h in (λ e. m.0 (sym e), λ e. m.1.0 (sym e), λ e. m.1.1.0 (sym e), λ e. m.1.1.1.0 (sym e))

no_end : (b : ℕ) → IsPartByte b → is_among ends b ≡ false
no_end b (d, c, o, k) = mark_lacks ends b (λ e. d (sym e), (λ e. c (sym e), (λ e. o (sym e), (λ e. k (sym e), tt))))

no_brace : (b : ℕ) → b ≢ open_brace → b ≢ close_brace → is_among braces b ≡ false
no_brace b o k = mark_lacks braces b (λ e. o (sym e), (λ e. k (sym e), tt))

ends_part : (rest : List ℕ) → EndsSlot rest → BeginsWith (is_among ends) rest
ends_part [] h = tt
ends_part (b ∷ rest) h = or_left (dot == b) _ (eq-eqb dot b (sym (eqb-true b dot h)))

-- ---- a part

part_only : (text body after : List ℕ) → IsCut (is_among ends) text body after → ((rest : List ℕ) → text ≡ open_brace ∷ rest → ⊥) → (other : Slot) (rest : List ℕ) → HasSlotFirst text other rest → (other ≡ Part body) × (rest ≡ after)
part_only text body after cut plain (Part t) rest first =
    let same = same_cut (is_among ends) t rest body after (along IsPartByte (λ b. is_among ends b ≡ false) no_end t first.is_slot) (ends_part rest first.ends) cut.front_lacks cut.back_begins (sym first.whole ∙ sym cut.whole) in
    (ap Part same.0, same.1)
part_only text body after cut plain (Group alternatives) rest first = absurd (plain _ first.whole)

-- a text that begins with no group begins with a part
pub part_body : (text body after : List ℕ) → IsCut (is_among ends) text body after → ((rest : List ℕ) → text ≡ open_brace ∷ rest → ⊥) → IsBody text body after
part_body text body after cut plain =
    let bytes = along (λ b. is_among ends b ≡ false) IsPartByte part_byte body cut.front_lacks in
    let commas = pieces_last comma body (along IsPartByte (λ b. b ≢ comma) (λ b h. h.1) body bytes) in
    let dots = pieces_last dot body (along IsPartByte (λ b. b ≢ dot) (λ b h. h.0) body bytes) in
    record {
      slot = Part body;
      slot_choices = sym (ap (map parts_of) commas ∙ ap (λ (x : List (List ℕ)). x ∷ []) dots);
      is_slot = bytes;
      whole = sym cut.whole;
      only = part_only text body after cut plain;
    }

-- ---- a group

texts : List (List (List ℕ)) → List (List ℕ)
texts alternatives = map (join_with_byte dot) alternatives

alternative_lacks : (a : List (List ℕ)) → AllByRecursion IsPartText a → HasNo comma (join_with_byte dot a)
alternative_lacks a h =
    all_join (λ b. b ≢ comma) dot (λ e. omega arith) a (along IsPartText (HasNo comma) (λ t k. along IsPartByte (λ b. b ≢ comma) (λ b i. i.1) t k) a h)

alternative_without_braces : (a : List (List ℕ)) → AllByRecursion IsPartText a → AllByRecursion (λ b. is_among braces b ≡ false) (join_with_byte dot a)
alternative_without_braces a h =
    all_join (λ b. is_among braces b ≡ false) dot refl a (along IsPartText (AllByRecursion (λ b. is_among braces b ≡ false)) (λ t k. along IsPartByte (λ b. is_among braces b ≡ false) (λ b i. no_brace b i.2 i.3) t k) a h)

alternative_not_nil : (a : List (List ℕ)) → a ≢ [] → a ≢ [] ∷ [] → is_nil (join_with_byte dot a) ≡ false
alternative_not_nil [] some full = absurd (some refl)
alternative_not_nil ([] ∷ []) some full = absurd (full refl)
alternative_not_nil ((b ∷ x) ∷ []) some full = refl
alternative_not_nil ([] ∷ y ∷ a) some full = refl
alternative_not_nil ((b ∷ x) ∷ y ∷ a) some full = refl

alternative_parts : (a : List (List ℕ)) → a ≢ [] → AllByRecursion IsPartText a → parts_of (join_with_byte dot a) ≡ a
alternative_parts a some h = pieces-join dot a some (along IsPartText (HasNo dot) (λ t k. along IsPartByte (λ b. b ≢ dot) (λ b i. i.0) t k) a h)

texts_lack : (alts : List (List (List ℕ))) → AllByRecursion IsAlternative alts → AllByRecursion (HasNo comma) (texts alts)
unfolding texts
texts_lack [] h = tt
texts_lack (a ∷ alts) (h, hs) = (alternative_lacks a h.2, texts_lack alts hs)

texts_without_braces : (alts : List (List (List ℕ))) → AllByRecursion IsAlternative alts → AllByRecursion (AllByRecursion (λ b. is_among braces b ≡ false)) (texts alts)
unfolding texts
texts_without_braces [] h = tt
texts_without_braces (a ∷ alts) (h, hs) = (alternative_without_braces a h.2, texts_without_braces alts hs)

texts_not_nil : (alts : List (List (List ℕ))) → AllByRecursion IsAlternative alts → list_any is_nil (texts alts) ≡ false
unfolding texts
texts_not_nil [] h = refl
texts_not_nil (a ∷ alts) (h, hs) = or_from (is_nil (join_with_byte dot a)) _ (alternative_not_nil a h.0 h.1) (texts_not_nil alts hs)

texts_parts : (alts : List (List (List ℕ))) → AllByRecursion IsAlternative alts → map parts_of (texts alts) ≡ alts
unfolding texts
texts_parts [] h = refl
texts_parts (a ∷ alts) (h, hs) =
    let head = alternative_parts a h.0 h.2 in
    let tail = texts_parts alts hs in
    cc

texts_some : (alts : List (List (List ℕ))) → alts ≢ [] → texts alts ≢ []
unfolding texts
texts_some [] some = λ e. absurd (some refl)
texts_some (a ∷ alts) some = λ e. cc

-- a slot that begins with a brace is a group
group_from_slot : (inside : List ℕ) (slot : Slot) (rest : List ℕ) → HasSlotFirst (open_brace ∷ inside) slot rest → (body : List ℕ) × (slot ≡ Group (choices_in body)) × IsGroup inside body rest
unfolding texts
group_from_slot inside (Part []) [] first = let whole = first.whole in cc
group_from_slot inside (Part []) (b ∷ rest) first =
    let whole = first.whole in
    let same : open_brace ≡ b = cc in
    let is : b ≡ dot = eqb-true b dot first.ends in
    absurd (omega arith)
group_from_slot inside (Part (b ∷ t)) rest first =
    let whole = first.whole in
    let same : open_brace ≡ b = cc in
    absurd (first.is_slot.0.2 (sym same))
group_from_slot inside (Group alts) rest first =
    let body = join_with_byte comma (texts alts) in
    let pieces_are : pieces comma body ≡ texts alts = pieces-join comma (texts alts) (texts_some alts first.is_slot.0) (texts_lack alts first.is_slot.1) in
    let whole : open_brace ∷ inside ≡ open_brace ∷ ((body ++ close_brace ∷ []) ++ rest) = first.whole in
    let tail : inside ≡ (body ++ close_brace ∷ []) ++ rest = cc in (
      body,
      ap Group (sym (texts_parts alts first.is_slot.1) ∙ ap (map parts_of) (sym pieces_are)),
      record {
        whole = tail ∙ append_assoc body (close_brace ∷ []) rest;
        without_braces = all_join (λ b. is_among braces b ≡ false) comma refl (texts alts) (texts_without_braces alts first.is_slot.1);
        none_empty = ap (list_any is_nil) pieces_are ∙ texts_not_nil alts first.is_slot.1;
      },
    )

pub no_group : (inside : List ℕ) → ((body after : List ℕ) → IsGroup inside body after → ⊥) → (slot : Slot) (rest : List ℕ) → HasSlotFirst (open_brace ∷ inside) slot rest → ⊥
no_group inside none slot rest first = let found = group_from_slot inside slot rest first in none found.0 rest found.2

pub group_unique : (inside b x c y : List ℕ) → IsGroup inside b x → IsGroup inside c y → (b ≡ c) × (x ≡ y)
group_unique inside b x c y g h =
    let same = same_cut (is_among braces) b (close_brace ∷ x) c (close_brace ∷ y) g.without_braces refl h.without_braces refl (sym g.whole ∙ h.whole) in
    let tails = same.1 in
    (same.0, cc)

-- ---- the alternatives between two braces

abbrev IsInside : ℕ → Type 0
IsInside b = (b ≢ comma) × (b ≢ open_brace) × (b ≢ close_brace)

is_part_text : (t : List ℕ) → AllByRecursion IsInside t × HasNo dot t → IsPartText t
is_part_text t (h, k) = along (λ b. IsInside b × (b ≢ dot)) IsPartByte (λ b i. (i.1, i.0.0, i.0.1, i.0.2)) t (both IsInside (λ b. b ≢ dot) t h k)

is_alternative : (t : List ℕ) → AllByRecursion IsInside t → is_nil t ≡ false → IsAlternative (parts_of t)
is_alternative t h full = (
  pieces_some dot t,
  λ e. let empty : t ≡ [] = sym (join_with_byte-slice_split dot t) ∙ ap (join_with_byte dot) e in absurd (false≢true (sym full ∙ ap is_nil empty)),
  along (λ part. AllByRecursion IsInside part × HasNo dot part) IsPartText is_part_text (parts_of t) (both (AllByRecursion IsInside) (HasNo dot) (parts_of t) (all_pieces IsInside dot t h) (pieces_lack dot t)),
)

are_alternatives : (ps : List (List ℕ)) → AllByRecursion (AllByRecursion IsInside) ps → list_any is_nil ps ≡ false → AllByRecursion IsAlternative (map parts_of ps)
are_alternatives [] h full = tt
are_alternatives (p ∷ ps) (h, hs) full =
    let parts = or_parts (is_nil p) (list_any is_nil ps) full in (is_alternative p h parts.0, are_alternatives ps hs parts.1)

texts_again : (ps : List (List ℕ)) → texts (map parts_of ps) ≡ ps
unfolding texts
texts_again [] = refl
texts_again (p ∷ ps) =
    let head = join_with_byte-slice_split dot p in
    let tail = texts_again ps in
    cc

map_some : (ps : List (List ℕ)) → ps ≢ [] → map parts_of ps ≢ []
map_some [] some e = some refl
map_some (p ∷ ps) some e = cc

inside_bytes : (b : ℕ) → is_among braces b ≡ false × b ≢ comma → IsInside b
inside_bytes b (h, c) = let m = lacks_mark braces b h in (c, λ e. m.0 (sym e), λ e. m.1.0 (sym e))

pieces_inside : (body : List ℕ) → AllByRecursion (λ b. is_among braces b ≡ false) body → AllByRecursion (AllByRecursion IsInside) (pieces comma body)
pieces_inside body h =
    along (λ p. AllByRecursion (λ b. is_among braces b ≡ false) p × HasNo comma p) (AllByRecursion IsInside)
    (λ p k. along (λ b. (is_among braces b ≡ false) × (b ≢ comma)) IsInside inside_bytes p (both (λ b. is_among braces b ≡ false) (λ b. b ≢ comma) p k.0 k.1))
    (pieces comma body)
    (both (AllByRecursion (λ b. is_among braces b ≡ false)) (HasNo comma) (pieces comma body) (all_pieces (λ b. is_among braces b ≡ false) comma body h) (pieces_lack comma body))

pub group_body : (inside body after : List ℕ) → IsGroup inside body after → IsBody (open_brace ∷ inside) body after
unfolding texts
group_body inside body after group =
    let joined : join_with_byte comma (texts (choices_in body)) ≡ body = ap (join_with_byte comma) (texts_again (pieces comma body)) ∙ join_with_byte-slice_split comma body in
    record {
      slot = Group (choices_in body);
      slot_choices = refl;
      is_slot = (map_some (pieces comma body) (pieces_some comma body), are_alternatives (pieces comma body) (pieces_inside body group.without_braces) group.none_empty);
      whole = ap (λ (x : List ℕ). open_brace ∷ x) (group.whole ∙ (sym (append_assoc body (close_brace ∷ []) after) ∙ ap (λ (x : List ℕ). (x ++ close_brace ∷ []) ++ after) (sym joined)));
      only = λ other rest first.
          let found = group_from_slot inside other rest first in
          let same = group_unique inside found.0 rest body after found.2 group in
          (found.1 ∙ ap (λ (x : List ℕ). Group (choices_in x)) same.0, same.1);
    }

-- ---- the slots behind the first

Behind : List Slot → List ℕ → Type 0
Behind slots after = ((slots ≡ []) × (after ≡ [])) ⊎ ((rest : List ℕ) × (after ≡ dot ∷ rest) × IsPatternText slots rest)

spelled_first : (slots : List Slot) (text : List ℕ) → IsPatternText slots text → (slot : Slot) × (behind : List Slot) × (after : List ℕ) × (slots ≡ slot ∷ behind) × HasSlotFirst text slot after × Behind behind after
unfolding Behind
spelled_first [] text h = absurd (h.0 refl)
spelled_first (slot ∷ []) text h = (slot, [], [], refl, record { is_slot = h.1.0; whole = h.2 ∙ sym (append-nil (slot_text slot)); ends = tt }, inl (refl, refl))
spelled_first (slot ∷ next ∷ slots) text h =
    let rest = join_with_byte dot (map slot_text (next ∷ slots)) in
    (slot, next ∷ slots, dot ∷ rest, refl, record { is_slot = h.1.0; whole = h.2; ends = refl }, inr (rest, refl, (λ e. cc, h.1.1, refl)))

spells_more : (slot : Slot) (behind : List Slot) (text rest : List ℕ) → IsSlot slot → text ≡ slot_text slot ++ dot ∷ rest → IsPatternText behind rest → IsPatternText (slot ∷ behind) text
spells_more slot [] text rest is whole h = absurd (h.0 refl)
spells_more slot (next ∷ slots) text rest is whole h = (λ e. cc, (is, h.1), whole ∙ ap (λ (x : List ℕ). slot_text slot ++ dot ∷ x) h.2)

spells_last : (slot : Slot) (behind : List Slot) (text : List ℕ) → IsSlot slot → text ≡ slot_text slot ++ [] → behind ≡ [] → IsPatternText (slot ∷ behind) text
spells_last slot [] text is whole none = (λ e. cc, (is, tt), whole ∙ append-nil (slot_text slot))
spells_last slot (next ∷ slots) text is whole none = cc

pub no_body : (text : List ℕ) → ((slot : Slot) (rest : List ℕ) → HasSlotFirst text slot rest → ⊥) → (slots : List Slot) → IsPatternText slots text → ⊥
no_body text none slots h = let found = spelled_first slots text h in none found.0 found.2 found.4

behind_none : (behind : List Slot) (after : List ℕ) → after ≡ [] → Behind behind after → behind ≡ []
unfolding Behind
behind_none behind after e (inl (none, _)) = none
behind_none behind after e (inr (rest, is, h)) = cc

behind_some : (behind : List Slot) (after : List ℕ) (b : ℕ) (rest : List ℕ) → after ≡ b ∷ rest → Behind behind after → (b ≡ dot) × IsPatternText behind rest
unfolding Behind
behind_some behind after b rest e (inl (_, none)) = cc
behind_some behind after b rest e (inr (others, is, h)) =
    let mark : b ≡ dot = cc in
    let same : others ≡ rest = cc in
    (mark, subst (IsPatternText behind) same h)

pub last_slot : (text body : List ℕ) → IsBody text body [] → BeginsWithSlot text body None
last_slot text body found = record {
  slot = found.slot;
  slot_choices = found.slot_choices;
  only = λ slots h.
      let first = spelled_first slots text h in
      let same = found.only first.0 first.2 first.4 in
      (first.1, first.3 ∙ ap (λ (x : Slot). x ∷ first.1) same.0, behind_none first.1 first.2 same.1 first.5);
  each = λ behind none. spells_last found.slot behind text found.is_slot found.whole none;
  shorter = tt;
}

pub more_slots : (text body : List ℕ) (b : ℕ) (rest : List ℕ) → b ≡ dot → IsBody text body (b ∷ rest) → BeginsWithSlot text body (Some rest)
more_slots text body b rest mark found = record {
  slot = found.slot;
  slot_choices = found.slot_choices;
  only = λ slots h.
      let first = spelled_first slots text h in
      let same = found.only first.0 first.2 first.4 in
      (first.1, first.3 ∙ ap (λ (x : Slot). x ∷ first.1) same.0, (behind_some first.1 first.2 b rest same.1 first.5).1);
  each = λ behind h. spells_more found.slot behind text rest found.is_slot (found.whole ∙ ap (λ (x : ℕ). slot_text found.slot ++ x ∷ rest) mark) h;
  shorter = omega (arith, ap length found.whole, length-append (slot_text found.slot) (b ∷ rest));
}

pub no_slots : (text body : List ℕ) (b : ℕ) (rest : List ℕ) → b ≢ dot → IsBody text body (b ∷ rest) → (slots : List Slot) → IsPatternText slots text → ⊥
no_slots text body b rest other found slots h =
    let first = spelled_first slots text h in
    let same = found.only first.0 first.2 first.4 in
    other (behind_some first.1 first.2 b rest same.1 first.5).0

-- ---- one list of slots at most

plain_part : (t rest inside : List ℕ) → IsPartText t → EndsSlot rest → t ++ rest ≡ open_brace ∷ inside → ⊥
plain_part [] [] inside is end e = cc
plain_part [] (b ∷ rest) inside is end e =
    let same : b ≡ open_brace = cc in
    let mark : b ≡ dot = eqb-true b dot end in
    omega arith
plain_part (b ∷ t) rest inside is end e = let same : b ≡ open_brace = cc in is.0.2 same

-- a text begins with one slot
first_unique : (text : List ℕ) (a b : Slot) (x y : List ℕ) → HasSlotFirst text a x → HasSlotFirst text b y → (b ≡ a) × (y ≡ x)
unfolding texts
first_unique text (Part t) b x y first second =
    let cut : IsCut (is_among ends) text t x = record {
      whole = sym first.whole;
      front_lacks = along IsPartByte (λ c. is_among ends c ≡ false) no_end t first.is_slot;
      back_begins = ends_part x first.ends;
    } in
    part_only text t x cut (λ inside e. plain_part t x inside first.is_slot first.ends (sym first.whole ∙ e)) b y second
first_unique text (Group alternatives) b x y first second =
    let inside = (join_with_byte comma (texts alternatives) ++ close_brace ∷ []) ++ x in
    let whole : text ≡ open_brace ∷ inside = first.whole in
    let f : HasSlotFirst (open_brace ∷ inside) (Group alternatives) x = record { is_slot = first.is_slot; whole = refl; ends = first.ends } in
    let s : HasSlotFirst (open_brace ∷ inside) b y = record { is_slot = second.is_slot; whole = sym whole ∙ second.whole; ends = second.ends } in
    let g = group_from_slot inside (Group alternatives) x f in
    let h = group_from_slot inside b y s in
    let same = group_unique inside h.0 y g.0 x h.2 g.2 in
    (h.1 ∙ (ap (λ (body : List ℕ). Group (choices_in body)) same.0 ∙ sym g.1), same.1)

-- the slots of a text
pub slots_unique : (slots others : List Slot) (text : List ℕ) → IsPatternText slots text → IsPatternText others text → slots ≡ others
slots_unique [] others text h k = absurd (h.0 refl)
slots_unique (slot ∷ []) others text h k =
    let found = spelled_first others text k in
    let mine : HasSlotFirst text slot [] = record { is_slot = h.1.0; whole = h.2 ∙ sym (append-nil (slot_text slot)); ends = tt } in
    let same = first_unique text slot found.0 [] found.2 mine found.4 in
    let none = behind_none found.1 found.2 same.1 found.5 in
    sym (found.3 ∙ (ap (λ (x : Slot). x ∷ found.1) same.0 ∙ ap (λ (x : List Slot). slot ∷ x) none))
slots_unique (slot ∷ next ∷ slots) others text h k =
    let rest = join_with_byte dot (map slot_text (next ∷ slots)) in
    let found = spelled_first others text k in
    let mine : HasSlotFirst text slot (dot ∷ rest) = record { is_slot = h.1.0; whole = h.2; ends = refl } in
    let same = first_unique text slot found.0 (dot ∷ rest) found.2 mine found.4 in
    let behind = behind_some found.1 found.2 dot rest same.1 found.5 in
    let tail = slots_unique (next ∷ slots) found.1 rest (λ e. cc, h.1.1, refl) behind.1 in
    sym (found.3 ∙ (ap (λ (x : Slot). x ∷ found.1) same.0 ∙ ap (λ (x : List Slot). slot ∷ x) (sym tail)))

-- ---- cuts

pub group_cut : (text front back body after : List ℕ) → IsCut (is_among braces) text front back → IsGroup text body after → (body ≡ front) × (close_brace ∷ after ≡ back)
group_cut text front back body after cut group =
    same_cut (is_among braces) body (close_brace ∷ after) front back group.without_braces refl cut.front_lacks cut.back_begins (sym group.whole ∙ sym cut.whole)

pub wrong_mark : (text front back : List ℕ) (b : ℕ) (rest : List ℕ) → IsCut (is_among braces) text front back → back ≡ b ∷ rest → b ≢ close_brace → (body after : List ℕ) → IsGroup text body after → ⊥
wrong_mark text front back b rest cut is other body after group =
    let same = (group_cut text front back body after cut group).1 in
    let mark : b ≡ close_brace = cc in
    other mark

pub no_mark : (text front back : List ℕ) → IsCut (is_among braces) text front back → length back ≡ 0 → (body after : List ℕ) → IsGroup text body after → ⊥
no_mark text front back cut none body after group =
    let same = (group_cut text front back body after cut group).1 in
    let some = ap length same in
    absurd (omega arith)

pub empty_piece : (text front back : List ℕ) → IsCut (is_among braces) text front back → list_any is_nil (pieces comma front) ≡ true → (body after : List ℕ) → IsGroup text body after → ⊥
empty_piece text front back cut empty body after group =
    let same = (group_cut text front back body after cut group).0 in
    false≢true (sym group.none_empty ∙ (ap (λ (x : List ℕ). list_any is_nil (pieces comma x)) same ∙ empty))

-- the text is empty
pub empty_body : (text : List ℕ) → length text ≡ 0 → IsBody text text text
empty_body text none =
    let P : List ℕ → Type 0 = λ x. IsBody x x x in
    subst P (sym (nil_from_length text none)) (part_body [] [] [] (record { whole = refl; front_lacks = tt; back_begins = tt }) (λ rest e. cc))

-- a text that begins with a brace
pub group_found : (found : Option (Bor (List ℕ) × Bor (List ℕ))) (text inside : List ℕ) (b : ℕ) → text ≡ b ∷ inside → b ≡ open_brace
    → MatchOption found ((body after : List ℕ) → IsGroup inside body after → ⊥) (λ x. IsGroup inside x.0.now x.1.now)
    → MatchOption found ((slot : Slot) (rest : List ℕ) → HasSlotFirst text slot rest → ⊥) (λ x. IsBody text x.0.now x.1.now)
group_found None text inside b is mark none = rw (is, mark) (no_group inside none)
group_found (Some x) text inside b is mark group = rw (is, mark) (group_body inside x.0.now x.1.now group)
