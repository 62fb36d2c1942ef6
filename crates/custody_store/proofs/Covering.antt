-- A list of tags that comes to have all of which something holds.
use Rattle.std.proofs.Common.{◌≡◌, ℕ, Bool, List, [], ◌∷◌, ◌++◌, Option, Some, None, sym, ap, subst, ◌∙◌, ◌⊎◌, inl, inr, arith, map, Contains, IsSomeAnd}
use Rattle.std.proofs.lemmas.List.{map-append}
use Rattle.std.proofs.lemmas.List.Elements.{Contains-append_cases, Contains-append_left, Contains-append_right}
use Rattle.std.specs.declared.vec.Vec.{Vec}
use Rattle.step_lines.specs.Texts.{texts_of}
use Rattle.custody_store.specs.Buffers.{Event, IsInChunk}
use Rattle.custody_store.specs.Contents.{chunk_at, event_of, stored_events, buffer_of}
use Rattle.custody_store.specs.Marks.{slot_from, contents_from}
use Rattle.custody_store.specs.Tags.{Covers, OfOne, IsTagOfSlot, HoldsUnder}
use Rattle.custody_store.specs.declared.chunk.Chunk.{Chunk as KeptChunk}
use Rattle.custody_store.specs.declared.event.Event.{Event as Stored}
use Rattle.custody_store.proofs.Members.{shown_contains}
use Rattle.custody_store.proofs.Slots.{slot_shown}

pub only_in : {X : Type 0} (x y : X) → Contains (x ∷ []) y → x ≡ y
only_in x y c = let e : c.0 ≡ 0 = (let less = c.1 in omega arith) in rw e at c.2

pub covers_none : {X : Type 0} (P : X → List ℕ → Type 0) (old : List (List ℕ)) → Covers (OfOne P []) old old
covers_none P old = record { still = λ tag c. c; all = λ tag h. absurd (let less = h.1.1 in omega arith) }

-- what is of one more was added
pub covers_more : {X : Type 0} (P : X → List ℕ → Type 0) (xs : List X) (x : X) (old mid new : List (List ℕ)) → Covers (OfOne P xs) old mid → Covers (P x) mid new → Covers (OfOne P (xs ++ x ∷ [])) old new
covers_more P xs x old mid new one two = record {
  still = λ tag c. two.still tag (one.still tag c);
  all = λ tag h. elim (Contains-append_cases xs (x ∷ []) h.0 h.1) [
    | inl before ↦ two.still tag (one.all tag (h.0, before, h.2))
    | inr last ↦ two.all tag (subst (λ y. P y tag) (sym (only_in x h.0 last)) h.2)
  ];
}

-- of what this holds, that holds
pub covers_as : (P Q : List ℕ → Type 0) (old new : List (List ℕ)) → ((tag : List ℕ) → Q tag → P tag) → Covers P old new → Covers Q old new
covers_as P Q old new from one = record { still = one.still; all = λ tag q. one.all tag (from tag q) }

-- first these are added, then those
pub covers_both : (P Q R : List ℕ → Type 0) (old mid new : List (List ℕ)) → Covers P old mid → Covers Q mid new → ((tag : List ℕ) → R tag → P tag ⊎ Q tag) → Covers R old new
covers_both P Q R old mid new one two cases = record {
  still = λ tag c. two.still tag (one.still tag c);
  all = λ tag r. elim (cases tag r) [ inl p ↦ two.still tag (one.all tag p) | inr q ↦ two.all tag q ];
}

in_slot : {A : Type 0} (now : ℕ) (tag entry : List ℕ) (slot : Option (KeptChunk A)) → IsSomeAnd (slot_from now slot) (λ chunk. IsInChunk chunk (record { tag = tag; entry = entry })) → IsTagOfSlot slot tag
in_slot now tag entry None h = h
in_slot now tag entry (Some chunk) h = h.tag

-- the tag of a live chunk is that of a slot
slot_tag : {A : Type 0} (now : ℕ) (chunks : List (Option (KeptChunk A))) (serial : ℕ) (tag entry : List ℕ) → IsSomeAnd (chunk_at (map (slot_from now) chunks) serial) (λ chunk. IsInChunk chunk (record { tag = tag; entry = entry })) → OfOne IsTagOfSlot chunks tag
slot_tag now chunks serial tag entry h =
    let s = slot_shown now chunks serial (λ chunk. IsInChunk chunk (record { tag = tag; entry = entry })) h in
    (s.0, (serial, s.1, s.2), in_slot now tag entry s.0 s.3)

-- the tag of what is in the sink is that of an event
event_tag : {A : Type 0} (events : List (Stored A)) (tag entry : List ℕ) → Contains (stored_events events) (record { tag = tag; entry = entry }) → OfOne (λ (event : Stored A) (t : List ℕ). event.tag.items ≡ t) events tag
event_tag events tag entry c =
    let s = shown_contains event_of events (record { tag = tag; entry = entry }) c in
    (s.1, (s.0, s.2, s.3), ap (λ (y : Event). y.tag) s.4)

-- what a buffer or its sink holds is under the tag of a slot or of an event
pub held_tags : {A : Type 0} (now : ℕ) (chunks : List (Option (KeptChunk A))) (sink : List (Stored A)) (answered : List Bool) (tag : List ℕ) → HoldsUnder (buffer_of (contents_from now chunks sink answered)) tag
    → OfOne IsTagOfSlot chunks tag ⊎ OfOne (λ (event : Stored A) (t : List ℕ). event.tag.items ≡ t) sink tag
held_tags now chunks sink answered tag h = elim h.1 [
  | inl live ↦ inl (slot_tag now chunks live.0 tag h.0 live.1)
  | inr stored ↦ inr (event_tag sink tag h.0 stored)
]

-- one more tag that wasn't there
pub covers_one : {A : Type 0} (old after : List (Vec ℕ A)) (copy : Vec ℕ A) (tag : List ℕ) → after ≡ old ++ copy ∷ [] → copy.items ≡ tag → Covers (λ t. t ≡ tag) (texts_of old) (texts_of after)
covers_one old after copy tag grown is =
    let e : texts_of after ≡ texts_of old ++ copy.items ∷ [] = ap texts_of grown ∙ map-append (λ (x : Vec ℕ _). x.items) old (copy ∷ []) in
    record {
      still = λ t c. rw e (Contains-append_left (texts_of old) (copy.items ∷ []) t c);
      all = λ t same. rw e (Contains-append_right (texts_of old) (copy.items ∷ []) t (0, omega arith, is ∙ sym same));
    }
