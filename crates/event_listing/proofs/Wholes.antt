-- Items by their heads: each is wholly of its kind.
use Rattle.std.proofs.Common.{ℕ, ℤ, ◌≡◌, Bool, true, false, List, [], ◌∷◌, ◌++◌, slice_range, drop, Option, Some, refl, sym, subst, ◌∙◌, inl}
use Rattle.std.proofs.lemmas.List.{append-nil}
use Rattle.msgpack_bytes.specs.declared.answers.Head.{Head}
use Rattle.msgpack_bytes.specs.declared.answers.Head.TheVariants as head
use Rattle.msgpack_bytes.specs.declared.format.Kind.TheVariants as kind
use Rattle.msgpack_bytes.specs.Format.{shape_of}
use Rattle.msgpack_bytes.specs.Item.{IsScalar, IsItemWithin}
use Rattle.msgpack_bytes.specs.Kinds.{IsNil, IsBool, IsInteger, IsFloat, IsBin, IsExt}
use Rattle.msgpack_bytes.specs.Answers.{IsHead}
use Rattle.event_modes.proofs.Parting.{IsItem, same_front, scalar_is_item, text_item}
use Rattle.event_modes.proofs.Heads.{integer_scalar, spells_all, span_front}

nil_scalar : (front : List ℕ) → IsNil front → IsScalar front
unfolding shape_of
nil_scalar front e = record { kind = kind.Nil; content = []; spelled = record { header = 0xc0 ∷ []; sized = inl (refl, refl); whole = e } }

bool_scalar : (value : Bool) (front : List ℕ) → IsBool value front → IsScalar front
unfolding shape_of
bool_scalar true front e = record { kind = kind.Bool; content = []; spelled = record { header = 0xc3 ∷ []; sized = inl (refl, refl); whole = e } }
bool_scalar false front e = record { kind = kind.Bool; content = []; spelled = record { header = 0xc2 ∷ []; sized = inl (refl, refl); whole = e } }

-- a scalar with which an item begins is all of it
all_of : (item front back : List ℕ) → IsItemWithin item → IsScalar front → item ≡ front ++ back → front ≡ item
all_of item front back t s e =
    let own : IsItem front = record { item = scalar_is_item front s } in
    same_front front item back [] own (text_item item t) (sym e ∙ sym (append-nil item))

pub nil_whole : (item : List ℕ) → IsItemWithin item → IsHead item 0 (Some head.Nil) → IsNil item
nil_whole item t p = subst IsNil (all_of item p.front p.back t (nil_scalar p.front p.is) p.whole) p.is

pub bool_whole : (item : List ℕ) (value : Bool) → IsItemWithin item → IsHead item 0 (Some (head.Bool value)) → IsBool value item
bool_whole item value t p = subst (IsBool value) (all_of item p.front p.back t (bool_scalar value p.front p.is) p.whole) p.is

pub int_whole : (item : List ℕ) (value : ℤ) → IsItemWithin item → IsHead item 0 (Some (head.Int value)) → IsInteger item value
int_whole item value t p = subst (λ (z : List ℕ). IsInteger z value) (all_of item p.front p.back t (integer_scalar p.front value p.is) p.whole) p.is

pub float_whole : (item : List ℕ) → IsItemWithin item → IsHead item 0 (Some head.Float) → IsFloat item
float_whole item t p = (p.is.0, spells_all kind.Float item p.front p.back p.is.0 t p.is.1 p.whole)

pub bin_whole : (item : List ℕ) (start end : ℕ) → IsItemWithin item → IsHead item 0 (Some (head.Bin start end)) → IsBin item (slice_range item start end)
bin_whole item start end t p = spells_all kind.Bin item (slice_range item 0 end) (drop end item) (slice_range item start end) t p.3 (span_front item end)

pub ext_whole : (item : List ℕ) (byte start end : ℕ) → IsItemWithin item → IsHead item 0 (Some (head.Ext byte start end)) → IsExt byte item (slice_range item start end)
ext_whole item byte start end t p = spells_all kind.Ext item (slice_range item 0 end) (drop end item) (byte ∷ slice_range item start end) t p.3 (span_front item end)

-- the head that was found
pub found_head : (item : List ℕ) (found known : Head) → found ≡ known → IsHead item 0 (Some found) → IsHead item 0 (Some known)
found_head item found known e p = subst (λ (h : Head). IsHead item 0 (Some h)) e p
