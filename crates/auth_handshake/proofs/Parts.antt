-- Arrays of scalars, as the messages of a handshake are.
use Rattle.std.proofs.Common.{ℕ, ◌≡◌, ◌+◌, ◌≤◌, List, [], ◌∷◌, ◌++◌, length, refl, ap, sym, ◌∙◌, arith, inl, inr, Bool, true, false, subst, Option, Some, None, IfSome, MatchOption}
use Rattle.std.specs.List.{AllByRecursion, concat}
use Rattle.std.proofs.lemmas.List.{append-nil, length-append}
use Rattle.msgpack_bytes.specs.declared.format.Kind.TheVariants as kind
use Rattle.msgpack_bytes.specs.Format.{shape_of}
use Rattle.msgpack_bytes.specs.Item.{IsScalar, Item, longest, IsItemWithin}
use Rattle.msgpack_bytes.specs.Kinds.{IsText, IsBool, IsArrayHeader}
use Rattle.msgpack_bytes.specs.Containers.{IsArrayOf}
use Rattle.auth_handshake.specs.Messages.{Asked, Told}
use Rattle.auth_handshake.specs.Readings.{AreTexts}

pub text_scalar : (bytes content : List ℕ) → IsText bytes content → IsScalar bytes
text_scalar bytes content (inl p) = record { kind = kind.Str; content = content; spelled = p }
text_scalar bytes content (inr p) = record { kind = kind.Bin; content = content; spelled = p }

pub bool_scalar : (bytes : List ℕ) (value : Bool) → IsBool value bytes → IsScalar bytes
unfolding shape_of
bool_scalar bytes true p = subst IsScalar (sym p) (record { kind = kind.Bool; content = []; spelled = record { header = 0xc3 ∷ []; sized = inl (refl, refl); whole = refl } })
bool_scalar bytes false p = subst IsScalar (sym p) (record { kind = kind.Bool; content = []; spelled = record { header = 0xc2 ∷ []; sized = inl (refl, refl); whole = refl } })

scalar_item : (bytes : List ℕ) → IsScalar bytes → length bytes ≤ longest → IsItemWithin bytes
unfolding Item
scalar_item bytes p short = record { item = inl p; short = short }

-- scalars one after another, no longer together than an item may be, are items
scalar_items : (items : List (List ℕ)) (n : ℕ) → AllByRecursion IsScalar items → n + length (concat items) ≤ longest → AllByRecursion IsItemWithin items
scalar_items [] n p short = p
scalar_items (x ∷ items) n p short = (
  scalar_item x p.0 (omega (arith, length-append x (concat items))),
  scalar_items items (n + length x) p.1 (omega (arith, length-append x (concat items))),
)

-- an item that is an array's header and scalars is an array of these
pub scalars_array : (item header : List ℕ) (items : List (List ℕ)) → IsItemWithin item → IsArrayHeader (length items) header
    → item ≡ header ++ concat items → AllByRecursion IsScalar items → IsArrayOf IsItemWithin items item
scalars_array item header items p h e s =
    record { header = header; counted = h; each = scalar_items items (length header) s (let l = ap length e in let short = p.short in omega (arith, length-append header (concat items))); whole = e }

pub texts_are : {bytes x y z : List ℕ} (first second third back : List ℕ) → IsText first x → IsText second y → IsText third z → bytes ≡ first ++ (second ++ (third ++ back)) → AreTexts bytes x y z back
texts_are first second third back p q r e = record { first = first; second = second; third = third; is_first = p; is_second = q; is_third = r; whole = e }

pub same_asked : (a b : Asked) → a.host ≡ b.host → a.salt ≡ b.salt → a.digest ≡ b.digest → a ≡ b
same_asked a b h s d = ap (λ (x : List ℕ). asked x a.salt a.digest) h ∙ ap (λ (x : List ℕ). asked b.host x a.digest) s ∙ ap (λ (x : List ℕ). asked b.host b.salt x) d
  where
    asked : List ℕ → List ℕ → List ℕ → Asked
    asked h s d = record { host = h; salt = s; digest = d }

pub same_told : (a b : Told) → a.accepted ≡ b.accepted → a.reason ≡ b.reason → a.host ≡ b.host → a.digest ≡ b.digest → a ≡ b
same_told a b v r h d =
    ap (λ (x : Bool). told x a.reason a.host a.digest) v ∙ ap (λ (x : List ℕ). told b.accepted x a.host a.digest) r
    ∙ ap (λ (x : List ℕ). told b.accepted b.reason x a.digest) h ∙ ap (λ (x : List ℕ). told b.accepted b.reason b.host x) d
  where
    told : Bool → List ℕ → List ℕ → List ℕ → Told
    told v r h d = record { accepted = v; reason = r; host = h; digest = d }

-- an item that is the header of an array of two, a text and another item is an array of these
pub text_and_item : (item header name content options : List ℕ) → IsItemWithin item → IsArrayHeader 2 header → IsText name content → IsItemWithin options
    → item ≡ header ++ (name ++ options) → IsArrayOf IsItemWithin (name ∷ options ∷ []) item
text_and_item item header name content options p h t o e = record {
  header = header;
  counted = h;
  each = (
    scalar_item name (text_scalar name content t)
        (let l = ap length e in let short = p.short in omega (arith, length-append header (name ++ options), length-append name options)),
    (o, tt),
  );
  whole = e ∙ ap (λ (xs : List ℕ). header ++ (name ++ xs)) (sym (append-nil options));
}

pub if_some : {X : Type 0} (P Q : X → Type 0) (r : Option X) → ((x : X) → P x → Q x) → IfSome r P → IfSome r Q
if_some P Q None f h = tt
if_some P Q (Some x) f h = f x h

pub match_some : {X : Type 0} (N : Type 0) (P Q : X → Type 0) (r : Option X) → ((x : X) → P x → Q x) → MatchOption r N P → IfSome r Q
match_some N P Q None f h = tt
match_some N P Q (Some x) f h = f x h
