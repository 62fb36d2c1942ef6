-- The lines that parts and stubs name, one more of them.
use Rattle.std.proofs.Common.{ℕ, ◌≡◌, ◌+◌, ◌<◌, true, false, List, [], ◌∷◌, ◌++◌, length, get_or, take, drop, map, refl, sym, ap, ◌∙◌}
use Rattle.std.specs.Prelude.{filter}
use Rattle.std.proofs.lemmas.Grind.{flat_map-append}
use Rattle.std.proofs.lemmas.List.{take_more, take-append-drop, map-append, append-nil}
use Rattle.std.proofs.lemmas.List.Elements.{filter-append}
use Rattle.book_audit.specs.declared.line.Leaf.{Leaf}
use Rattle.book_audit.specs.declared.line.Part.{Part}
use Rattle.book_audit.specs.Stubs.{Left}
use Rattle.book_audit.specs.Audits.{is_of, lines_of, lines_named}

pub parts-append : (leaf : Leaf) (xs ys : List Part) → lines_of leaf (xs ++ ys) ≡ lines_of leaf xs ++ lines_of leaf ys
parts-append leaf xs ys = ap (map (λ (part : Part). part.line)) (filter-append (is_of leaf) xs ys) ∙ map-append (λ (part : Part). part.line) (filter (is_of leaf) xs) (filter (is_of leaf) ys)

-- the lines of the first parts, and those of the rest
pub parts-split : (leaf : Leaf) (parts : List Part) (i : ℕ) → lines_of leaf parts ≡ lines_of leaf (take i parts) ++ lines_of leaf (drop i parts)
parts-split leaf parts i = ap (lines_of leaf) (sym (take-append-drop i parts)) ∙ parts-append leaf (take i parts) (drop i parts)

pub of-buffer : (leaf : Leaf) (part : Part) → is_of leaf part ≡ true → lines_of leaf (part ∷ []) ≡ part.line ∷ []
of-buffer leaf part e = rw e refl

pub of-other : (leaf : Leaf) (part : Part) → is_of leaf part ≡ false → lines_of leaf (part ∷ []) ≡ []
of-other leaf part e = rw e refl

-- one more part
pub parts-more : (leaf : Leaf) (parts : List Part) (i : ℕ) (d : Part) → i < length parts → lines_of leaf (take (i + 1) parts) ≡ lines_of leaf (take i parts) ++ lines_of leaf (get_or parts i d ∷ [])
parts-more leaf parts i d less = ap (lines_of leaf) (take_more parts i d less) ∙ parts-append leaf (take i parts) (get_or parts i d ∷ [])

-- the lines of the first stubs, and those of the rest
pub stubs-split : (leaf : Leaf) (stubs : List Left) (i : ℕ) → lines_named leaf stubs ≡ lines_named leaf (take i stubs) ++ lines_named leaf (drop i stubs)
stubs-split leaf stubs i = ap (lines_named leaf) (sym (take-append-drop i stubs)) ∙ flat_map-append (λ (stub : Left). lines_of leaf stub.parts) (take i stubs) (drop i stubs)

-- one more stub
pub stubs-more : (leaf : Leaf) (stubs : List Left) (i : ℕ) (d : Left) → i < length stubs → lines_named leaf (take (i + 1) stubs) ≡ lines_named leaf (take i stubs) ++ lines_of leaf (get_or stubs i d).parts
stubs-more leaf stubs i d less =
    ap (lines_named leaf) (take_more stubs i d less)
    ∙ flat_map-append (λ (stub : Left). lines_of leaf stub.parts) (take i stubs) (get_or stubs i d ∷ [])
    ∙ ap (λ ns. lines_named leaf (take i stubs) ++ ns) (append-nil (lines_of leaf (get_or stubs i d).parts))

-- the lines that a part and others name
pub parts-cons : (leaf : Leaf) (part : Part) (parts : List Part) → lines_of leaf (part ∷ parts) ≡ lines_of leaf (part ∷ []) ++ lines_of leaf parts
parts-cons leaf part parts = parts-append leaf (part ∷ []) parts
