-- What is left of a file to a reader, a read further.
use Rattle.std.proofs.Common.{ℕ, ◌≡◌, ◌+◌, ◌-◌, ◌<◌, ◌≤◌, List, [], ◌∷◌, ◌++◌, length, take, drop, refl, sym, ap, ◌∙◌, subst, arith, append_assoc, Option, Some, None}
use Rattle.std.specs.Prelude.{IfSome}
use Rattle.std.specs.Io.KnownBytes.{Consumes, IsAtEnd, Keeps}
use Rattle.std.proofs.Math.ListN.{drop_of_length-le}
use Rattle.std.proofs.lemmas.List.{drop-drop, drop-take, length-take, take-take, take-append-drop, take-append-le}
use Rattle.chunk_journal.specs.Places.{bytes_at, bytes_from}
use Rattle.chunk_journal.specs.declared.places.Extent.{Extent}
use Rattle.folder_listing.specs.Placed.{known_at, known_from, left_at, Gives, SameLeft}

-- ---- from the front on

pub front_read : (known : Option (List ℕ)) (at next n : ℕ) (piece : List ℕ) → IfSome known (λ bytes. Gives bytes at n piece) → next ≡ at + n → Consumes (known_from known at) (known_from known next) (take n piece)
front_read None at next n piece gives is = tt
front_read (Some bytes) at next n piece gives is =
    sym (take-append-drop n (drop at bytes)) ∙ ap (λ z. z ++ drop n (drop at bytes)) (sym gives.given) ∙ ap (λ z. take n piece ++ z) (drop-drop n at bytes ∙ ap (λ k. drop k bytes) (sym is))

-- nothing was given, so nothing stands there
pub front_end : (known : Option (List ℕ)) (at next n : ℕ) (piece : List ℕ) → IfSome known (λ bytes. Gives bytes at n piece) → next ≡ at + n → n ≡ 0 → 0 < length piece → IsAtEnd (known_from known next)
front_end None at next n piece gives is none room = tt
front_end (Some bytes) at next n piece gives is none room = let end = gives.end none room in drop_of_length-le bytes (omega (arith, end, is, none))

-- ---- at places

-- nothing was read of the first
pub left_front : (bytes : List ℕ) (places : List Extent) → left_at bytes places 0 ≡ bytes_at bytes places
left_front bytes [] = refl
left_front bytes (place ∷ others) = refl

-- all was read of the first
pub passed : (bytes : List ℕ) (place : Extent) (others : List Extent) (done : ℕ) → place.length ≤ done → left_at bytes (place ∷ others) done ≡ left_at bytes others 0
passed bytes place others done all =
    let short = length-take place.length (drop place.at bytes) in
    let none : drop done (bytes_from bytes place) ≡ [] = drop_of_length-le (bytes_from bytes place) (omega (arith, all, short)) in
    ap (λ z. z ++ bytes_at bytes others) none ∙ sym (left_front bytes others)

-- a part of it, read
part_read : (l : List ℕ) (len done n : ℕ) → done + n ≤ len → drop done (take len l) ≡ take n (drop done l) ++ drop (done + n) (take len l)
part_read l len done n within =
    let rest = len - done in
    let whole : drop done (take len l) ≡ take rest (drop done l) = ap (λ k. drop done (take k l)) (omega (arith, within)) ∙ drop-take done rest l in
    let front : take n (drop done (take len l)) ≡ take n (drop done l) = ap (take n) whole ∙ take-take n rest (drop done l) (omega (arith, within)) in
    sym (take-append-drop n (drop done (take len l))) ∙ ap (λ z. z ++ drop n (drop done (take len l))) front ∙ ap (λ z. take n (drop done l) ++ z) (drop-drop n done (take len l))

pub place_read : (known : Option (List ℕ)) (place : Extent) (others : List Extent) (done next n : ℕ) (front back : List ℕ) → IfSome known (λ bytes. Gives bytes (place.at + done) n front) → n ≤ length front
    → done + n ≤ place.length → next ≡ done + n → Consumes (known_at known (place ∷ others) done) (known_at known (place ∷ others) next) (take n (front ++ back))
place_read None place others done next n front back gives fits within is = tt
place_read (Some bytes) place others done next n front back gives fits within is =
    let from = drop place.at bytes in
    let given : take n (drop done from) ≡ take n (front ++ back) = ap (take n) (drop-drop done place.at bytes) ∙ sym gives.given ∙ sym (take-append-le n front back fits) in
    ap (λ z. z ++ bytes_at bytes others) (part_read from place.length done n within) ∙ append_assoc (take n (drop done from)) (drop (done + n) (take place.length from)) (bytes_at bytes others)
    ∙ ap (λ z. z ++ (drop (done + n) (take place.length from) ++ bytes_at bytes others)) given
    ∙ ap (λ k. take n (front ++ back) ++ (drop k (take place.length from) ++ bytes_at bytes others)) (sym is)

-- what stands at the same places is kept
pub same_known : (known : Option (List ℕ)) (places others : List Extent) (done also : ℕ) → SameLeft places done others also → Keeps (known_at known places done) (known_at known others also)
same_known None places others done also same = tt
same_known (Some bytes) places others done also same = sym (same bytes)

-- and so is what is read of it
pub same_read : (known new : Option (List ℕ)) (places others : List Extent) (done also : ℕ) (piece : List ℕ) → SameLeft places done others also → Consumes (known_at known others also) new piece
    → Consumes (known_at known places done) new piece
same_read None new places others done also piece same read = tt
same_read (Some bytes) None places others done also piece same read = read
same_read (Some bytes) (Some left) places others done also piece same read = same bytes ∙ read

-- nothing stands at no places
pub none_left : (known : Option (List ℕ)) (places : List Extent) (done : ℕ) → places ≡ [] → IsAtEnd (known_at known places done)
none_left None places done none = tt
none_left (Some bytes) places done none = ap (λ ps. left_at bytes ps done) none

pub none_read : (known : Option (List ℕ)) (places others : List Extent) (done also n : ℕ) (piece : List ℕ) → SameLeft places done others also → n ≡ 0 → Consumes (known_at known places done) (known_at known others also) (take n piece)
none_read None places others done also n piece same none = tt
none_read (Some bytes) places others done also n piece same none = same bytes ∙ ap (λ k. take k piece ++ left_at bytes others also) (sym none)
