-- Lists of words by their places.
use Rattle.std.proofs.Common.{◌≡◌, ℕ, ◌<◌, ◌≤◌, List, [], ◌∷◌, length, map, get_or, codes, refl, sym, ap, ◌∙◌, arith}
use Rattle.std.proofs.Common.{◌⊎◌, inl, inr}
use Rattle.std.proofs.lemmas.List.{get_or-map, length-map}
use Rattle.relaynet.specs.declared.words.Word.{Word}
use Rattle.relaynet.specs.declared.words.Word.TheVariants.{Decode, Check, Replay, Relay, Version}
use Rattle.relaynet.specs.Words.{Says}

-- the rest of two words
pub rest_of_two : {X : Type 0} (f : X → List ℕ) (xs : List X) (a : X) (word : List ℕ) → 2 ≤ length xs → length xs < 3 → a ≡ get_or xs 1 a
    → f a ≡ word → (name : List ℕ) × (rest : List (List ℕ)) × (map f xs ≡ name ∷ rest) × (rest ≡ word ∷ [])
rest_of_two f [] a word low high e h = absurd (omega arith)
rest_of_two f (x ∷ []) a word low high e h = absurd (omega arith)
rest_of_two f (x ∷ b ∷ []) a word low high e h = (f x, f b ∷ [], refl, ap (λ w. w ∷ []) (ap f (sym e) ∙ h))
rest_of_two f (x ∷ b ∷ c ∷ xs) a word low high e h = absurd (omega arith)

-- of three
pub rest_of_three : {X : Type 0} (f : X → List ℕ) (xs : List X) (a b : X) (word first : List ℕ) → 3 ≤ length xs → length xs < 4
    → a ≡ get_or xs 1 a → b ≡ get_or xs 2 b → f a ≡ word → f b ≡ first
    → (name : List ℕ) × (rest : List (List ℕ)) × (map f xs ≡ name ∷ rest) × (rest ≡ word ∷ first ∷ [])
rest_of_three f [] a b word first low high e e2 h h2 = absurd (omega arith)
rest_of_three f (x ∷ []) a b word first low high e e2 h h2 = absurd (omega arith)
rest_of_three f (x ∷ y ∷ []) a b word first low high e e2 h h2 = absurd (omega arith)
rest_of_three f (x ∷ y ∷ z ∷ []) a b word first low high e e2 h h2 =
    let one : f y ≡ word = ap f (sym e) ∙ h in
    let two : f z ≡ first = ap f (sym e2) ∙ h2 in
    (f x, f y ∷ f z ∷ [], refl, rw (one, two) refl)
rest_of_three f (x ∷ y ∷ z ∷ v ∷ xs) a b word first low high e e2 h h2 = absurd (omega arith)

-- of four
pub rest_of_four : {X : Type 0} (f : X → List ℕ) (xs : List X) (a b c : X) (word first second : List ℕ) → 4 ≤ length xs → length xs < 5
    → a ≡ get_or xs 1 a → b ≡ get_or xs 2 b → c ≡ get_or xs 3 c → f a ≡ word → f b ≡ first → f c ≡ second
    → (name : List ℕ) × (rest : List (List ℕ)) × (map f xs ≡ name ∷ rest) × (rest ≡ word ∷ first ∷ second ∷ [])
rest_of_four f [] a b c word first second low high e e2 e3 h h2 h3 = absurd (omega arith)
rest_of_four f (x ∷ []) a b c word first second low high e e2 e3 h h2 h3 = absurd (omega arith)
rest_of_four f (x ∷ y ∷ []) a b c word first second low high e e2 e3 h h2 h3 = absurd (omega arith)
rest_of_four f (x ∷ y ∷ z ∷ []) a b c word first second low high e e2 e3 h h2 h3 = absurd (omega arith)
rest_of_four f (x ∷ y ∷ z ∷ v ∷ []) a b c word first second low high e e2 e3 h h2 h3 =
    let one : f y ≡ word = ap f (sym e) ∙ h in
    let two : f z ≡ first = ap f (sym e2) ∙ h2 in
    let three : f v ≡ second = ap f (sym e3) ∙ h3 in
    (f x, f y ∷ f z ∷ f v ∷ [], refl, rw (one, two, three) refl)
rest_of_four f (x ∷ y ∷ z ∷ v ∷ w ∷ xs) a b c word first second low high e e2 e3 h h2 h3 = absurd (omega arith)

-- of five
pub rest_of_five : {X : Type 0} (f : X → List ℕ) (xs : List X) (a b c d : X) (word first second third : List ℕ) → 5 ≤ length xs → length xs < 6
    → a ≡ get_or xs 1 a → b ≡ get_or xs 2 b → c ≡ get_or xs 3 c → d ≡ get_or xs 4 d → f a ≡ word → f b ≡ first → f c ≡ second → f d ≡ third
    → (name : List ℕ) × (rest : List (List ℕ)) × (map f xs ≡ name ∷ rest) × (rest ≡ word ∷ first ∷ second ∷ third ∷ [])
rest_of_five f [] a b c d word first second third low high e e2 e3 e4 h h2 h3 h4 = absurd (omega arith)
rest_of_five f (x ∷ []) a b c d word first second third low high e e2 e3 e4 h h2 h3 h4 = absurd (omega arith)
rest_of_five f (x ∷ y ∷ []) a b c d word first second third low high e e2 e3 e4 h h2 h3 h4 = absurd (omega arith)
rest_of_five f (x ∷ y ∷ z ∷ []) a b c d word first second third low high e e2 e3 e4 h h2 h3 h4 = absurd (omega arith)
rest_of_five f (x ∷ y ∷ z ∷ v ∷ []) a b c d word first second third low high e e2 e3 e4 h h2 h3 h4 = absurd (omega arith)
rest_of_five f (x ∷ y ∷ z ∷ v ∷ w ∷ []) a b c d word first second third low high e e2 e3 e4 h h2 h3 h4 =
    let one : f y ≡ word = ap f (sym e) ∙ h in
    let two : f z ≡ first = ap f (sym e2) ∙ h2 in
    let three : f v ≡ second = ap f (sym e3) ∙ h3 in
    let four : f w ≡ third = ap f (sym e4) ∙ h4 in
    (f x, f y ∷ f z ∷ f v ∷ f w ∷ [], refl, rw (one, two, three, four) refl)
rest_of_five f (x ∷ y ∷ z ∷ v ∷ w ∷ u ∷ xs) a b c d word first second third low high e e2 e3 e4 h h2 h3 h4 = absurd (omega arith)

-- how many words there are then, with the program's name
abbrev pub places : Word → ℕ
places Decode = 2
places (Check net) = 3
places (Replay net steps) = 4
places (Relay conf number dir) = 5
places Version = 2

-- and which is the first behind that
abbrev pub verb : Word → List ℕ
verb Decode = codes "decode"
verb (Check net) = codes "check"
verb (Replay net steps) = codes "replay"
verb (Relay conf number dir) = codes "relay"
verb Version = codes "--version"

-- what says a word has its places and its verb
said : (word : Word) (name : List ℕ) (rest : List (List ℕ)) → Says word rest → (length (name ∷ rest) ≡ places word) × (get_or (name ∷ rest) 1 [] ≡ verb word)
said Decode name rest h = rw h (refl, refl)
said (Check net) name rest h = rw h (refl, refl)
said (Replay net steps) name rest h = rw h (refl, refl)
said (Relay conf number dir) name rest h = rw h (refl, refl)
said Version name rest h = rw h (refl, refl)

places-two : (word : Word) → 2 ≤ places word
places-two Decode = omega arith
places-two (Check net) = omega arith
places-two (Replay net steps) = omega arith
places-two (Relay conf number dir) = omega arith
places-two Version = omega arith

-- words that say nothing
pub says_nothing : {X : Type 0} (f : X → List ℕ) (xs : List X)
    → ((word : Word) → length xs ≡ places word → ((d : X) → f (get_or xs 1 d) ≡ verb word) → ⊥)
    → (name : List ℕ) (rest : List (List ℕ)) (word : Word) → map f xs ≡ name ∷ rest → Says word rest → ⊥
says_nothing f xs none name rest word e says =
    let s = said word name rest says in
    let count : length xs ≡ places word = sym (length-map xs f) ∙ ap length e ∙ s.0 in
    let two = places-two word in
    let some : 1 < length xs = omega arith in
    none word count (λ d. sym (get_or-map f xs 1 d [] some) ∙ ap (λ l. get_or l 1 []) e ∙ s.1)

-- words of this count, of which the first is not the verb
pub other_verb : {X : Type 0} (f : X → List ℕ) (xs : List X) (n : ℕ) (a : X) → length xs ≡ n → a ≡ get_or xs 1 a
    → ((word : Word) → places word ≡ n → f a ≡ verb word → ⊥)
    → (name : List ℕ) (rest : List (List ℕ)) (word : Word) → map f xs ≡ name ∷ rest → Says word rest → ⊥
other_verb f xs n a count e none =
    says_nothing f xs (λ word same is_verb. none word (sym same ∙ count) (ap f e ∙ is_verb a))

-- words of a count that none has
pub no_verb : {X : Type 0} (f : X → List ℕ) (xs : List X) → (length xs < 2) ⊎ (6 ≤ length xs)
    → (name : List ℕ) (rest : List (List ℕ)) (word : Word) → map f xs ≡ name ∷ rest → Says word rest → ⊥
no_verb f xs far = says_nothing f xs (λ word same is_verb. elim word as (λ w. length xs ≡ places w → ⊥) [
  | Decode ↦ λ e. elim far [ inl low ↦ absurd (omega arith) | inr high ↦ absurd (omega arith) ]
  | Check net ↦ λ e. elim far [ inl low ↦ absurd (omega arith) | inr high ↦ absurd (omega arith) ]
  | Replay net steps ↦ λ e. elim far [ inl low ↦ absurd (omega arith) | inr high ↦ absurd (omega arith) ]
  | Relay conf number dir ↦ λ e. elim far [ inl low ↦ absurd (omega arith) | inr high ↦ absurd (omega arith) ]
  | Version ↦ λ e. elim far [ inl low ↦ absurd (omega arith) | inr high ↦ absurd (omega arith) ]
] same)

-- the verbs of each count
pub only_two : (word : Word) (w : List ℕ) → places word ≡ 2 → (w ≡ codes "decode" → ⊥) → (w ≡ codes "--version" → ⊥) → w ≡ verb word → ⊥
only_two Decode w e other neither same = other same
only_two (Check net) w e other neither same = absurd (omega arith)
only_two (Replay net steps) w e other neither same = absurd (omega arith)
only_two (Relay conf number dir) w e other neither same = absurd (omega arith)
only_two Version w e other neither same = neither same

pub only_three : (word : Word) (w : List ℕ) → places word ≡ 3 → (w ≡ codes "check" → ⊥) → w ≡ verb word → ⊥
only_three Decode w e other same = absurd (omega arith)
only_three (Check net) w e other same = other same
only_three (Replay net steps) w e other same = absurd (omega arith)
only_three (Relay conf number dir) w e other same = absurd (omega arith)
only_three Version w e other same = absurd (omega arith)

pub only_four : (word : Word) (w : List ℕ) → places word ≡ 4 → (w ≡ codes "replay" → ⊥) → w ≡ verb word → ⊥
only_four Decode w e other same = absurd (omega arith)
only_four (Check net) w e other same = absurd (omega arith)
only_four (Replay net steps) w e other same = other same
only_four (Relay conf number dir) w e other same = absurd (omega arith)
only_four Version w e other same = absurd (omega arith)

pub only_five : (word : Word) (w : List ℕ) → places word ≡ 5 → (w ≡ codes "relay" → ⊥) → w ≡ verb word → ⊥
only_five Decode w e other same = absurd (omega arith)
only_five (Check net) w e other same = absurd (omega arith)
only_five (Replay net steps) w e other same = absurd (omega arith)
only_five (Relay conf number dir) w e other same = other same
only_five Version w e other same = absurd (omega arith)
