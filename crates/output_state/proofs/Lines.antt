-- Words between which spaces stand are read as they are, and so are lines that end with LF.
use Rattle.std.proofs.Common.{◌≡◌, ℕ, suc, ◌<◌, ◌-◌, ◌==◌, false, List, [], ◌∷◌, ◌++◌, length, map, take, refl, sym, ap, ◌∙◌, arith}
use Rattle.std.specs.List.{All, join_with_byte, slice_split}
use Rattle.std.specs.Borrow.{Bor}
use Rattle.std.proofs.lemmas.Bool.Decides.{nat_tests}
use Rattle.std.proofs.lemmas.List.{append_assoc, length-map, take-map}
use Rattle.std.proofs.lemmas.List.Elements.{All-nil, All-cons, All-head, All-tail, All-append, All-weaker}
use Rattle.std.proofs.lemmas.List.Splits.{slice_split_at, slice_split_none, length-slice_split}
use Rattle.output_state.specs.Rows.{whole_lines, without_last, words_of}

-- the byte stands in a word; in a line
abbrev pub InWord : ℕ → Type 0
InWord b = 32 < b

abbrev pub InLine : ℕ → Type 0
InLine b = 31 < b

abbrev pub IsWord : List ℕ → Type 0
IsWord word = All InWord word

abbrev pub IsLine : List ℕ → Type 0
IsLine line = All InLine line

no_space : (word : List ℕ) → IsWord word → All (λ b. (b == 32) ≡ false) word
no_space word h = All-weaker InWord (λ b. (b == 32) ≡ false) (λ b l. grind (arith, nat_tests)) word h

no_feed : (line : List ℕ) → IsLine line → All (λ b. (b == 10) ≡ false) line
no_feed line h = All-weaker InLine (λ b. (b == 10) ≡ false) (λ b l. grind (arith, nat_tests)) line h

word_line : (word : List ℕ) → IsWord word → IsLine word
word_line word h = All-weaker InWord InLine (λ b l. omega arith) word h

-- words with a space between each two
pub words_joined : (word : List ℕ) (words : List (List ℕ)) → All IsWord (word ∷ words)
    → words_of (join_with_byte 32 (word ∷ words)) ≡ word ∷ words
words_joined word [] h = slice_split_none (λ b. b == 32) word (no_space word (All-head IsWord word [] h))
words_joined word (next ∷ more) h =
    let first = no_space word (All-head IsWord word (next ∷ more) h) in
    let rest = words_joined next more (All-tail IsWord word (next ∷ more) h) in
    slice_split_at (λ b. b == 32) word 32 (join_with_byte 32 (next ∷ more)) first refl
    ∙ ap (λ (words : List (List ℕ)). word ∷ words) rest

pub line_joined : (words : List (List ℕ)) → All IsWord words → IsLine (join_with_byte 32 words)
line_joined [] h = All-nil InLine
line_joined (word ∷ []) h = word_line word (All-head IsWord word [] h)
line_joined (word ∷ next ∷ more) h =
    let first = word_line word (All-head IsWord word (next ∷ more) h) in
    let rest = line_joined (next ∷ more) (All-tail IsWord word (next ∷ more) h) in
    let joined = join_with_byte 32 (next ∷ more) in
    All-append InLine word (32 ∷ joined) first (All-cons InLine 32 joined (omega arith) rest)

first_piece : (line : List ℕ) (pieces : List (List ℕ)) → 0 < length pieces
    → without_last (line ∷ pieces) ≡ line ∷ without_last pieces
first_piece line pieces some =
    let one_more : length (line ∷ pieces) - 1 ≡ suc (length pieces - 1) = omega (arith, some) in
    ap (λ n. take n (line ∷ pieces)) one_more

-- a line and its end, and behind them a text
pub first_line : (line rest : List ℕ) → IsLine line
    → whole_lines ((line ++ 10 ∷ []) ++ rest) ≡ line ∷ whole_lines rest
first_line line rest h =
    let pieces = slice_split (λ b. b == 10) rest in
    let some : 0 < length pieces = omega (arith, length-slice_split (λ b. b == 10) rest) in
    ap whole_lines (append_assoc line (10 ∷ []) rest)
    ∙ ap without_last (slice_split_at (λ b. b == 10) line 10 rest (no_feed line h) refl)
    ∙ first_piece line pieces some

module _ (xs ys : List (Bor (List ℕ))) (pieces : List (List ℕ)) where
  abbrev read : Bor (List ℕ) → List ℕ
  read x = x.now

  -- texts without the last one, as they lie in memory
  pub shorter : map read xs ≡ pieces → ys ≡ take (length xs - 1) xs → map read ys ≡ without_last pieces
  shorter are cut =
      ap (map read) cut
      ∙ sym (take-map read (length xs - 1) xs)
      ∙ ap (λ n. take (n - 1) (map read xs)) (sym (length-map xs read))
      ∙ ap without_last are
