-- The rows that were written are read.
use Rattle.std.proofs.Common.{◌≡◌, ℕ, ◌<◌, ◌^◌, Bool, true, false, List, [], ◌∷◌, ◌++◌, map, codes, decimal, Some, refl, sym, ap, ◌∙◌, subst, arith}
use Rattle.std.specs.List.{All, flat_map, join_with_byte, list_all}
use Rattle.std.specs.Char.{is_ascii_digit}
use Rattle.std.proofs.lemmas.Bool.Decides.{nat_tests}
use Rattle.std.proofs.lemmas.List.Elements.{All-nil, All-cons, All-head, All-tail, All-map, All-weaker}
use Rattle.std.proofs.lemmas.List.Sums.{AllPass-from_list_all}
use Rattle.std.proofs.lemmas.Slice.Eq.{bytes_eq-Decides}
use Rattle.conf_values.specs.Words.{is_path, is_path_byte}
use Rattle.output_state.specs.State.{StateView}
use Rattle.output_state.specs.Rows.{is_buffer, numbers_in, row_text, row_words, rows_in, state_of, words_of}
use Rattle.output_state.specs.Laws.{HasRow, AreReadBack}
use Rattle.output_state.proofs.Digits.{digits_written, number_written}
use Rattle.output_state.proofs.Lines.{InWord, IsWord, words_joined, line_joined, first_line}

digit_shows : (b : ℕ) → is_ascii_digit b ≡ true → InWord b
digit_shows b h = grind (arith, nat_tests)

path_byte_shows : (b : ℕ) → is_path_byte b ≡ true → InWord b
unfolding is_path_byte
path_byte_shows b h = grind (arith, nat_tests)

number_word : (n : ℕ) → n < 2 ^ 64 → IsWord (decimal n)
number_word n small =
    let digits = AllPass-from_list_all is_ascii_digit (decimal n) (digits_written n small) in
    All-weaker (λ b. is_ascii_digit b ≡ true) InWord digit_shows (decimal n) digits

path_bytes : (word : List ℕ) → is_path word ≡ true → list_all is_path_byte word ≡ true
unfolding is_path
path_bytes word h = grind (arith, nat_tests)

buffer_word : (b : Bool) (word : List ℕ) → is_path word ≡ b → is_buffer word ≡ true → IsWord word
buffer_word true word e h =
    let bytes = AllPass-from_list_all is_path_byte word (path_bytes word e) in
    All-weaker (λ b. is_path_byte b ≡ true) InWord path_byte_shows word bytes
buffer_word false word e h =
    let star : word ≡ codes "*" = (bytes_eq-Decides word (codes "*")).0 (rw e at h) in
    subst IsWord (sym star) (All-cons InWord 42 [] (omega arith) (All-nil InWord))

module _ (state : StateView) (h : HasRow state) where
  words_written : All IsWord (row_words state)
  words_written =
      let numbers = map decimal (numbers_in state.counts) in
      let fit = All-weaker _ _ number_word (numbers_in state.counts) h.counts_fit in
      let are = All-map IsWord decimal (numbers_in state.counts) fit in
      let line = number_word state.line h.line_fits in
      let buffer = buffer_word _ state.buffer refl h.buffer_is in
      All-cons IsWord (decimal state.line) (state.buffer ∷ numbers) line (All-cons IsWord state.buffer numbers buffer are)

  row_read : state_of (join_with_byte 32 (row_words state)) ≡ Some state
  row_read =
      let words : words_of (join_with_byte 32 (row_words state)) ≡ row_words state = words_joined _ _ words_written in
      let line = number_written state.line h.line_fits in
      let limit = number_written state.counts.limit (h.counts_fit 0 0 (omega arith)) in
      let failing = number_written state.counts.failing (h.counts_fit 1 0 (omega arith)) in
      let failures = number_written state.counts.failures (h.counts_fit 2 0 (omega arith)) in
      let delivered = number_written state.counts.delivered (h.counts_fit 3 0 (omega arith)) in
      let last = number_written state.counts.last (h.counts_fit 4 0 (omega arith)) in
      rw (words, h.buffer_is, line, limit, failing, failures, delivered, last)

  row_first : (rest : List ℕ) → rows_in (row_text state ++ rest) ≡ state ∷ rows_in rest
  row_first rest =
      let line = line_joined (row_words state) words_written in
      rw (first_line (join_with_byte 32 (row_words state)) rest line, row_read)

rows_read : (states : List StateView) → All HasRow states
    → rows_in (flat_map row_text states) ≡ states
rows_read [] h = refl
rows_read (state ∷ states) h =
    let first = row_first state (All-head HasRow state states h) (flat_map row_text states) in
    let rest = rows_read states (All-tail HasRow state states h) in
    first ∙ ap (λ (all : List StateView). state ∷ all) rest

pub read_back : AreReadBack
read_back states h = rows_read states h
