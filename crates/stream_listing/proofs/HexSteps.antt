-- Steps of a reader of hex text.
use Rattle.std.proofs.Common.{◌≡◌, ℕ, ◌+◌, ◌<◌, true, false, cond, List, [], ◌∷◌, ◌++◌, length, take, drop, get_or, Ok, not, refl, sym, ap, ◌∙◌, subst}
use Rattle.std.specs.Prelude.{IsErr}
use Rattle.std.specs.Char.{is_ascii_whitespace}
use Rattle.std.proofs.lemmas.List.{append_assoc, append-nil, take-append-drop}
use Rattle.std.proofs.lemmas.List.Elements.{filter_more, filter-append}
use Rattle.hex.specs.Hex.{decode_of}
use Rattle.stream_listing.specs.HexText.{digits_of, AreDigitsUpTo, Breaks}
use Rattle.stream_listing.proofs.HexPairs.{decode_of-append, decode_of-nil}

-- what is read on begins with what was left over
pub AreDigitsUpTo-append : (digits more bytes added held left : List ℕ) → AreDigitsUpTo digits bytes held
    → AreDigitsUpTo (held ++ more) added left → AreDigitsUpTo (digits ++ more) (bytes ++ added) left
AreDigitsUpTo-append digits more bytes added held left h k = record {
  front = h.front ++ k.front;
  spelled = decode_of-append h.front k.front bytes added h.spelled k.spelled;
  whole = ap (λ l. l ++ more) h.whole ∙ append_assoc h.front held more ∙ ap (λ l. h.front ++ l) k.whole
      ∙ sym (append_assoc h.front k.front left);
}

-- nothing is read yet
pub AreDigitsUpTo-none : (digits : List ℕ) → AreDigitsUpTo digits [] digits
AreDigitsUpTo-none digits = record { front = []; spelled = decode_of-nil; whole = refl }

-- what follows is left over too
pub AreDigitsUpTo-more : (digits bytes left more : List ℕ) → AreDigitsUpTo digits bytes left → AreDigitsUpTo (digits ++ more) bytes (left ++ more)
AreDigitsUpTo-more digits bytes left more h = record {
  front = h.front;
  spelled = h.spelled;
  whole = ap (λ l. l ++ more) h.whole ∙ append_assoc h.front left more;
}

-- what is read on breaks
pub Breaks-append : (digits more bytes added held : List ℕ) → AreDigitsUpTo digits bytes held
    → Breaks (held ++ more) added → Breaks (digits ++ more) (bytes ++ added)
Breaks-append digits more bytes added held h k = record {
  left = k.left;
  read = AreDigitsUpTo-append digits more bytes added held k.left h k.read;
  broken = k.broken;
}

-- whatever follows
pub Breaks-more : (digits bytes more : List ℕ) → Breaks digits bytes → Breaks (digits ++ more) bytes
Breaks-more digits bytes more h = record {
  left = h.left ++ more;
  read = AreDigitsUpTo-more digits bytes h.left more h.read;
  broken = λ rest. subst (λ l. IsErr (decode_of (take 2 l))) (sym (append_assoc h.left more rest)) (h.broken (more ++ rest));
}

-- a second digit
pub two_digits : (high low byte : ℕ) → decode_of (high ∷ low ∷ []) ≡ Ok (byte ∷ []) → AreDigitsUpTo (high ∷ low ∷ []) (byte ∷ []) []
two_digits high low byte h = record { front = high ∷ low ∷ []; spelled = h; whole = refl }

-- no second digit
pub two_broken : (high low : ℕ) → IsErr (decode_of (high ∷ low ∷ [])) → Breaks (high ∷ low ∷ []) []
two_broken high low h = record {
  left = high ∷ low ∷ [];
  read = AreDigitsUpTo-none (high ∷ low ∷ []);
  broken = λ more. h;
}

-- the digits up to and with one byte of the text that is no white space
digits_of-take_more : (text : List ℕ) (i : ℕ) → i < length text → is_ascii_whitespace (get_or text i 0) ≡ false
    → digits_of (take (i + 1) text) ≡ digits_of (take i text) ++ get_or text i 0 ∷ []
digits_of-take_more text i h e =
    filter_more (λ c. not (is_ascii_whitespace c)) text i 0 h
    ∙ ap (λ b. digits_of (take i text) ++ cond (not b) (get_or text i 0 ∷ []) []) e

-- white space adds no digit
digits_of-take_space : (text : List ℕ) (i : ℕ) → i < length text → is_ascii_whitespace (get_or text i 0) ≡ true
    → digits_of (take (i + 1) text) ≡ digits_of (take i text)
digits_of-take_space text i h e =
    filter_more (λ c. not (is_ascii_whitespace c)) text i 0 h
    ∙ ap (λ b. digits_of (take i text) ++ cond (not b) (get_or text i 0 ∷ []) []) e ∙ append-nil (digits_of (take i text))

-- the digits of a text in two parts
digits_of-parts : (text : List ℕ) (i : ℕ) → digits_of text ≡ digits_of (take i text) ++ digits_of (drop i text)
digits_of-parts text i =
    ap digits_of (sym (take-append-drop i text)) ∙ filter-append (λ c. not (is_ascii_whitespace c)) (take i text) (drop i text)

-- a step over one digit of a text
pub read_digit : (text start bytes added held left : List ℕ) (i digit : ℕ) → i < length text → digit ≡ get_or text i 0
    → is_ascii_whitespace digit ≡ false
    → AreDigitsUpTo (start ++ digits_of (take i text)) bytes held → AreDigitsUpTo (held ++ digit ∷ []) added left
    → AreDigitsUpTo (start ++ digits_of (take (i + 1) text)) (bytes ++ added) left
read_digit text start bytes added held left i digit h e none so_far step =
    let more = digits_of-take_more text i h (subst (λ d. is_ascii_whitespace d ≡ false) e none) in
    let same : (start ++ digits_of (take i text)) ++ digit ∷ [] ≡ start ++ digits_of (take (i + 1) text) =
    append_assoc start (digits_of (take i text)) (digit ∷ []) ∙ ap (λ d. start ++ (digits_of (take i text) ++ d ∷ [])) e ∙ ap (λ l. start ++ l) (sym more) in
    subst (λ l. AreDigitsUpTo l (bytes ++ added) left) same
    (AreDigitsUpTo-append (start ++ digits_of (take i text)) (digit ∷ []) bytes added held left so_far step)

-- a step over white space
pub read_space : (text start bytes held : List ℕ) (i digit : ℕ) → i < length text → digit ≡ get_or text i 0
    → is_ascii_whitespace digit ≡ true
    → AreDigitsUpTo (start ++ digits_of (take i text)) bytes held
    → AreDigitsUpTo (start ++ digits_of (take (i + 1) text)) bytes held
read_space text start bytes held i digit h e white so_far =
    subst (λ l. AreDigitsUpTo (start ++ l) bytes held)
    (sym (digits_of-take_space text i h (subst (λ d. is_ascii_whitespace d ≡ true) e white))) so_far

-- a digit that breaks the text
pub break_digit : (text start bytes held : List ℕ) (i digit : ℕ) → i < length text → digit ≡ get_or text i 0
    → is_ascii_whitespace digit ≡ false
    → AreDigitsUpTo (start ++ digits_of (take i text)) bytes held → Breaks (held ++ digit ∷ []) []
    → Breaks (start ++ digits_of text) bytes
break_digit text start bytes held i digit h e none so_far broken =
    let more = digits_of-take_more text i h (subst (λ d. is_ascii_whitespace d ≡ false) e none) in
    let after = digits_of (drop (i + 1) text) in
    let same : ((start ++ digits_of (take i text)) ++ digit ∷ []) ++ after ≡ start ++ digits_of text =
    ap (λ l. l ++ after) (append_assoc start (digits_of (take i text)) (digit ∷ []) ∙ ap (λ d. start ++ (digits_of (take i text) ++ d ∷ [])) e ∙ ap (λ l. start ++ l) (sym more))
    ∙ append_assoc start (digits_of (take (i + 1) text)) after ∙ ap (λ l. start ++ l) (sym (digits_of-parts text (i + 1))) in
    subst (λ l. Breaks l bytes) same
    (Breaks-more ((start ++ digits_of (take i text)) ++ digit ∷ []) bytes after
    (subst (Breaks ((start ++ digits_of (take i text)) ++ digit ∷ [])) (append-nil bytes)
    (Breaks-append (start ++ digits_of (take i text)) (digit ∷ []) bytes [] held so_far broken)))
