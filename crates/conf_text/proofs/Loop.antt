-- Taking the lines of a text one after the other, as a loop does.
use Rattle.std.proofs.Common.{◌≡◌, Bool, true, false, ℕ, ◌+◌, ◌≤◌, ◌<◌, List, ◌∷◌, length, get_or, drop, Result, Ok, Err, refl, sym, ap, ◌∙◌, add-one}
use Rattle.std.specs.Str.{IsUtf8, is_utf8}
use Rattle.std.proofs.lemmas.Str.{IsUtf8-from_is_utf8}
use Rattle.std.proofs.lemmas.List.{drop_all}
use Rattle.std.proofs.Math.Seq.{drop-cons}
use Rattle.conf_text.specs.declared.fault.ConfFault.{ConfFault}
use Rattle.conf_text.specs.declared.fault.ConfError.{ConfError}
use Rattle.conf_text.specs.declared.fault.ConfError.TheVariants as errors
use Rattle.conf_text.specs.declared.fault.FaultKind.TheVariants as kinds
use Rattle.conf_text.specs.Form.{line_form}
use Rattle.conf_text.specs.Grammar.{Line, numbered, bad_byte_line}
use Rattle.conf_text.specs.Answers.{Fails}
use Rattle.conf_text.specs.Reading.{◌>>=◌, Stack, step, steps, end_of, reading, faulty}

-- the line at k, and those behind it
next_line : (n k : ℕ) (texts : List (List ℕ)) (text : List ℕ) → k < length texts → text ≡ get_or texts k text → numbered n (drop k texts) ≡ (n, line_form text) ∷ numbered (n + 1) (drop (k + 1) texts)
next_line n k texts text lt is = rw (drop-cons texts k text lt, ← is, add-one k) refl

one_step : (k : ℕ) (texts : List (List ℕ)) (text : List ℕ) (s : Stack) → (k < length texts) × (text ≡ get_or texts k text)
    → steps (numbered (k + 1) (drop k texts)) s ≡ (step (k + 1) (line_form text) s >>= λ t. steps (numbered (k + 1 + 1) (drop (k + 1) texts)) t)
one_step k texts text s here = ap (λ (ls : List Line). steps ls s) (next_line (k + 1) k texts text here.0 here.1)

pub goes_on : (k : ℕ) (texts : List (List ℕ)) (text : List ℕ) (s t : Stack) (total : Result Stack ConfFault) → (k < length texts) × (text ≡ get_or texts k text)
    → step (k + 1) (line_form text) s ≡ Ok t → steps (numbered (k + 1) (drop k texts)) s ≡ total → steps (numbered (k + 1 + 1) (drop (k + 1) texts)) t ≡ total
goes_on k texts text s t total here gave so_far =
    let after : steps (numbered (k + 1) (drop k texts)) s ≡ steps (numbered (k + 1 + 1) (drop (k + 1) texts)) t = one_step k texts text s here ∙ ap (λ (r : Result Stack ConfFault). r >>= λ u. steps (numbered (k + 1 + 1) (drop (k + 1) texts)) u) gave in
    sym after ∙ so_far

pub stops : (e : ConfError) (k : ℕ) (texts : List (List ℕ)) (text : List ℕ) (s : Stack) (total : Result Stack ConfFault) → (k < length texts) × (text ≡ get_or texts k text)
    → Fails e (step (k + 1) (line_form text) s) → steps (numbered (k + 1) (drop k texts)) s ≡ total → Fails e (total >>= λ t. end_of t)
stops errors.Memory k texts text s total here gave so_far = tt
stops (errors.Fault f) k texts text s total here gave so_far =
    let after : steps (numbered (k + 1) (drop k texts)) s ≡ Err f = one_step k texts text s here ∙ ap (λ (r : Result Stack ConfFault). r >>= λ u. steps (numbered (k + 1 + 1) (drop (k + 1) texts)) u) gave in
    ap (λ (r : Result Stack ConfFault). r >>= λ t. end_of t) (sym so_far ∙ after)

pub is_done : (k : ℕ) (texts : List (List ℕ)) (s : Stack) (total : Result Stack ConfFault) → length texts ≤ k → steps (numbered (k + 1) (drop k texts)) s ≡ total → (total >>= λ t. end_of t) ≡ end_of s
is_done k texts s total le so_far =
    let after : steps (numbered (k + 1) (drop k texts)) s ≡ Ok s = rw (drop_all k texts le) refl in
    ap (λ (r : Result Stack ConfFault). r >>= λ t. end_of t) (sym so_far ∙ after)

-- bytes that aren't UTF-8
not_true : (bs : List ℕ) (b : Bool) → is_utf8 bs ≡ b → ¬ IsUtf8 bs → b ≡ false
not_true bs true e h = absurd (h (IsUtf8-from_is_utf8 bs e))
not_true bs false e h = refl

pub bad_bytes : (bs : List ℕ) (line : ℕ) → ¬ IsUtf8 bs → line ≡ bad_byte_line bs → reading bs ≡ faulty kinds.NotUtf8 line
unfolding reading
bad_bytes bs line bad is = rw (not_true bs (is_utf8 bs) refl bad, is) refl
