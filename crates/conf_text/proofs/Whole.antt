-- A whole text: what is read is in the grammar, what is in the grammar is read, and so for each
-- fault.
use Rattle.std.proofs.Common.{◌≡◌, ℕ, Bool, true, false, cond, List, [], ◌∷◌, Result, Ok, Err, refl, sym, ap, subst, ◌∙◌, inl, inr, ◌⊎◌}
use Rattle.std.specs.Prelude.{IfOk, IfErr}
use Rattle.std.specs.Str.{IsUtf8, is_utf8}
use Rattle.std.proofs.lemmas.Str.{is_utf8-from_IsUtf8, IsUtf8-from_is_utf8}
use Rattle.std.proofs.lemmas.Bool.{false≢true}
use Rattle.conf_text.specs.declared.fault.FaultKind.{FaultKind}
use Rattle.conf_text.specs.declared.fault.FaultKind.TheVariants as kinds
use Rattle.conf_text.specs.declared.fault.ConfFault.{ConfFault}
use Rattle.conf_text.specs.Trees.{Setting, Tree}
use Rattle.conf_text.specs.Grammar.{Line, lines_of, IsConfiguration, IsContents, most_open, top, with_first, BreaksAt, EndsOpen, HasFault, IsRefusal, bad_byte_line}
use Rattle.conf_text.specs.Answers.{Gives}
use Rattle.conf_text.specs.Laws.{HasOneReading, HasOneFault, IsFaultless, IsOneOrOther}
use Rattle.conf_text.specs.declared.fault.ConfError.{ConfError}
use Rattle.conf_text.specs.declared.fault.ConfError.TheVariants as errors
use Rattle.conf_text.specs.Reading.{◌>>=◌, Frame, frame, Stack, faulty, steps, start, first_and, end_in, end_of, elements_of, reading}
use Rattle.conf_text.proofs.Contents.{IsOpen, outside, open_read, steps_open, steps_fault, start_open, top_is, breaks_stop, open_ends, ends_taken, bind_err, err_is, no_ok, no_err}

same_first : (settings : List Setting) (elements : List Tree) → first_and top settings elements ≡ with_first settings elements
same_first [] elements = refl
same_first (x ∷ settings) elements = refl

-- ---- what is read

tree_is : (x y : List Tree) → ◌≡◌ {A = Result (List Tree) ConfFault} (Ok x) (Ok y) → x ≡ y
tree_is x y e = cc

bind_tree : (r : Result Stack ConfFault) (g : Stack → Result (List Tree) ConfFault) (t : List Tree) → (r >>= g) ≡ Ok t → (u : Stack) × (r ≡ Ok u) × (g u ≡ Ok t)
bind_tree (Ok u) g t e = (u, refl, e)
bind_tree (Err f) g t e = absurd (no_ok _ _ e)

end_ok : (all : List Line) (innermost : Frame) (outer : List Frame) (elements : List Tree) → IsOpen all innermost outer → end_in innermost outer ≡ Ok elements → (settings : List Setting) × (sections : List Tree) × IsContents most_open all settings sections × (elements ≡ with_first settings sections)
end_ok all innermost [] elements opened_is e =
    let t = top_is opened_is in
    (t.0, t.1, t.3, sym (tree_is _ _ e) ∙ ap (λ (f : Frame). first_and f.heading f.settings f.elements) t.2 ∙ same_first t.0 t.1)
end_ok all innermost (parent ∷ outer) elements opened_is e = absurd (no_ok _ _ e)

end_err : (all : List Line) (innermost : Frame) (outer : List Frame) (f : ConfFault) → IsOpen all innermost outer → end_in innermost outer ≡ Err f → (f.kind ≡ kinds.OpenSection) × EndsOpen all f.line
end_err all innermost [] f opened_is e = absurd (no_err _ _ e)
end_err all innermost (parent ∷ outer) f opened_is e =
    let is = err_is _ f e in
    (ap (λ (g : ConfFault). g.kind) (sym is), subst (λ (n : ℕ). EndsOpen all n) (ap (λ (g : ConfFault). g.line) is) (open_ends opened_is))

-- a line that breaks the grammar breaks it by one of four kinds
breaks_fault : (text : List ℕ) (kind : FaultKind) (line : ℕ) → IsUtf8 text → BreaksAt (lines_of text) kind line → HasFault text kind line
breaks_fault text kinds.OpenSection line utf8 b = absurd b.fault
breaks_fault text kinds.WrongEnd line utf8 b = (utf8, b)
breaks_fault text kinds.BadQuote line utf8 b = (utf8, b)
breaks_fault text kinds.BadName line utf8 b = (utf8, b)
breaks_fault text kinds.NotUtf8 line utf8 b = absurd b.fault
breaks_fault text kinds.TooDeep line utf8 b = (utf8, b)

lines_ok : (text : List ℕ) (elements : List Tree) → IsUtf8 text → elements_of (lines_of text) ≡ Ok elements → IsConfiguration text elements
unfolding elements_of end_of
lines_ok text elements utf8 e =
    let b = bind_tree (steps (lines_of text) start) (λ s. end_of s) elements e in
    let r = end_ok (lines_of text) b.0.innermost b.0.outer elements (steps_open (lines_of text) [] start b.0 start_open b.1) b.2 in
    record { utf8 = utf8; settings = r.0; sections = r.1; contents = r.2; whole = r.3 }

lines_err : (text : List ℕ) (f : ConfFault) → IsUtf8 text → elements_of (lines_of text) ≡ Err f → HasFault text f.kind f.line
unfolding elements_of end_of
lines_err text f utf8 e =
    elim (bind_err (steps (lines_of text) start) (λ s. end_of s) f e) [
      | inl now ↦ breaks_fault text f.kind f.line utf8 (steps_fault (lines_of text) [] start f start_open now)
      | inr later ↦
          let r = end_err (lines_of text) later.0.innermost later.0.outer f (steps_open (lines_of text) [] start later.0 start_open later.1) later.2 in
          subst (λ (k : FaultKind). HasFault text k f.line) (sym r.0) (utf8, r.1)
    ]

read_go : (text : List ℕ) (b : Bool) → is_utf8 text ≡ b → (reading text ≡ cond b (elements_of (lines_of text)) (faulty kinds.NotUtf8 (bad_byte_line text)))
unfolding reading
read_go text b e = rw e refl

utf8_cases : (text : List ℕ) (b : Bool) → is_utf8 text ≡ b → (IsUtf8 text × (reading text ≡ elements_of (lines_of text))) ⊎ ((IsUtf8 text → ⊥) × (reading text ≡ faulty kinds.NotUtf8 (bad_byte_line text)))
utf8_cases text true e = inl (IsUtf8-from_is_utf8 text e, read_go text true e)
utf8_cases text false e = inr (λ u. absurd (false≢true (sym e ∙ is_utf8-from_IsUtf8 text u)), read_go text false e)

pub sound_ok : (text : List ℕ) (elements : List Tree) → reading text ≡ Ok elements → IsConfiguration text elements
sound_ok text elements e =
    elim (utf8_cases text (is_utf8 text) refl) [
      | inl u ↦ lines_ok text elements u.0 (sym u.1 ∙ e)
      | inr u ↦ absurd (no_ok _ _ (sym u.1 ∙ e))
    ]

pub sound_err : (text : List ℕ) (f : ConfFault) → reading text ≡ Err f → HasFault text f.kind f.line
sound_err text f e =
    elim (utf8_cases text (is_utf8 text) refl) [
      | inl u ↦ lines_err text f u.0 (sym u.1 ∙ e)
      | inr u ↦ subst (λ (g : ConfFault). HasFault text g.kind g.line) (err_is _ f (sym u.1 ∙ e)) (u.0, refl)
    ]

-- ---- what is in the grammar

reading_lines : (text : List ℕ) → IsUtf8 text → reading text ≡ elements_of (lines_of text)
reading_lines text utf8 =
    elim (utf8_cases text (is_utf8 text) refl) [ inl u ↦ u.1 | inr u ↦ absurd (u.0 utf8) ]

reading_end : (text : List ℕ) (innermost : Frame) (outer : List Frame) → IsUtf8 text → IsOpen (lines_of text) innermost outer → reading text ≡ end_in innermost outer
unfolding elements_of end_of
reading_end text innermost outer utf8 opened_is = reading_lines text utf8 ∙ ap (λ (r : Result Stack ConfFault). r >>= λ s. end_of s) (open_read opened_is)

pub complete_ok : (text : List ℕ) (elements : List Tree) → IsConfiguration text elements → reading text ≡ Ok elements
complete_ok text elements c =
    reading_end text (frame top c.settings c.sections) [] c.utf8 (outside c.contents) ∙ ap (λ (es : List Tree). Ok es) (same_first c.settings c.sections ∙ sym c.whole)

breaks_read : (text : List ℕ) (kind : FaultKind) (line : ℕ) → IsUtf8 text → BreaksAt (lines_of text) kind line → reading text ≡ faulty kind line
unfolding elements_of
breaks_read text kind line utf8 b = reading_lines text utf8 ∙ ap (λ (r : Result Stack ConfFault). r >>= λ s. end_of s) (breaks_stop (lines_of text) kind line b)

ends_read : (text : List ℕ) (line : ℕ) → IsUtf8 text → EndsOpen (lines_of text) line → reading text ≡ faulty kinds.OpenSection line
unfolding elements_of end_of
ends_read text line utf8 h =
    let taken = ends_taken (lines_of text) line h in
    reading_lines text utf8 ∙ ap (λ (r : Result Stack ConfFault). r >>= λ s. end_of s) taken.1 ∙ taken.2

pub complete_err : (text : List ℕ) (kind : FaultKind) (line : ℕ) → HasFault text kind line → reading text ≡ faulty kind line
complete_err text kinds.OpenSection line h = ends_read text line h.0 h.1
complete_err text kinds.WrongEnd line h = breaks_read text kinds.WrongEnd line h.0 h.1
complete_err text kinds.BadQuote line h = breaks_read text kinds.BadQuote line h.0 h.1
complete_err text kinds.BadName line h = breaks_read text kinds.BadName line h.0 h.1
complete_err text kinds.NotUtf8 line h =
    elim (utf8_cases text (is_utf8 text) refl) [
      | inl u ↦ absurd (h.0 u.0)
      | inr u ↦ u.1 ∙ ap (λ (n : ℕ). faulty kinds.NotUtf8 n) (sym h.1)
    ]
complete_err text kinds.TooDeep line h = breaks_read text kinds.TooDeep line h.0 h.1

-- ---- what a call answered

pub found_is : {X : Type 0} (view : X → List Tree) (text : List ℕ) (result : Result X ConfError) → Gives view result (reading text) → IfOk result (λ v. IsConfiguration text (view v))
found_is view text (Ok x) gives = sound_ok text (view x) gives
found_is view text (Err e) gives = tt

pub refused_is : {X : Type 0} (view : X → List Tree) (text : List ℕ) (result : Result X ConfError) → Gives view result (reading text) → IfErr result (λ e. IsRefusal text e)
refused_is view text (Ok x) gives = tt
refused_is view text (Err errors.Memory) gives = tt
refused_is view text (Err (errors.Fault f)) gives = sound_err text f gives

-- ---- each text

pub one_reading : HasOneReading
one_reading text xs ys a b = tree_is xs ys (sym (complete_ok text xs a) ∙ complete_ok text ys b)

pub one_fault : HasOneFault
one_fault text f g a b = err_is f g (sym (complete_err text f.kind f.line a) ∙ complete_err text g.kind g.line b)

pub faultless : IsFaultless
faultless text xs f a b = no_ok _ _ (sym (complete_err text f.kind f.line b) ∙ complete_ok text xs a)

one_of : (text : List ℕ) (r : Result (List Tree) ConfFault) → reading text ≡ r → ((xs : List Tree) × IsConfiguration text xs) ⊎ ((f : ConfFault) × HasFault text f.kind f.line)
one_of text (Ok xs) e = inl (xs, sound_ok text xs e)
one_of text (Err f) e = inr (f, sound_err text f e)

pub one_or_other : IsOneOrOther
one_or_other text = one_of text (reading text) refl
