-- That a text says one plan, or has one first fault, and never both.
use Rattle.std.proofs.Common.{◌≡◌, ◌≢◌, ◌∙◌, ℕ, ◌+◌, ◌<◌, List, [], ◌∷◌, ◌++◌, length, take, get_or, ◌⊎◌, inl, inr, refl, sym, ap, subst, arith}
use Rattle.std.proofs.Math.Seq.{take-append_seam, get_or-append_seam}
use Rattle.std.proofs.lemmas.Bool.{cases_lt}
use Rattle.std.proofs.lemmas.List.{append-nil, append_assoc, length-append}
use Rattle.loss_rules.specs.Breaks.{Subject}
use Rattle.text_lines.specs.Lines.{text_lines}
use Rattle.plan_lines.specs.Faults.{IsRefusedLine, IsRefusal, Refuses}
use Rattle.plan_lines.specs.Forms.{line_form}
use Rattle.plan_lines.specs.Laws.{SaysOnePlan, HasOneFault, IsPlanOrFault}
use Rattle.plan_lines.specs.Meanings.{plan_view}
use Rattle.plan_lines.specs.Plans.{Adds, Say, none, one_more, empty_plan}
use Rattle.plan_lines.specs.declared.error.PlanError.{PlanError}
use Rattle.plan_lines.specs.declared.error.PlanError.TheVariants as error
use Rattle.plan_lines.proofs.AddsOrRefused.{adds_or_refused}
use Rattle.plan_lines.proofs.OneAddition.{one_addition}
use Rattle.plan_lines.proofs.OneRefusal.{one_refusal}
use Rattle.plan_lines.proofs.SamePlans.{still_refused}

-- a list is cut at a place in one way

module _ {X : Type 0} where
  cut_once : (xs ys more others : List X) (x y : X) → length xs ≡ length ys → xs ++ x ∷ more ≡ ys ++ y ∷ others → (xs ≡ ys) × (x ≡ y)
  cut_once xs ys more others x y long same = (
    sym (take-append_seam xs (x ∷ more)) ∙ ((λ i. take (long i) (same i)) ∙ take-append_seam ys (y ∷ others)),
    sym (get_or-append_seam xs x more x) ∙ ((λ i. get_or (same i) (long i) x) ∙ get_or-append_seam ys y others x),
  )

  same_end : (xs ys : List X) (x y : X) → xs ++ x ∷ [] ≡ ys ++ y ∷ [] → (xs ≡ ys) × (x ≡ y)
  same_end xs ys x y same =
      let lengths = sym (length-append xs (x ∷ [])) ∙ (ap length same ∙ length-append ys (y ∷ [])) in
      cut_once xs ys [] [] x y (omega (arith, lengths)) same

-- the line, behind these lines, says this plan
record SaysLast (A : Type 0) (confs lines : List (List ℕ)) (line : List ℕ) (plan : Subject A) : Type 0 where
  before : Subject A
  said : Say confs lines before
  adds : Adds confs (length lines + 1) (line_form line) before plan

says_last : {A : Type 0} {confs : List (List ℕ)} {before after : Subject A} (front lines : List (List ℕ)) (last line : List ℕ) → Say confs front before → Adds confs (length front + 1) (line_form last) before after
    → (front ≡ lines) × (last ≡ line) → SaysLast A confs lines line after
says_last {confs} {before} {after} front lines last line said adds (fronts, lasts) = record {
  before = before;
  said = subst (λ ls. Say confs ls before) fronts said;
  adds = subst (λ l. Adds confs (length lines + 1) (line_form l) before after) lasts (subst (λ (ls : List (List ℕ)). Adds confs (length ls + 1) (line_form last) before after) fronts adds);
}

-- the last of the lines that say a plan does
last_said : {A : Type 0} {confs all : List (List ℕ)} {plan : Subject A} → Say confs all plan → (lines : List (List ℕ)) (line : List ℕ) → all ≡ lines ++ line ∷ [] → SaysLast A confs lines line plan
last_said none lines line same = absurd (let lengths = ap length same ∙ length-append lines (line ∷ []) in omega (arith, lengths))
last_said (one_more {lines = front} last said adds) lines line same = says_last front lines last line said adds (same_end front lines last line same)

-- and so each of them says one, behind those before it
said_at : {A : Type 0} {confs all : List (List ℕ)} {plan : Subject A} → Say confs all plan → (lines others : List (List ℕ)) (line : List ℕ) (rest : List (List ℕ))
    → all ++ rest ≡ lines ++ line ∷ others → length lines < length all → (after : Subject A) × SaysLast A confs lines line after
said_at none lines others line rest same less = absurd (omega (arith, less))
said_at (one_more {lines = front} {after} last said adds) lines others line rest same less = elim (cases_lt (length lines) (length front)) [
  | inl within ↦ said_at said lines others line (last ∷ rest) (sym (append_assoc front (last ∷ []) rest) ∙ same) within
  | inr past ↦ (
      let lengths = length-append front (last ∷ []) in
      (after, says_last front lines last line said adds (cut_once front lines rest others last line (omega (arith, lengths)) (sym (append_assoc front (last ∷ []) rest) ∙ same))))
]

-- no lines say nothing
nothing_said : {A : Type 0} {confs all : List (List ℕ)} {plan : Subject A} → Say confs all plan → all ≡ [] → plan_view plan ≡ plan_view (empty_plan A)
nothing_said none same = refl
nothing_said (one_more {lines} line said adds) same = absurd (let lengths = sym (length-append lines (line ∷ [])) ∙ ap length same in omega (arith, lengths))

-- lines say one plan
one_said : {A B : Type 0} {confs lines : List (List ℕ)} {one : Subject A} → Say confs lines one → (all : List (List ℕ)) (other : Subject B) → Say confs all other → all ≡ lines → plan_view one ≡ plan_view other
one_said none all other k same = sym (nothing_said k same)
one_said {A} {B} {confs} (one_more {lines} {before} {after} line said adds) all other k same =
    let last = last_said k lines line same in
    one_addition confs (length lines + 1) (line_form line) before after last.before other (one_said said lines last.before last.said refl) adds last.adds

-- a line that is said is refused only for want of memory
said_or_refused : {A B : Type 0} (text : List ℕ) (confs : List (List ℕ)) (fault : PlanError) (h : IsRefusedLine A text confs fault) (lines rest : List (List ℕ)) (plan : Subject B) → Say confs lines plan
    → text_lines text ≡ lines ++ rest → length h.before < length lines → fault ≡ error.Memory
said_or_refused text confs fault h lines rest plan said lines_are less =
    let (after, at) = said_at said h.before h.others h.refused rest (sym lines_are ∙ h.lines_are) less in
    let line = length h.before + 1 in
    let form = line_form h.refused in
    let same = one_said h.said h.before at.before at.said refl in
    adds_or_refused confs line at.before after form fault at.adds (still_refused confs line form h.plan at.before same fault h.refuses)

-- why a text is refused: want of memory, or a line
memory_or_line : (A : Type 0) (text : List ℕ) (confs : List (List ℕ)) (fault : PlanError) → IsRefusal A text confs fault → (fault ≡ error.Memory) ⊎ IsRefusedLine A text confs fault
memory_or_line A text confs (error.BadLine n) h = inr h
memory_or_line A text confs (error.BadNumber n) h = inr h
memory_or_line A text confs (error.BadPattern n) h = inr h
memory_or_line A text confs (error.NoSuch n) h = inr h
memory_or_line A text confs (error.BadText n fault) h = inr h
memory_or_line A text confs (error.BadRelay n fault) h = inr h
memory_or_line A text confs error.Memory h = inl refl

-- one line is refused, and for one reason
one_line : {A B : Type 0} (text : List ℕ) (confs : List (List ℕ)) (f g : PlanError) → f ≢ error.Memory → g ≢ error.Memory → IsRefusedLine A text confs f → IsRefusedLine B text confs g → f ≡ g
one_line text confs f g not other h k = elim (cases_lt (length h.before) (length k.before)) [
  | inl less ↦ absurd (not (said_or_refused text confs f h k.before (k.refused ∷ k.others) k.plan k.said k.lines_are less))
  | inr past ↦ elim (cases_lt (length k.before) (length h.before)) [
    | inl less ↦ absurd (other (said_or_refused text confs g k h.before (h.refused ∷ h.others) h.plan h.said h.lines_are less))
    | inr above ↦ (
        let parts = cut_once k.before h.before k.others h.others k.refused h.refused (omega arith) (sym k.lines_are ∙ h.lines_are) in
        let line = length h.before + 1 in
        let form = line_form h.refused in
        let same = one_said k.said h.before h.plan h.said (sym parts.0) in
        let there : Refuses confs line form k.plan g =
        subst (λ l. Refuses confs line (line_form l) k.plan g) parts.1 (subst (λ (ls : List (List ℕ)). Refuses confs (length ls + 1) (line_form k.refused) k.plan g) parts.0 k.refuses) in
        one_refusal confs line form h.plan f g not other h.refuses (still_refused confs line form k.plan h.plan same g there))
  ]
]

pub says_one_plan : (A B : Type 0) → SaysOnePlan A B
says_one_plan A B text confs one other h k = one_said h (text_lines text) other k refl

pub has_one_fault : (A B : Type 0) → HasOneFault A B
has_one_fault A B text confs f g not other h k = elim (memory_or_line A text confs f h) [
  | inl memory ↦ absurd (not memory)
  | inr line ↦ elim (memory_or_line B text confs g k) [
    | inl memory ↦ absurd (other memory)
    | inr line2 ↦ one_line text confs f g not other line line2
  ]
]

pub is_plan_or_fault : (A B : Type 0) → IsPlanOrFault A B
is_plan_or_fault A B text confs plan fault said h = elim (memory_or_line B text confs fault h) [
  | inl memory ↦ memory
  | inr line ↦ (
      let lengths = ap length line.lines_are ∙ length-append line.before (line.refused ∷ line.others) in
      said_or_refused text confs fault line (text_lines text) [] plan said (sym (append-nil (text_lines text))) (omega (arith, lengths)))
]
