-- What is said of matches at which events may go.
use Rattle.std.proofs.Common.{◌≡◌, ◌==◌, ◌+◌, ◌<◌, ◌≤◌, ℕ, zero, suc, Bool, false, Result, Ok, Err, List, [], ◌∷◌, ◌++◌, append_assoc, codes, get_or, take, length, slice_get, sym, ap, subst, refl, ◌∙◌, arith}
use Rattle.std.proofs.lemmas.List.{take_all, take_more}
use Rattle.std.specs.Prelude.{OnOk}
use Rattle.label_plan.specs.declared.name.DropName.{DropName}
use Rattle.loss_checker.specs.declared.broken.BrokenRule.{BrokenRule}
use Rattle.loss_rules.specs.Breaks.{Subject}
use Rattle.plan_advice.specs.Notes.{AddsNotes}
use Rattle.program_text.specs.Lines.{line}
use Rattle.program_text.specs.declared.status.Status.{Status}
use Rattle.program_text.specs.declared.status.Status.TheVariants.{Done}
use Rattle.relayctl.specs.Checking.{SaysRules}
use Rattle.relayctl.specs.Dropping.{drops_head, one_more, AddsDrops, IsSaidOf, SayDrops}

-- what stands behind the names
unfoldable pub no_name : DropName
no_name = record { relay = 0; scope = record { ref_ptr = (0, 0); now = [] }; index = 0 }

-- there is an element where a list isn't empty
pub some_there : (n : ℕ) (empty : Bool) → empty ≡ (n == 0) → empty ≡ false → 0 < n
some_there zero empty is not = absurd (cc (sym is ∙ not))
some_there (suc n) empty is not = omega arith

-- what follows where a call succeeds
pub on_ok : {X E : Type 0} (P Q : Type 0) (r : Result X E) → OnOk r P → (P → Q) → OnOk r Q
on_ok P Q (Ok x) holds follows = follows holds
on_ok P Q (Err e) holds follows = tt

-- That is said of these names behind these lines.
abbrev pub AreSaid : {A : Type 0} → Subject A → List DropName → List ℕ → List ℕ → Type 0
AreSaid plan names start lines = (said : List ℕ) × SayDrops plan names said × (lines ≡ start ++ said)

-- what is said of one name more
pub said_more : {A : Type 0} (plan : Subject A) (names : List DropName) (i : ℕ) (other : DropName) (start mid after : List ℕ) → i < length names → AreSaid plan (take i names) start mid
    → ((text : List ℕ) × IsSaidOf plan (get_or names i other) text × (after ≡ mid ++ text)) → AreSaid plan (take (i + 1) names) start after
said_more plan names i other start mid after less (said, are, mid_is) (text, is, after_is) = (
  said ++ text,
  subst (λ ns. SayDrops plan ns (said ++ text)) (sym (take_more names i other less)) (one_more (get_or names i other) text are is),
  after_is ∙ ap (λ l. l ++ text) mid_is ∙ append_assoc start said text,
)

-- what is listed where there are names
pub all_listed : {A : Type 0} (plan : Subject A) (names : List DropName) (i : ℕ) (start lines : List ℕ) → 0 < length names → length names ≤ i → AreSaid plan (take i names) (start ++ drops_head) lines
    → AddsDrops plan names start lines
all_listed plan [] i start lines some end are = absurd (omega (arith, some))
all_listed plan (first ∷ others) i start lines some end (said, are, is) = (
  drops_head ++ said,
  (said, subst (λ ns. SayDrops plan ns said) (take_all i (first ∷ others) end) are, refl),
  is ∙ append_assoc start drops_head said,
)

-- a yes, with what is listed of the names behind it, and notes behind that
pub says_yes : {A : Type 0} (names : List DropName) (plan : Subject A) (broken : List (BrokenRule A)) (start mid after : List ℕ) → length broken ≡ 0 → start ≡ line (codes "yes") → AddsDrops plan names start mid → AddsNotes mid after
    → SaysRules names plan broken after Done
says_yes names plan [] start mid after none is (listed, are, mid_is) notes = (listed, are, subst (λ m. AddsNotes m after) (mid_is ∙ ap (λ s. s ++ listed) is) notes, refl)
says_yes names plan (first ∷ others) start mid after none is adds notes = absurd (omega (arith, none))
