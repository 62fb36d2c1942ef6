-- From what is said of a plan, or of its fault, to what `explain` and `check` print.
use Rattle.std.proofs.lemmas.List.{append-nil, length-append, take_more}
use Rattle.std.proofs.lemmas.List.Elements.{All-push}
use Rattle.std.proofs.lemmas.List.Sorted.{All-permutation, length_permutation}
use Rattle.std.specs.Prelude.{All, IsPermutation}
use Rattle.std.specs.declared.vec.Vec.{Vec}
use Rattle.std.proofs.Common.{◌≡◌, ℕ, List, ◌++◌, Bool, true, false, refl, ap, ◌∙◌, inl, inr, append_assoc, ◌<◌, ◌+◌, [], ◌∷◌, get_or, take, length, subst, sym}
use Rattle.std.specs.Bool.{IsTrue}
use Rattle.label_plan.specs.declared.name.DropName.{DropName}
use Rattle.loss_search.specs.Losses.{IsLosingText}
use Rattle.loss_rules.specs.Breaks.{Subject}
use Rattle.loss_rules.specs.declared.answer.Answer.TheVariants as answer
use Rattle.loss_rules.specs.declared.answer.Place.{Place}
use Rattle.loss_rules.specs.declared.answer.Rule.{Rule}
use Rattle.plan_answers.specs.Networks.{answer_line}
use Rattle.program_text.specs.declared.status.Status.TheVariants.{No}
use Rattle.relayctl.specs.Checking.{no_lines, AreExplained}
use Rattle.relayctl.specs.Explaining.{last_line, IsLossOrNotes, SaysAnswer}

-- with the last line behind them, lines are steps that lose an event, or notes
loss_or_notes : {A : Type 0} (plan : Subject A) (text : List ℕ) (has_loss : Bool) → (IsTrue has_loss → IsLosingText plan.duty plan.net text)
    → IsLossOrNotes plan (text ++ last_line has_loss)
loss_or_notes plan text true loses = inl (text, refl, loses refl)
loss_or_notes plan text false loses = inr (text, refl)

-- what is said of a no
pub says_no : {A : Type 0} (names : List DropName) (plan : Subject A) (broken : Rule) (at : Place) (front text lines : List ℕ) (has_loss : Bool) → front ≡ answer_line (answer.No broken at)
    → (IsTrue has_loss → IsLosingText plan.duty plan.net text) → lines ≡ (front ++ text) ++ last_line has_loss → SaysAnswer names plan (answer.No broken at) lines No
says_no names plan broken at front text lines has_loss is loses are = record {
  said = text ++ last_line has_loss;
  is_behind = loss_or_notes plan text has_loss loses;
  lines_are = are ∙ append_assoc front text (last_line has_loss) ∙ ap (λ f. f ++ (text ++ last_line has_loss)) is;
  is_status = refl;
}

-- the lines of one place more
pub no_lines_more : (rule : Rule) (places : List Place) (at : Place) → no_lines rule (places ++ at ∷ []) ≡ no_lines rule places ++ answer_line (answer.No rule at)
no_lines_more rule [] at = append-nil (answer_line (answer.No rule at))
no_lines_more rule (first ∷ places) at = ap (λ f. answer_line (answer.No rule first) ++ f) (no_lines_more rule places at) ∙ sym (append_assoc (answer_line (answer.No rule first)) (no_lines rule places) (answer_line (answer.No rule at)))

pub places_more : (rule : Rule) (first : Place) (places : List Place) (count : ℕ) (other : Place) (before mid after : List ℕ) → count < length places
    → mid ≡ before ++ no_lines rule (first ∷ take count places) → after ≡ mid ++ answer_line (answer.No rule (get_or places count other))
    → after ≡ before ++ no_lines rule (first ∷ take (count + 1) places)
places_more rule first places count other before mid after less mid_is after_is =
    let at = get_or places count other in
    after_is ∙ ap (λ f. f ++ answer_line (answer.No rule at)) mid_is ∙ append_assoc before (no_lines rule (first ∷ take count places)) (answer_line (answer.No rule at))
    ∙ ap (λ f. before ++ f) (sym (no_lines_more rule (first ∷ take count places) at)) ∙ ap (λ ps. before ++ no_lines rule (first ∷ ps)) (sym (take_more places count other less))

-- what explains one rule more
pub explained_more : {A : Type 0} (plan : Subject A) (count : ℕ) (before : List (Vec ℕ A)) (said : Vec ℕ A) (after : List (Vec ℕ A)) → AreExplained plan count before → IsLossOrNotes plan said.items
    → after ≡ before ++ said ∷ [] → AreExplained plan (count + 1) after
explained_more {A} plan count before said after are is after_is = record {
  each = subst (λ (l : List (Vec ℕ A)). All (λ (v : Vec ℕ A). IsLossOrNotes plan v.items) l) (sym after_is) (All-push (λ (v : Vec ℕ A). IsLossOrNotes plan v.items) before said are.each is);
  as_many = ap length after_is ∙ length-append before (said ∷ []) ∙ ap (λ n. n + 1) are.as_many;
}

-- the same in another order
pub explained_sorted : {A : Type 0} (plan : Subject A) (count : ℕ) (before after : List (Vec ℕ A)) → AreExplained plan count before → IsPermutation before after → AreExplained plan count after
explained_sorted {A} plan count before after are moved = record {
  each = All-permutation (λ (v : Vec ℕ A). IsLossOrNotes plan v.items) before after moved are.each;
  as_many = length_permutation before after moved ∙ are.as_many;
}
