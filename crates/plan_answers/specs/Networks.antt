-- What is printed of a network's plan, and of a plan with steps.
use Rattle.std.specs.Prelude.{◌≡◌, ◌<◌, ℕ, List, ◌++◌, length, Option, ◌⊎◌}
use Rattle.loss_rules.specs.Breaks.{Subject, IsAnswer}
use Rattle.loss_rules.specs.Printed.{answer_text}
use Rattle.loss_rules.specs.declared.answer.Answer.{Answer}
use Rattle.loss_rules.specs.declared.answer.Answer.TheVariants as answer
use Rattle.plan_lines.specs.declared.error.PlanError.{PlanError}
use Rattle.program_text.specs.declared.status.Status.{Status}
use Rattle.program_text.specs.declared.status.Status.TheVariants.{Done, No, Usage}
use Rattle.program_text.specs.Lines.{line, memory_line, read_line}
use Rattle.program_text.specs.Output.{TakesPart, IsPrinted}
use Rattle.program_text.specs.Plans.{IsPlanRead, IsRefusedPlan, plan_fault_line}
use Rattle.plan_answers.specs.Replays.{IsReplayed}
use Rattle.program_text.specs.Texts.{IsTextOf}

-- The checker's line.

-- the line of an answer
abbrev pub answer_line : Answer → List ℕ
answer_line found = line (answer_text found)

-- the status of an answer
abbrev pub answer_status : Answer → Status
answer_status answer.Yes = Done
answer_status (answer.No rule place) = No

-- The plan that is read has this answer.
pub record IsAnswered (A : Type 0) (net : Option (List ℕ)) (named : List ℕ → Option (List ℕ))
    (plan : Subject A) (found : Answer) : Type 0 where
  pub plan_is : IsPlanRead net named plan
  pub answer_is : IsAnswer plan found

-- Steps of a text are taken in the network of a plan with this answer, and this is listed of them.
pub record AreReplayed {A : Type 0} (plan : Subject A) (found : Answer) (steps : Option (List ℕ))
    (lines : List ℕ) (status : Status) : Type 0 where
  pub text : List ℕ
  pub text_is : IsTextOf steps text
  pub replayed : IsReplayed plan found text lines status

-- All that is printed, in lines.

-- Memory ran out, or a reader failed, and this is the line that says so.
abbrev pub IsStopLine : List ℕ → Type 0
IsStopLine lines = (lines ≡ memory_line) ⊎ (lines ≡ read_line)

-- There is no answer, and this is the line that says why: the plan's first fault, or what stopped.
pub data SaysNoAnswer (A : Type 0) (net : Option (List ℕ)) (named : List ℕ → Option (List ℕ))
    (lines : List ℕ) : Type 0 where
  says_fault : (fault : PlanError) → IsRefusedPlan A net named fault
      → lines ≡ plan_fault_line fault → SaysNoAnswer A net named lines
  says_stop : IsStopLine lines → SaysNoAnswer A net named lines

-- What `check` prints of a plan: the line of its answer, or the line that says why there is none.
pub data IsChecked (A : Type 0) (net : Option (List ℕ)) (named : List ℕ → Option (List ℕ))
    (lines : List ℕ) (status : Status) : Type 0 where
  says_answer : (plan : Subject A) (found : Answer) → IsAnswered A net named plan found
      → lines ≡ answer_line found → status ≡ answer_status found
      → IsChecked A net named lines status
  says_none : SaysNoAnswer A net named lines → status ≡ Usage → IsChecked A net named lines status

-- the status of a plan's answer and of steps in it: a no stays a no, whatever becomes of the events
abbrev pub joined_status : Answer → Status → Status
joined_status answer.Yes after = after
joined_status (answer.No rule place) Usage = Usage
joined_status (answer.No rule place) _ = No

-- What `replay` prints of a plan and steps: behind the line of the answer what is listed of the
-- steps, or the line that says why nothing is; or the line that says why there is no answer.
pub data IsReplayedIn (A : Type 0) (net : Option (List ℕ)) (named : List ℕ → Option (List ℕ))
    (steps : Option (List ℕ)) (lines : List ℕ) (status : Status) : Type 0 where
  lists_steps : (plan : Subject A) (found : Answer) (behind : List ℕ) (after : Status)
      → IsAnswered A net named plan found → AreReplayed plan found steps behind after
      → lines ≡ answer_line found ++ behind → status ≡ joined_status found after
      → IsReplayedIn A net named steps lines status
  lists_no_steps : (plan : Subject A) (found : Answer) (behind : List ℕ)
      → IsAnswered A net named plan found → IsStopLine behind
      → lines ≡ answer_line found ++ behind → status ≡ Usage
      → IsReplayedIn A net named steps lines status
  lists_none : SaysNoAnswer A net named lines → status ≡ Usage
      → IsReplayedIn A net named steps lines status

-- What a writer gets.

-- all that `check` does to a writer, and its status
pub record PrintsCheck (A : Type 0) (net : Option (List ℕ)) (named : List ℕ → Option (List ℕ))
    (old new : Option (List ℕ)) (status : Status) : Type 0 where
  pub lines : List ℕ
  pub meant : Status
  pub checked : IsChecked A net named lines meant
  pub printed : IsPrinted old new lines meant status

-- All that `replay` does to a writer, and its status: it prints such lines, as far as the writer
-- takes them; or it ends where the writer fails in the answer's line, before it reads steps.
pub data PrintsReplay (A : Type 0) (net : Option (List ℕ)) (named : List ℕ → Option (List ℕ))
    (steps old new : Option (List ℕ)) (status : Status) : Type 0 where
  prints_lines : (lines : List ℕ) (meant : Status) → IsReplayedIn A net named steps lines meant
      → IsPrinted old new lines meant status → PrintsReplay A net named steps old new status
  ends_at_answer : (plan : Subject A) (found : Answer) (unseen : List ℕ)
      → IsAnswered A net named plan found → TakesPart old new (answer_line found) unseen
      → 0 < length unseen → status ≡ Usage → PrintsReplay A net named steps old new status
