-- From what is read and written to what `check` and `replay` print.
use Rattle.std.proofs.Common.{◌≡◌, ◌<◌, ◌⊎◌, ℕ, List, [], ◌++◌, length, refl, sym, ap, ◌∙◌, subst, inl, inr, append_assoc, append-nil}
use Rattle.std.specs.Prelude.{Option}
use Rattle.std.proofs.KnownBytes.{Appends-trans}
use Rattle.loss_rules.specs.Breaks.{Subject}
use Rattle.loss_rules.specs.declared.answer.Answer.{Answer}
use Rattle.program_text.specs.declared.plan_text.PlanStop.{PlanStop}
use Rattle.program_text.specs.declared.plan_text.PlanStop.TheVariants as stop
use Rattle.program_text.specs.declared.reading.ReadFault.{ReadFault}
use Rattle.program_text.specs.declared.reading.ReadFault.TheVariants as unread
use Rattle.program_text.specs.declared.status.Status.{Status}
use Rattle.program_text.specs.declared.status.Status.TheVariants.{Usage}
use Rattle.program_text.specs.Lines.{unread_line}
use Rattle.program_text.specs.Plans.{IsPlanStop, SaysPlanStop, PrintsPlanStop}
use Rattle.plan_answers.specs.Networks.{IsAnswered, SaysNoAnswer, IsStopLine, PrintsCheck, PrintsReplay, AreReplayed, answer_line, answer_status, joined_status}
use Rattle.plan_answers.specs.Networks.{says_fault, says_stop, says_answer, says_none, lists_steps, lists_no_steps, lists_none, prints_lines, ends_at_answer}
use Rattle.program_text.specs.Output.{TakesPart, IsPrinted}

-- the answer's line is printed
pub answered_check : (A : Type 0) (net : Option (List ℕ)) (named : List ℕ → Option (List ℕ)) (old new : Option (List ℕ)) (plan : Subject A) (found : Answer) (lines : List ℕ) (status : Status)
    → IsAnswered A net named plan found → lines ≡ answer_line found → IsPrinted old new lines (answer_status found) status → PrintsCheck A net named old new status
answered_check A net named old new plan found lines status answered is printed = record {
  lines = lines;
  meant = answer_status found;
  checked = says_answer plan found answered is refl;
  printed = printed;
}

-- what stops is printed in place of an answer
pub stop_said : (A : Type 0) (net : Option (List ℕ)) (named : List ℕ → Option (List ℕ)) (stopped : PlanStop) (lines : List ℕ) → IsPlanStop A net named stopped → SaysPlanStop stopped lines
    → SaysNoAnswer A net named lines
stop_said A net named (stop.Plan fault) lines of (inl is) = says_fault fault of.0 is
stop_said A net named (stop.Plan fault) lines of (inr is) = says_stop (inl is)
stop_said A net named (stop.Unread unread.Memory) lines of is = says_stop (inl is)
stop_said A net named (stop.Unread unread.Read) lines of is = says_stop (inr is)

pub stopped_check : (A : Type 0) (net : Option (List ℕ)) (named : List ℕ → Option (List ℕ)) (old new : Option (List ℕ)) (stopped : PlanStop) (status : Status)
    → IsPlanStop A net named stopped → PrintsPlanStop stopped old new status → PrintsCheck A net named old new status
stopped_check A net named old new stopped status of prints = record {
  lines = prints.lines;
  meant = Usage;
  checked = says_none (stop_said A net named stopped prints.lines of prints.said) refl;
  printed = prints.printed;
}

pub stopped_replay : (A : Type 0) (net : Option (List ℕ)) (named : List ℕ → Option (List ℕ)) (steps old new : Option (List ℕ)) (stopped : PlanStop) (status : Status)
    → IsPlanStop A net named stopped → PrintsPlanStop stopped old new status → PrintsReplay A net named steps old new status
stopped_replay A net named steps old new stopped status of prints = prints_lines prints.lines Usage
    (lists_none (stop_said A net named stopped prints.lines of prints.said) refl) prints.printed

-- the writer failed in the answer's line
pub cut_replay : (A : Type 0) (net : Option (List ℕ)) (named : List ℕ → Option (List ℕ)) (steps old new : Option (List ℕ)) (plan : Subject A) (found : Answer) (lines : List ℕ)
    → IsAnswered A net named plan found → lines ≡ answer_line found → (unseen : List ℕ) × (0 < length unseen) × TakesPart old new lines unseen
    → PrintsReplay A net named steps old new Usage
cut_replay A net named steps old new plan found lines answered is cut =
    ends_at_answer plan found cut.0 answered (subst (λ l. TakesPart old new l cut.0) is cut.2) cut.1 refl

-- more is printed behind a line
printed_behind : (a b c : Option (List ℕ)) (front behind : List ℕ) (meant status : Status) → TakesPart a b front [] → IsPrinted b c behind meant status
    → IsPrinted a c (front ++ behind) meant status
printed_behind a b c front behind meant status takes printed = (
  printed.0,
  record {
    written = takes.written ++ printed.1.written;
    appends = Appends-trans a b c takes.written printed.1.written takes.appends printed.1.appends;
    whole = append_assoc takes.written printed.1.written printed.0 ∙ ap (λ l. takes.written ++ l) printed.1.whole
        ∙ ap (λ l. l ++ behind) (sym (append-nil takes.written) ∙ takes.whole);
  },
  printed.2,
)

-- steps are listed behind the answer's line
pub whole_replay : (A : Type 0) (net : Option (List ℕ)) (named : List ℕ → Option (List ℕ)) (steps old mid new : Option (List ℕ)) (plan : Subject A) (found : Answer) (front behind : List ℕ) (after status : Status)
    → IsAnswered A net named plan found → front ≡ answer_line found → TakesPart old mid front [] → AreReplayed plan found steps behind after → IsPrinted mid new behind (joined_status found after) status
    → PrintsReplay A net named steps old new status
whole_replay A net named steps old mid new plan found front behind after status answered is takes listed printed =
    prints_lines (front ++ behind) (joined_status found after)
    (lists_steps plan found behind after answered listed (ap (λ l. l ++ behind) is) refl)
    (printed_behind old mid new front behind (joined_status found after) status takes printed)

-- the line of a text that isn't read is one that ends a listing
stop_line : (fault : ReadFault) (lines : List ℕ) → lines ≡ unread_line fault → IsStopLine lines
stop_line unread.Memory lines is = inl is
stop_line unread.Read lines is = inr is

-- steps can't be read behind the answer's line
pub unread_replay : (A : Type 0) (net : Option (List ℕ)) (named : List ℕ → Option (List ℕ)) (steps old mid new : Option (List ℕ)) (plan : Subject A) (found : Answer) (front behind : List ℕ) (fault : ReadFault) (status : Status)
    → IsAnswered A net named plan found → front ≡ answer_line found → TakesPart old mid front [] → behind ≡ unread_line fault → IsPrinted mid new behind Usage status
    → PrintsReplay A net named steps old new status
unread_replay A net named steps old mid new plan found front behind fault status answered is takes line printed =
    prints_lines (front ++ behind) Usage
    (lists_no_steps plan found behind answered (stop_line fault behind line) (ap (λ l. l ++ behind) is) refl)
    (printed_behind old mid new front behind Usage status takes printed)
