-- From what is found of a plan, and from what stops, to what `check` prints.
use Rattle.std.proofs.Common.{◌≡◌, ℕ, List, Bool, Result, Ok, Err, length, refl, sym, ◌∙◌, inl, inr}
use Rattle.std.proofs.lemmas.List.{length-map}
use Rattle.std.proofs.lemmas.Slice.Zip.{AllZip-long}
use Rattle.std.specs.Prelude.{IfOk, MatchResult, Option}
use Rattle.std.specs.declared.vec.Vec.{Vec}
use Rattle.conf_listing.specs.Answers.{IsAdapted}
use Rattle.conf_listing.specs.Networks.{AreAdaptedTexts}
use Rattle.label_plan.specs.declared.name.DropName.{DropName}
use Rattle.label_plan.specs.Checks.{IsLabelledCheck}
use Rattle.loss_checker.specs.declared.broken.BrokenRule.{BrokenRule}
use Rattle.loss_rules.specs.Breaks.{Subject}
use Rattle.program_text.specs.declared.plan_text.PlanStop.TheVariants as stop
use Rattle.plan_answers.specs.Networks.{IsStopLine}
use Rattle.program_text.specs.Lines.{unread_line}
use Rattle.program_text.specs.Plans.{PrintsPlanStop}
use Rattle.plan_lines.specs.Forms.{confs_named}
use Rattle.plan_lines.specs.Plans.{texts}
use Rattle.program_text.specs.declared.reading.ReadFault.{ReadFault}
use Rattle.program_text.specs.declared.reading.ReadFault.TheVariants as unread
use Rattle.program_text.specs.declared.status.Status.{Status}
use Rattle.program_text.specs.declared.status.Status.TheVariants.{Usage}
use Rattle.relayctl.specs.Checking.{IsTextsCheck, PrintsFound, PrintsSuch, PrintsUnread, SaysCheck}
use Rattle.relayctl.specs.declared.check.Check.{Check}
use Rattle.relayctl.specs.declared.check.Check.TheVariants as check

-- what is said of a plan that is labelled
pub is_checked : (A : Type 0) (given : List ℕ) (confs : List (List ℕ)) (names : List DropName) (is_labelled : Bool) (text : List ℕ) (plan : Subject A) (broken : List (BrokenRule A))
    → IsLabelledCheck A confs names given is_labelled text plan broken → (found : Check A) → SaysCheck names is_labelled plan broken found → IsTextsCheck A given confs names found
is_checked A given confs names is_labelled text plan broken checked (check.Answered said) says =
    record { is_labelled = is_labelled; text = text; plan = plan; broken = broken; checked = checked; says = says }
is_checked A given confs names is_labelled text plan broken checked (check.Refused said) says =
    inr (inr (record { is_labelled = is_labelled; text = text; plan = plan; broken = broken; checked = checked; says = says }))

-- the line of a text that isn't read
pub stop_line : (fault : ReadFault) (lines : List ℕ) → lines ≡ unread_line fault → IsStopLine lines
stop_line unread.Memory lines is = inl is
stop_line unread.Read lines is = inr is

-- what stops is said in place of faults
pub stopped_unread : (out old new : Option (List ℕ)) (fault : ReadFault) (status : Status) → PrintsPlanStop (stop.Unread fault) old new status → PrintsUnread out out old new status
stopped_unread out old new fault status prints = record {
  lines = prints.lines;
  stop = stop_line fault prints.lines prints.said;
  said = prints.printed;
  silent = refl;
}

-- what is found is such, and it is printed
pub prints_such : {A : Type 0} (IsSuch : Check A → Type 0) (old new old_faults new_faults : Option (List ℕ)) (status : Status) (found : Result (Check A) ReadFault) → IfOk found IsSuch
    → MatchResult found (λ f. PrintsFound f old new old_faults new_faults status) (λ _. PrintsUnread old new old_faults new_faults status) → PrintsSuch IsSuch old new old_faults new_faults status
prints_such IsSuch old new old_faults new_faults status (Ok found) is prints = inl (found, is, prints)
prints_such IsSuch old new old_faults new_faults status (Err fault) is prints = inr prints

-- there are as many adapted configurations as the plan names
pub as_many : (A : Type 0) (given : List ℕ) (accepted : List (List ℕ)) (confs adapted : List (Vec ℕ A)) → length confs ≡ length (confs_named given)
    → AreAdaptedTexts A (texts confs) accepted (texts adapted) → length adapted ≡ length (confs_named given)
as_many A given accepted confs adapted same each =
    sym (length-map adapted (λ (v : Vec ℕ A). v.items))
    ∙ AllZip-long (λ (conf text : List ℕ). IsAdapted A conf accepted text) (texts confs) (texts adapted) each
    ∙ length-map confs (λ (v : Vec ℕ A). v.items)
    ∙ same
