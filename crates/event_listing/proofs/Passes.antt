-- Passes over a sink's file that grows.
use Rattle.std.proofs.Common.{ℕ, ◌≡◌, ◌+◌, ◌-◌, ◌≤◌, List, [], ◌++◌, length, drop, Option, Some, None, Result, Ok, Err, sym, ap, ◌∙◌, subst, arith, append-nil}
use Rattle.std.specs.Prelude.{IfSome}
use Rattle.std.proofs.Math.Seq.{drop-append_seam}
use Rattle.std.proofs.lemmas.List.{drop-append-le, drop-drop, length-append, length-drop}
use Rattle.folder_listing.specs.Placed.{known_from}
use Rattle.program_text.specs.declared.status.Status.{Status}
use Rattle.program_text.specs.declared.status.Status.TheVariants.{No, Usage}
use Rattle.event_listing.specs.Choices.{Chosen}
use Rattle.event_listing.specs.Forms.{spelled_run, Items}
use Rattle.event_listing.specs.Lines.{PrintsAll, PrintsSome}
use Rattle.event_listing.specs.Passes.{DoPassesJoin, EndsPass, IsCutShown, IsPass, PrintsPass}
use Rattle.event_listing.specs.Reading.{IsEnd, PrintsFile}
use Rattle.event_listing.specs.Shown.{Shown}
use Rattle.event_listing.specs.declared.follow.Growth.{Growth}
use Rattle.event_listing.specs.declared.sink.End.{End}
use Rattle.event_listing.specs.declared.sink.End.TheVariants as reading
use Rattle.event_listing.specs.declared.stop.Stop.{Stop}
use Rattle.event_listing.specs.declared.stop.Stop.TheVariants.{Read}
use Rattle.event_listing.proofs.Outputs.{some_shown}
use Rattle.event_listing.proofs.Pieces.{prints_more, some_of_all}

-- ---- one pass

known_pass : (chosen : Chosen) (known : Option (List ℕ)) (at next used behind : ℕ) (text : List ℕ)
    → IfSome (known_from known at) (λ bytes. (rest : List ℕ) × PrintsAll Items chosen bytes text rest × IsEnd bytes rest (reading.Ended used behind)) → next ≡ at + used
    → IfSome known (λ bytes. IsPass chosen bytes at next behind text)
known_pass chosen None at next used behind text ends is = tt
known_pass chosen (Some bytes) at next used behind text ends is = record {
  rest = ends.0;
  printed = ends.1;
  behind_is = ends.2.1;
  next_is = omega (arith, is, ends.2.0, ends.2.1, ap length ends.1.whole, length-append (spelled_run Items ends.1.events) ends.0);
}

some_from : (chosen : Chosen) (known : Option (List ℕ)) (at : ℕ) (text : List ℕ) → IfSome (known_from known at) (λ bytes. PrintsSome Items chosen bytes text) → IfSome known (λ bytes. PrintsSome Items chosen (drop at bytes) text)
some_from chosen None at text some = tt
some_from chosen (Some bytes) at text some = some

some_of : (chosen : Chosen) (known : Option (List ℕ)) (at : ℕ) (text : List ℕ) (end : End) → IfSome (known_from known at) (λ bytes. (rest : List ℕ) × PrintsAll Items chosen bytes text rest × IsEnd bytes rest end)
    → IfSome known (λ bytes. PrintsSome Items chosen (drop at bytes) text)
some_of chosen None at text end ends = tt
some_of chosen (Some bytes) at text end ends = subst (λ z. PrintsSome Items chosen z text) (append-nil (drop at bytes)) (some_of_all Items chosen (drop at bytes) text ends.0 [] ends.1)

-- it comes to the end of the file, or to where that is damaged
pub pass_ended : (known : Option (List ℕ)) (chosen : Chosen) (name : List ℕ) (at : ℕ) (growth : Growth) (old new : Shown) (notes : Option (List ℕ) × Option (List ℕ)) (end : End) (result : Result ℕ Status)
    → PrintsFile Items chosen (known_from known at) old new (Ok end) → EndsPass name at growth end notes result → PrintsPass known chosen name at growth (old, new) notes result
pass_ended known chosen name at growth old new notes (reading.Ended used behind) (Ok next) file ends =
    record { text = file.text; behind = behind; shown = file.shown; ends = known_pass chosen known at next used behind file.text file.ends ends.0; noted = ends.1 }
pass_ended known chosen name at growth old new notes (reading.Damaged used) (Ok next) file ends = absurd ends
pass_ended known chosen name at growth old new notes (reading.Ended used behind) (Err status) file ends = record {
  text = file.text;
  behind = 0;
  shown = subst (IsCutShown old new file.text) (sym ends) file.shown;
  ends = some_of chosen known at file.text (reading.Ended used behind) file.ends;
  noted = tt;
}
pass_ended known chosen name at growth old new notes (reading.Damaged used) (Err status) file ends = record {
  text = file.text;
  behind = 0;
  shown = subst (IsCutShown old new file.text) (sym ends) file.shown;
  ends = some_of chosen known at file.text (reading.Damaged used) file.ends;
  noted = tt;
}

-- its reader failed
pub pass_unread : (known : Option (List ℕ)) (chosen : Chosen) (name : List ℕ) (at : ℕ) (growth : Growth) (old new : Shown) (notes : Option (List ℕ) × Option (List ℕ)) → PrintsFile Items chosen (known_from known at) old new (Err Read)
    → PrintsPass known chosen name at growth (old, new) notes (Err No)
pass_unread known chosen name at growth old new notes file = record { text = file.text; behind = 0; shown = file.shown; ends = some_from chosen known at file.text file.ends; noted = tt }

-- memory ran out, or the writer failed
pub pass_stopped : (known : Option (List ℕ)) (chosen : Chosen) (name : List ℕ) (at : ℕ) (growth : Growth) (old new : Shown) (notes : Option (List ℕ) × Option (List ℕ)) (stop : Stop) (status : Status)
    → PrintsFile Items chosen (known_from known at) old new (Err stop) → status ≡ Usage → PrintsPass known chosen name at growth (old, new) notes (Err status)
pass_stopped known chosen name at growth old new notes stop status file is = record {
  text = file.text;
  behind = 0;
  shown = subst (IsCutShown old new file.text) (sym is) (some_shown old new file.text stop file.shown);
  ends = some_from chosen known at file.text file.ends;
  noted = tt;
}

-- ---- a pass behind another

pub passes_join : DoPassesJoin
passes_join chosen bytes more at next end behind left text others fits first second =
    let read = drop at bytes in
    let run = spelled_run Items first.printed.events in
    let cut : drop at (bytes ++ more) ≡ read ++ more = drop-append-le at bytes more fits in
    let lengths : length read ≡ length run + length first.rest = ap length first.printed.whole ∙ length-append run first.rest in
    let whole : length read ≡ length bytes - at = length-drop at bytes in
    let place : next ≡ at + length run = omega (arith, lengths, first.behind_is, first.next_is) in
    let there : next ≤ length bytes = omega (arith, lengths, whole, place, fits) in
    let rest : drop next bytes ≡ first.rest =
    ap (λ n. drop n bytes) place ∙ sym (drop-drop (length run) at bytes) ∙ ap (drop (length run)) first.printed.whole ∙ drop-append_seam run first.rest in
    let behind_it : drop next (bytes ++ more) ≡ first.rest ++ more = drop-append-le next bytes more there ∙ ap (λ z. z ++ more) rest in
    let after = subst (λ z. PrintsAll Items chosen z others second.rest) behind_it second.printed in
    record {
      rest = second.rest;
      printed = subst (λ z. PrintsAll Items chosen z (text ++ others) second.rest) (sym cut) (prints_more Items chosen read more text first.rest others second.rest first.printed after);
      behind_is = second.behind_is;
      next_is = omega (arith, second.next_is, ap length behind_it, ap length cut, length-append first.rest more, length-append read more, lengths, place, first.next_is, first.behind_is);
    }
