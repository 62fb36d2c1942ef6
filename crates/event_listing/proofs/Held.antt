-- Events that are taken off bytes, one after another.
use Rattle.std.proofs.Common.{ℕ, ◌≡◌, ◌-◌, ◌≤◌, ◌<◌, List, [], ◌∷◌, ◌++◌, length, drop, refl, sym, ap, subst, ◌∙◌, arith, append-nil, Option, Some, None}
use Rattle.std.specs.Borrow.{Bor}
use Rattle.std.specs.List.{AllByRecursion}
use Rattle.std.proofs.Math.Seq.{drop-append_seam}
use Rattle.std.proofs.lemmas.List.{length-append}
use Rattle.program_text.proofs.ListingSteps.{none_listed, listed_push}
use Rattle.sink_series.specs.Events.{Event}
use Rattle.event_listing.specs.Choices.{Chosen}
use Rattle.event_listing.specs.Forms.{Form, spelled, spelled_run, BeginsNo, IsIn}
use Rattle.event_listing.specs.Lines.{ArePrinted, IsPrintedOf, PrintsAll, PrintsFirst, TakesFirst}
use Rattle.recent_lines.specs.Lines.{EndsALine}
use Rattle.event_listing.proofs.Printed.{printed_ends}
use Rattle.event_listing.proofs.Items.{each_append, fewer_behind, run_append}

-- what is printed of the events so far, and what is behind them
pub record HeldOn (form : Form) (chosen : Chosen) (bytes rest lines : List ℕ) : Type 0 where
  pub events : List Event
  pub each : AllByRecursion (IsIn form) events
  pub whole : bytes ≡ spelled_run form events ++ rest
  pub printed : ArePrinted chosen events lines

pub held_start : (form : Form) (chosen : Chosen) (bytes lines : List ℕ) → lines ≡ [] → HeldOn form chosen bytes bytes lines
held_start form chosen bytes lines none =
    record { events = []; each = tt; whole = refl; printed = subst (ArePrinted chosen []) (sym none) (none_listed (IsPrintedOf chosen)) }

-- an event more
pub held_more : (form : Form) (chosen : Chosen) (bytes rest behind lines new : List ℕ) → HeldOn form chosen bytes rest lines → PrintsFirst form chosen rest behind lines new → HeldOn form chosen bytes behind new
held_more form chosen bytes rest behind lines new on one =
    let all = on.events ++ one.event ∷ [] in
    record {
      events = all;
      each = each_append (IsIn form) on.events (one.event ∷ []) on.each (one.is, tt);
      whole = on.whole ∙ ap (λ z. spelled_run form on.events ++ z) (one.first ∙ ap (λ z. z ++ behind) (sym (append-nil (spelled form one.event)))) ∙ run_append form on.events (one.event ∷ []) behind;
      printed = listed_push (IsPrintedOf chosen) on.events one.event lines one.text new on.printed one.printed one.lines_are;
    }

-- no more bytes are behind them than there are
pub held_fits : (form : Form) (chosen : Chosen) (bytes rest lines : List ℕ) → HeldOn form chosen bytes rest lines → length rest ≤ length bytes
held_fits form chosen bytes rest lines on = omega (arith, ap length on.whole, length-append (spelled_run form on.events) rest)

-- their lines end one
pub held_lines : (form : Form) (chosen : Chosen) (bytes rest lines new : List ℕ) → HeldOn form chosen bytes rest lines → new ≡ lines → EndsALine new
held_lines form chosen bytes rest lines new on same = subst EndsALine (sym same) (printed_ends chosen on.events lines on.printed)

-- no event more
pub held_end : (form : Form) (chosen : Chosen) (bytes rest lines new : List ℕ) (used : ℕ) → HeldOn form chosen bytes rest lines → BeginsNo form rest → new ≡ lines → used ≡ length bytes - length rest
    → PrintsAll form chosen bytes new (drop used bytes)
held_end form chosen bytes rest lines new used on none same is =
    let run = spelled_run form on.events in
    let n : used ≡ length run = omega (arith, is, ap length on.whole, length-append run rest) in
    let behind : drop used bytes ≡ rest = ap (λ k. drop k bytes) n ∙ ap (drop (length run)) on.whole ∙ drop-append_seam run rest in
    record {
      events = on.events;
      each = on.each;
      whole = on.whole ∙ ap (λ z. run ++ z) (sym behind);
      torn = subst (BeginsNo form) (sym behind) none;
      printed = subst (ArePrinted chosen on.events) (sym same) on.printed;
    }

-- what was taken where something is behind it
pub some_taken : (form : Form) (chosen : Chosen) (bytes before lines : List ℕ) (taken : Option (Bor (List ℕ))) (behind : Bor (List ℕ)) → taken ≡ Some behind → TakesFirst form chosen bytes taken before lines
    → PrintsFirst form chosen bytes behind.now before lines
some_taken form chosen bytes before lines taken behind is takes = subst (λ t. TakesFirst form chosen bytes t before lines) is takes

-- and where nothing is
pub none_taken : (form : Form) (chosen : Chosen) (bytes before lines : List ℕ) (taken : Option (Bor (List ℕ))) → taken ≡ None → TakesFirst form chosen bytes taken before lines
    → BeginsNo form bytes × (lines ≡ before)
none_taken form chosen bytes before lines taken is takes = subst (λ t. TakesFirst form chosen bytes t before lines) is takes

-- fewer bytes are left
pub fewer_left : (form : Form) (chosen : Chosen) (rest behind lines new : List ℕ) → PrintsFirst form chosen rest behind lines new → length behind < length rest
fewer_left form chosen rest behind lines new one = fewer_behind form one.event rest behind one.is one.first
