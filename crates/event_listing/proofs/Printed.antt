-- What is printed of an event, and of events.
use Rattle.std.proofs.Common.{ℤ, ◌≡◌, List, ℕ, [], ◌∷◌, ◌++◌, inl, inr, refl, sym, subst}
use Rattle.std.specs.List.{AllZip, concat}
use Rattle.event_listing.specs.Events.{IsEventLine, IsTimeOf}
use Rattle.recent_lines.specs.Lines.{EndsALine}
use Rattle.recent_lines.proofs.Kept.{ends_append}
use Rattle.sink_series.specs.Events.{Event}
use Rattle.event_listing.specs.Choices.{Chosen, IsChosen}
use Rattle.event_listing.specs.Lines.{ArePrinted, IsPrintedOf, Line, Nothing}

-- it is chosen: its line
pub line_of : (chosen : Chosen) (tag entry : List ℕ) (nanos asked : ℤ) (line : List ℕ) → IsTimeOf entry nanos → asked ≡ nanos → IsChosen chosen tag asked → IsEventLine tag entry line
    → IsPrintedOf chosen (record { tag = tag; entry = entry }) line
line_of chosen tag entry nanos asked line time same is printed = Line nanos time (subst (λ n. IsChosen chosen tag n) same is) printed

-- it isn't: nothing
pub none_of_it : (chosen : Chosen) (tag entry : List ℕ) (nanos asked : ℤ) → IsTimeOf entry nanos → asked ≡ nanos → (IsChosen chosen tag asked → ⊥) → IsPrintedOf chosen (record { tag = tag; entry = entry }) []
none_of_it chosen tag entry nanos asked time same not = Nothing nanos time (λ is. not (subst (λ n. IsChosen chosen tag n) (sym same) is)) refl

-- ---- it ends a line

ends_with : (text front : List ℕ) → text ≡ front ++ 10 ∷ [] → EndsALine text
ends_with text front is = inr (front, is)

one_ends : (chosen : Chosen) (event : Event) (text : List ℕ) → IsPrintedOf chosen event text → EndsALine text
one_ends chosen event text (Line nanos time is line) = ends_with text _ line.line_is
one_ends chosen event text (Nothing nanos time not none) = inl none

each_ends : (chosen : Chosen) (events : List Event) (texts : List (List ℕ)) → AllZip (IsPrintedOf chosen) events texts → EndsALine (concat texts)
each_ends chosen [] [] each = inl refl
each_ends chosen [] (text ∷ texts) each = absurd each
each_ends chosen (event ∷ events) [] each = absurd each
each_ends chosen (event ∷ events) (text ∷ texts) each = ends_append text (concat texts) (one_ends chosen event text each.0) (each_ends chosen events texts each.1)

-- so do the lines of events
pub printed_ends : (chosen : Chosen) (events : List Event) (text : List ℕ) → ArePrinted chosen events text → EndsALine text
printed_ends chosen events text printed = subst EndsALine (sym printed.text_is) (each_ends chosen events printed.listings printed.each)
