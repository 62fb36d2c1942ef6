-- A hex text has one listing.
use Rattle.std.proofs.Common.{◌≡◌, inl, inr, ℕ, List, [], ◌++◌, codes, decimal, length, cond, ◌==◌, refl, sym, ap, ◌∙◌, subst, append-nil}
use Rattle.std.specs.List.{flat_map}
use Rattle.event_modes.specs.declared.fault.ModeFault.{ModeFault}
use Rattle.event_modes.specs.Stream.{Arrival, Splits, IsRest}
use Rattle.event_modes.specs.Faults.{StreamFault}
use Rattle.event_modes.specs.Printed.{code_of}
use Rattle.event_modes.proofs.One.{reads_one_way}
use Rattle.event_modes.proofs.Only.{stream_one}
use Rattle.program_text.specs.Lines.{line}
use Rattle.program_text.specs.declared.status.Status.{Status}
use Rattle.program_text.specs.declared.status.Status.TheVariants.{No}
use Rattle.stream_listing.specs.HexText.{digits_of, AreDigitsUpTo}
use Rattle.stream_listing.proofs.HexPairs.{none_wrong}
use Rattle.stream_listing.specs.Listing.{arrival_lines, IsPending, Ends, at_end, at_fault, at_bad_hex, IsListingBy}
use Rattle.stream_listing.specs.Laws.{HasOneListing}
use Rattle.stream_listing.proofs.FaultLaws.{fault_rest, fault_not_pending, fault_stays}
use Rattle.stream_listing.proofs.ArrivalSteps.{Splits-more}
use Rattle.stream_listing.proofs.HexReadings.{GoesOn, compare, ends_here}

pending_rest : (bytes : List ℕ) → IsPending bytes → IsRest bytes
pending_rest bytes (inl none) = inl none
pending_rest bytes (inr begun) = inr (inl begun)

-- two ways to split the same bytes
abbrev SameEnd : List Arrival → List ℕ → List Arrival → List ℕ → Type 0
SameEnd arrivals held others rest = (arrivals ≡ others) × (held ≡ rest)

same_split : (bytes : List ℕ) (arrivals others : List Arrival) (held rest : List ℕ) → Splits bytes arrivals held → Splits bytes others rest
    → IsRest held → IsRest rest → SameEnd arrivals held others rest
same_split bytes arrivals others held rest h k p q =
    reads_one_way bytes arrivals others held rest (record { splits = h; ends = p }) (record { splits = k; ends = q })

-- two readings that came to the same
abbrev IsSame : (arrivals others : List Arrival) (last other_last : List ℕ) (status other : Status) → Type 0
IsSame arrivals others last other_last status other = (arrivals ≡ others) × (last ≡ other_last) × (status ≡ other)

-- where one way to split bytes leaves nothing or a beginning, none leaves a fault
no_fault : (bytes held rest : List ℕ) (arrivals others : List Arrival) (fault : ModeFault) → Splits bytes arrivals held → Splits bytes others rest
    → IsPending held → StreamFault rest fault → ⊥
no_fault bytes held rest arrivals others fault h k p q =
    let s = same_split bytes arrivals others held rest h k (pending_rest held p) (fault_rest rest fault q) in
    fault_not_pending rest fault q (subst IsPending s.1 p)

-- a fault, and another end of the same bytes
fault_met : (bytes held left rest : List ℕ) {last : List ℕ} {status : Status} (arrivals others : List Arrival) (fault : ModeFault)
    → Splits bytes arrivals held → StreamFault held fault → Splits bytes others rest → Ends left rest last status
    → IsSame arrivals others (line (codes "fault " ++ code_of fault)) last No status
fault_met bytes held left rest arrivals others fault h p k (at_end whole q) = absurd (no_fault bytes rest held others arrivals fault k h q p)
fault_met bytes held left rest arrivals others fault h p k (at_fault other q) =
    let s = same_split bytes arrivals others held rest h k (fault_rest held fault p) (fault_rest rest other q) in
    (s.0, ap (λ f. line (codes "fault " ++ code_of f)) (stream_one held fault other p (subst (λ b. StreamFault b other) (sym s.1) q)), refl)
fault_met bytes held left rest arrivals others fault h p k (at_bad_hex broken q) = absurd (no_fault bytes rest held others arrivals fault k h q p)

-- an end that was met where the digits go on no more
met : (bytes left held others_left rest : List ℕ) {last other_last : List ℕ} {status other : Status} (arrivals others : List Arrival)
    → Splits bytes arrivals held → Splits bytes others rest → left ≡ others_left → Ends left held last status → Ends others_left rest other_last other
    → IsSame arrivals others last other_last status other
met bytes left held others_left rest arrivals others h k same (at_end whole p) (at_end other_whole q) =
    let s = same_split bytes arrivals others held rest h k (pending_rest held p) (pending_rest rest q) in
    (s.0, ap (λ (b : List ℕ). cond (length b == 0) [] (line (codes "rest " ++ decimal (length b)))) s.1, refl)
met bytes left held others_left rest arrivals others h k same (at_end whole p) (at_fault fault q) = absurd (no_fault bytes held rest arrivals others fault h k p q)
met bytes left held others_left rest arrivals others h k same (at_end whole p) (at_bad_hex broken q) = absurd (none_wrong others_left (sym same ∙ whole) broken)
met bytes left held others_left rest arrivals others h k same (at_fault fault p) ended = fault_met bytes held others_left rest arrivals others fault h p k ended
met bytes left held others_left rest arrivals others h k same (at_bad_hex broken p) (at_end whole q) = absurd (none_wrong left (same ∙ whole) broken)
met bytes left held others_left rest arrivals others h k same (at_bad_hex broken p) (at_fault fault q) = absurd (no_fault bytes held rest arrivals others fault h k p q)
met bytes left held others_left rest arrivals others h k same (at_bad_hex broken p) (at_bad_hex other_broken q) =
    let s = same_split bytes arrivals others held rest h k (pending_rest held p) (pending_rest rest q) in
    (s.0, refl, refl)

-- one reading, and another that goes on where it ended
one_goes_on : (bytes left held others_bytes others_left rest : List ℕ) {last other_last : List ℕ} {status other : Status} (arrivals others : List Arrival)
    → Splits bytes arrivals held → Splits others_bytes others rest → GoesOn bytes left others_bytes others_left
    → Ends left held last status → Ends others_left rest other_last other → IsSame arrivals others last other_last status other
one_goes_on bytes left held others_bytes others_left rest arrivals others h k on (at_end whole p) ended =
    let e = ends_here bytes left others_bytes others_left (inl whole) on in
    met bytes left held others_left rest arrivals others h (subst (λ b. Splits b others rest) (e.0 ∙ append-nil bytes) k) (sym e.1) (at_end whole p) ended
one_goes_on bytes left held others_bytes others_left rest arrivals others h k on (at_fault fault p) ended =
    fault_met (bytes ++ on.0) (held ++ on.0) others_left rest arrivals others fault (Splits-more bytes held on.0 arrivals h) (fault_stays held on.0 fault p)
    (subst (λ b. Splits b others rest) on.1 k) ended
one_goes_on bytes left held others_bytes others_left rest arrivals others h k on (at_bad_hex broken p) ended =
    let e = ends_here bytes left others_bytes others_left (inr broken) on in
    met bytes left held others_left rest arrivals others h (subst (λ b. Splits b others rest) (e.0 ∙ append-nil bytes) k) (sym e.1) (at_bad_hex broken p) ended

one_reading : (text : List ℕ) (status other : Status) (written lines : List ℕ) (h : IsListingBy Ends text status written) (k : IsListingBy Ends text other lines)
    → IsSame h.arrivals k.arrivals h.last k.last status other
one_reading text status other written lines h k =
    let one : AreDigitsUpTo (digits_of text) h.bytes h.left = record { front = h.front; spelled = h.spelled; whole = h.digits } in
    let two : AreDigitsUpTo (digits_of text) k.bytes k.left = record { front = k.front; spelled = k.spelled; whole = k.digits } in
    elim (compare (digits_of text) h.bytes k.bytes h.left k.left one two) [
      | inl on ↦ one_goes_on h.bytes h.left h.held k.bytes k.left k.held h.arrivals k.arrivals h.splits k.splits on h.ends k.ends
      | inr on ↦
          let s = one_goes_on k.bytes k.left k.held h.bytes h.left h.held k.arrivals h.arrivals k.splits h.splits on k.ends h.ends in
          (sym s.0, sym s.1, sym s.2)
    ]

pub one_listing : HasOneListing
one_listing text status other written lines h k =
    let s = one_reading text status other written lines h k in
    (s.2, h.lines_are ∙ ap (λ a. flat_map arrival_lines a ++ h.last) s.0 ∙ ap (λ l. flat_map arrival_lines k.arrivals ++ l) s.1 ∙ sym k.lines_are)
