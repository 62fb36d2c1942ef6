-- Steps over what comes on a stream.
use Rattle.std.proofs.Common.{◌≡◌, ℕ, List, [], ◌∷◌, ◌++◌, refl, sym, ap, ◌∙◌, subst, append_assoc, append-nil}
use Rattle.std.proofs.Common.{Err}
use Rattle.std.specs.List.{flat_map}
use Rattle.std.proofs.lemmas.Grind.{flat_map-append}
use Rattle.event_modes.specs.Stream.{Arrival, IsArrival, Splits}
use Rattle.event_modes.specs.Feeding.{Feeding, TakesOff}
use Rattle.stream_listing.specs.HexText.{digits_of}
use Rattle.stream_listing.specs.Listing.{arrival_lines}
use Rattle.stream_listing.specs.declared.decode.Stop.TheVariants.{Memory}
use Rattle.stream_listing.specs.Decoding.{Lists}
use Rattle.stream_listing.proofs.HexSteps.{AreDigitsUpTo-none}

-- what is split on begins with what was left over
pub Splits-trans : (bytes held rest : List ℕ) (arrivals more : List Arrival) → Splits bytes arrivals held → Splits held more rest
    → Splits bytes (arrivals ++ more) rest
Splits-trans bytes held rest [] more h k = subst (λ b. Splits b more rest) (sym h) k
Splits-trans bytes held rest (a ∷ arrivals) more h k =
    (h.0, h.1, h.2, Splits-trans h.1 held rest arrivals more h.3 k, h.4)

-- what follows is left over too
pub Splits-more : (bytes held more : List ℕ) (arrivals : List Arrival) → Splits bytes arrivals held → Splits (bytes ++ more) arrivals (held ++ more)
Splits-more bytes held more [] h = ap (λ b. b ++ more) h
Splits-more bytes held more (a ∷ arrivals) h =
    (h.0, h.1 ++ more, h.2, Splits-more h.1 held more arrivals h.3, ap (λ b. b ++ more) h.4 ∙ append_assoc h.0 h.1 more)

-- one arrival
pub Splits-one : (bytes front rest : List ℕ) (arrival : Arrival) → IsArrival front arrival → bytes ≡ front ++ rest → Splits bytes (arrival ∷ []) rest
Splits-one bytes front rest arrival h e = (front, rest, h, refl, e)

-- the lines of one arrival more
lines-push : (arrivals : List Arrival) (arrival : Arrival) → flat_map arrival_lines (arrivals ++ arrival ∷ []) ≡ flat_map arrival_lines arrivals ++ arrival_lines arrival
lines-push arrivals arrival =
    flat_map-append arrival_lines arrivals (arrival ∷ []) ∙ ap (λ l. flat_map arrival_lines arrivals ++ l) (append-nil (arrival_lines arrival))

-- of the bytes that were fed these are held still, and the lines of what was taken off stand behind
-- those at the start
pub record Listed (fed held start lines : List ℕ) : Type 0 where
  pub arrivals : List Arrival
  pub splits : Splits fed arrivals held
  pub whole : lines ≡ start ++ flat_map arrival_lines arrivals

pub Listed-none : (fed start : List ℕ) → Listed fed fed start start
Listed-none fed start = record { arrivals = []; splits = refl; whole = sym (append-nil start) }

-- one arrival more is taken off, and its lines are added
pub Listed-taken : (fed start before after : List ℕ) (arrival : Arrival) (old new : Feeding) → Listed fed old.held start before
    → TakesOff old arrival new → after ≡ before ++ arrival_lines arrival → Listed fed new.held start after
Listed-taken fed start before after arrival old new h k e = record {
  arrivals = h.arrivals ++ arrival ∷ [];
  splits = Splits-trans fed old.held new.held h.arrivals (arrival ∷ []) h.splits (Splits-one old.held k.front new.held arrival k.is k.whole);
  whole = e ∙ ap (λ l. l ++ arrival_lines arrival) h.whole ∙ append_assoc start (flat_map arrival_lines h.arrivals) (arrival_lines arrival)
      ∙ ap (λ l. start ++ l) (sym (lines-push h.arrivals arrival));
}

-- nothing came of the piece
pub Lists-none : (hex : List ℕ) (feed : Feeding) (piece lines : List ℕ) (hex' : List ℕ) (feed' : Feeding) → lines ≡ []
    → Lists hex feed piece lines (Err Memory) hex' feed'
Lists-none hex feed piece lines hex' feed' e = record {
  arrivals = [];
  left = hex ++ digits_of piece;
  held = feed.held;
  reads = record { bytes = []; read = AreDigitsUpTo-none (hex ++ digits_of piece); splits = append-nil feed.held };
  whole = e;
  after = tt;
}
