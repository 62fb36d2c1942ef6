-- The steps of a decoder, between two pieces of its text.
use Rattle.std.specs.Prelude.{◌≡◌, ◌⊎◌, ℕ, List, [], ◌++◌, codes, decimal, take, length, Option, None, Result, MatchResult, IsErr, cond, ◌==◌}
use Rattle.std.specs.List.{flat_map}
use Rattle.hex.specs.Hex.{decode_of}
use Rattle.event_modes.specs.Stream.{Arrival, Splits}
use Rattle.event_modes.specs.Faults.{StreamFault}
use Rattle.event_modes.specs.Feeding.{Feeding}
use Rattle.event_modes.specs.Printed.{code_of}
use Rattle.program_text.specs.declared.status.Status.{Status}
use Rattle.program_text.specs.declared.status.Status.TheVariants.{Done, No, Usage}
use Rattle.stream_listing.specs.declared.decode.Stop.{Stop}
use Rattle.stream_listing.specs.declared.decode.Stop.TheVariants.{Hex, Stream, Memory, Read}
use Rattle.stream_listing.specs.HexText.{digits_of, AreDigitsUpTo}
use Rattle.program_text.specs.Lines.{line, memory_line, read_line}
use Rattle.stream_listing.specs.Listing.{arrival_lines, IsPending}
use Rattle.program_text.specs.Output.{IsPrinted}

-- what is left over is what the decoder holds back
pub record IsHeld (left held hex : List ℕ) (feed : Feeding) : Type 0 where
  pub digits : left ≡ hex
  pub bytes : held ≡ feed.held
  pub sound : feed.fault ≡ None
  pub pending : IsPending held

-- why nothing more is read, where these digits and bytes are left over
abbrev pub StopsAt : Stop → List ℕ → List ℕ → Type 0
StopsAt Hex left held = ((more : List ℕ) → IsErr (decode_of (take 2 (left ++ more)))) × IsPending held
StopsAt (Stream fault) left held = StreamFault held fault
StopsAt Memory left held = Unit {0}
StopsAt Read left held = Unit {0}

-- from a digit and bytes that were held back, reading on over these digits gives these arrivals,
-- and holds back the new ones
pub record ReadsOn (left held digits : List ℕ) (arrivals : List Arrival)
    (left' held' : List ℕ) : Type 0 where
  pub bytes : List ℕ
  pub read : AreDigitsUpTo (left ++ digits) bytes left'
  pub splits : Splits (held ++ bytes) arrivals held'

-- a piece of the text made these lines
pub record Lists (hex : List ℕ) (feed : Feeding) (piece lines : List ℕ)
    (result : Result (Unit {0}) Stop) (hex' : List ℕ) (feed' : Feeding) : Type 0 where
  pub arrivals : List Arrival
  pub left : List ℕ
  pub held : List ℕ
  pub reads : ReadsOn hex feed.held (digits_of piece) arrivals left held
  pub whole : lines ≡ flat_map arrival_lines arrivals
  pub after : MatchResult result (λ _. IsHeld left held hex' feed') (λ stop. StopsAt stop left held)

-- the last line after a stop, and the status that it means; where there is no memory for a fault's
-- line, that is said
abbrev pub IsLast : Stop → List ℕ → Status → Type 0
IsLast Hex last meant = (last ≡ line (codes "fault hex")) × (meant ≡ Usage)
IsLast (Stream fault) last meant =
    ((last ≡ line (codes "fault " ++ code_of fault)) × (meant ≡ No))
    ⊎ ((last ≡ memory_line) × (meant ≡ Usage))
IsLast Memory last meant = (last ≡ memory_line) × (meant ≡ Usage)
IsLast Read last meant = (last ≡ read_line) × (meant ≡ Usage)

-- the last line at the end of the text, and the status that it means
abbrev pub IsLastAtEnd : List ℕ → List ℕ → List ℕ → Status → Type 0
IsLastAtEnd hex held last meant =
    ((hex ≡ [])
    × (last ≡ cond (length held == 0) [] (line (codes "rest " ++ decimal (length held))))
    × (meant ≡ Done))
    ⊎ ((IsErr (decode_of (take 2 hex)) × (last ≡ line (codes "fault hex")) × (meant ≡ Usage))
    ⊎ ((last ≡ memory_line) × (meant ≡ Usage)))

-- a last line of this kind is printed
pub record PrintsLast (Says : List ℕ → Status → Type 0) (old new : Option (List ℕ))
    (status : Status) : Type 0 where
  pub last : List ℕ
  pub meant : Status
  pub is_last : Says last meant
  pub printed : IsPrinted old new last meant status
