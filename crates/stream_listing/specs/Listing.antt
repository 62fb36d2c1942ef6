-- What is printed for the messages of a stream.
use Rattle.std.specs.Prelude.{◌≡◌, ℕ, ◌⊎◌, List, [], ◌++◌, codes, decimal, take, length, Option, cond, ◌==◌, Ok, IsErr}
use Rattle.std.specs.List.{flat_map}
use Rattle.std.specs.Option.{option_map_or}
use Rattle.hex.specs.Hex.{encode_lower, decode_of}
use Rattle.msgpack_bytes.specs.Item.{IsOpen}
use Rattle.event_modes.specs.declared.fault.ModeFault.{ModeFault}
use Rattle.event_modes.specs.Acknowledgement.{acknowledgement_of}
use Rattle.event_modes.specs.Stream.{Arrival, Sent, Heartbeat, Splits}
use Rattle.event_modes.specs.Faults.{StreamFault}
use Rattle.event_modes.specs.Printed.{code_of}
use Rattle.program_text.specs.declared.status.Status.{Status}
use Rattle.program_text.specs.declared.status.Status.TheVariants.{Done, No, Usage}
use Rattle.stream_listing.specs.HexText.{digits_of}
use Rattle.program_text.specs.Lines.{line, memory_line, read_line}
use Rattle.program_text.specs.Output.{IsPrinted}
use Rattle.program_text.specs.Texts.{IsTextOf}

-- the first line of a message: its tag in hex, or a dash for the empty tag, and how many entries it
-- has
abbrev pub message_line : List ℕ → ℕ → List ℕ
message_line tag count =
    line (codes "message " ++ cond (length tag == 0) (codes "-") (encode_lower tag) ++ codes " "
    ++ decimal count)

-- the line of an entry, as it is stored
abbrev pub entry_line : List ℕ → List ℕ
entry_line entry = line (codes "entry " ++ encode_lower entry)

-- the line of the acknowledgement that the sender asks for, if it does
abbrev pub answer_lines : Option (List ℕ) → List ℕ
answer_lines asked =
    option_map_or (λ item. line (codes "answer " ++ encode_lower (acknowledgement_of item))) asked []

-- the lines of what came
abbrev pub arrival_lines : Arrival → List ℕ
arrival_lines (Sent parts) =
    message_line parts.tag (length parts.entries) ++ flat_map entry_line parts.entries
    ++ answer_lines parts.ack
arrival_lines Heartbeat = line (codes "heartbeat")

-- nothing, or the beginning of an item
abbrev pub IsPending : List ℕ → Type 0
IsPending held = (held ≡ []) ⊎ IsOpen held

-- How a listing ends where these digits and bytes of its text are left over: the last line, which a
-- text without a rest has not, and the status that it means. The text is at its end, or the bytes
-- begin no message, whatever follows, or no byte in hex stands next: one of its two digits is none,
-- or the second is missing.
pub data Ends (left held : List ℕ) : List ℕ → Status → Type 0 where
  at_end : left ≡ [] → IsPending held
      → Ends left held
      (cond (length held == 0) [] (line (codes "rest " ++ decimal (length held)))) Done
  at_fault : (fault : ModeFault) → StreamFault held fault
      → Ends left held (line (codes "fault " ++ code_of fault)) No
  at_bad_hex : IsErr (decode_of (take 2 left)) → IsPending held
      → Ends left held (line (codes "fault hex")) Usage

-- memory or the reader cut a listing short, at any place: the last line says so
abbrev pub IsCut : (left held last : List ℕ) → Status → Type 0
IsCut left held last status = ((last ≡ memory_line) ⊎ (last ≡ read_line)) × (status ≡ Usage)

-- A listing of a text. Its digits are the hex of bytes, as far as what is left over; the bytes are
-- what came, one after another, as far as what is held back; and the lines are those of what came,
-- none left out or written twice, and a last one, with which it ends so.
pub record IsListingBy (EndsSo : (left held last : List ℕ) → Status → Type 0)
    (text : List ℕ) (status : Status) (lines : List ℕ) : Type 0 where
  pub front : List ℕ
  pub left : List ℕ
  pub digits : digits_of text ≡ front ++ left
  pub bytes : List ℕ
  pub spelled : decode_of front ≡ Ok bytes
  pub arrivals : List Arrival
  pub held : List ℕ
  pub splits : Splits bytes arrivals held
  pub last : List ℕ
  pub ends : EndsSo left held last status
  pub lines_are : lines ≡ flat_map arrival_lines arrivals ++ last

-- all that `decode` does to a writer, and its status: the listing of its text, whole or cut short
pub record PrintsListing (input old new : Option (List ℕ)) (status : Status) : Type 0 where
  pub text : List ℕ
  pub text_is : IsTextOf input text
  pub lines : List ℕ
  pub meant : Status
  pub listed : IsListingBy Ends text meant lines ⊎ IsListingBy IsCut text meant lines
  pub printed : IsPrinted old new lines meant status

-- what was in front is there still
abbrev pub KeepsFront : List ℕ → List ℕ → Type 0
KeepsFront old new = take (length old) new ≡ old
