-- What is printed of messages on their way.
use Rattle.std.specs.Prelude.{◌≡◌, ◌<◌, ◌≤◌, ◌⊎◌, ℕ, List, [], ◌∷◌, ◌++◌, codes, decimal, length, string_bytes, Any, Bool, true, false, Option, Some, None, slice_get}
use Rattle.std.specs.List.{flat_map}
use Rattle.std.specs.Option.{option_map_or}
use Rattle.loss_rules.specs.Breaks.{Subject}
use Rattle.program_text.specs.Plans.{IsPlanRead, IsPlanStop, PrintsPlanStop}
use Rattle.program_text.specs.declared.plan_text.PlanStop.{PlanStop}
use Rattle.program_text.specs.Lines.{line, memory_line}
use Rattle.program_text.specs.Listings.{AreListed}
use Rattle.program_text.specs.Output.{IsPrinted}
use Rattle.program_text.specs.declared.status.Status.{Status}
use Rattle.program_text.specs.declared.status.Status.TheVariants.{Done, Usage}
use Rattle.relay_conf.specs.declared.output.Output.{Output}
use Rattle.relay_conf.specs.declared.output.Output.TheVariants as output
use Rattle.relay_net.specs.Network.{Network, entrance, output_at, tag_at}
use Rattle.relay_net.specs.Ways.{table_at}
use Rattle.relay_net.specs.declared.address.Entrance.{Entrance}
use Rattle.route_graph.specs.Listing.{IsWay, numbers_of}
use Rattle.route_graph.specs.declared.way.Way.{Way}
use Rattle.route_graph.specs.declared.way.Way.TheVariants.{Leaves, Loop}
use Rattle.way_listing.specs.Outputs.{output_text}
use Rattle.tag_pattern.specs.Parts.{most_tag_bytes}
use Rattle.way_listing.specs.Sendings.{Sending, AreOnTheirWay, Adds, IsOfClient}

-- the line of an output in its configuration
abbrev pub line_of : {A : Type 0} → Output A → ℕ
line_of (output.Null line) = line
line_of (output.Relabel target line) = line
line_of (output.Forward settings line) = line
line_of (output.File settings line) = line

-- an output: ` line`, its line, and what it is
abbrev pub numbered_text : {A : Type 0} → Output A → List ℕ
numbered_text output = codes " line " ++ decimal (line_of output) ++ output_text output

-- the output of this buffer of the relay at this place
abbrev pub buffer_text : {A : Type 0} → Network A → ℕ → ℕ → List ℕ
buffer_text net place buffer = option_map_or numbered_text (output_at net place buffer) []

-- these, in their order; ` nowhere` where there are none
abbrev pub buffers_text : {A : Type 0} → Network A → ℕ → List ℕ → List ℕ
buffers_text net place [] = codes " nowhere"
buffers_text net place (buffer ∷ buffers) = flat_map (buffer_text net place) (buffer ∷ buffers)

-- a way in the relay at this place: the outputs in the order first reached, or ` loop`
abbrev pub way_text : {A B : Type 0} → Network A → ℕ → Way B → List ℕ
way_text net place (Leaves buffers) = buffers_text net place (numbers_of buffers.items)
way_text net place Loop = codes " loop"

-- The events bear this tag, of at most 1,024 bytes, in the relay, they go this way there, and this
-- is the text of both.
pub record IsWayText {A : Type 0} (net : Network A) (at : Entrance)
    (tag text : List ℕ) : Type 0 where
  pub short : length tag ≤ most_tag_bytes
  pub way : Way A
  pub is_way : IsWay (table_at net at.relay) tag at.scope way
  pub text_is : text ≡ codes " " ++ tag ++ way_text net at.relay way

-- what stands behind the relay's folder: the tag that the events of the message bear there, with
-- its way, or that it is too long for one
abbrev pub IsBehind : {A : Type 0} → Network A → Entrance → (borne text : List ℕ) → Type 0
IsBehind net at borne text = ((most_tag_bytes < length borne) × (text ≡ codes " is no tag"))
    ⊎ IsWayText net at borne text

-- the folder of the relay at this place
abbrev pub folder_at : {A : Type 0} → Subject A → ℕ → List ℕ
folder_at plan place = option_map_or (λ line. string_bytes line.folder)
    (slice_get plan.relay_lines place) []

-- A message comes in at a relay, and this is said of it: the relay's folder, and what stands behind
-- it.
pub record ComesIn {A : Type 0} (plan : Subject A) (sent : Sending) (text : List ℕ) : Type 0 where
  pub at : Entrance
  pub enters : entrance plan.net sent.address ≡ Some at
  pub behind : List ℕ
  pub is_behind : IsBehind plan.net at (tag_at plan.net sent.address sent.tag) behind
  pub text_is : text ≡ codes " " ++ folder_at plan at.relay ++ behind

-- it comes in, or it is sent to no source of the plan
abbrev pub IsSaid : {A : Type 0} → Subject A → Sending → List ℕ → Type 0
IsSaid plan sent text = ComesIn plan sent text
    ⊎ ((entrance plan.net sent.address ≡ None) × (text ≡ codes " is no source of the plan"))

-- the line of a message: host and port that it is sent to, its tag, and what is said of it
pub record IsSentLine {A : Type 0} (plan : Subject A) (sent : Sending)
    (text : List ℕ) : Type 0 where
  pub said : List ℕ
  pub is_said : IsSaid plan sent said
  pub text_is : text
      ≡ line (sent.address.host ++ (codes ":" ++ decimal sent.address.port ++ codes " ") ++ sent.tag
      ++ said)

-- the line of a tag that none of these messages has; of another nothing
abbrev pub IsUnsentLine : List Sending → List ℕ → List ℕ → Type 0
IsUnsentLine starts tag text =
    ((Any (λ one. one.tag ≡ tag) starts → ⊥)
    × (text ≡ line (codes "# no client of the plan sends " ++ tag)))
    ⊎ (Any (λ one. one.tag ≡ tag) starts × (text ≡ []))

-- the last line, where more messages are on their way than are listed
abbrev pub last_note : Bool → List ℕ
last_note true = []
last_note false = line (codes "# what follows isn't listed")

-- The messages with these tags that the plan's clients send, and those on the way from them, have a
-- line each, and behind these each of the tags that no client sends; a last line says so where
-- there are more messages.
pub record AreWays {A : Type 0} (plan : Subject A) (tags : List (List ℕ))
    (lines : List ℕ) : Type 0 where
  pub starts : List Sending
  pub start : Adds (IsOfClient plan.net tags) [] starts
  pub sent : List Sending
  pub are_all : Bool
  pub on_way : AreOnTheirWay plan.net starts sent are_all
  pub listed : List ℕ
  pub are_listed : AreListed (IsSentLine plan) sent listed
  pub unsent : List ℕ
  pub are_unsent : AreListed (IsUnsentLine starts) tags unsent
  pub lines_are : lines ≡ listed ++ unsent ++ last_note are_all

-- The plan is read, and the ways of these tags are printed.
pub record PrintsListing (A : Type 0) (net : Option (List ℕ)) (named : List ℕ → Option (List ℕ))
    (tags : List (List ℕ)) (old new : Option (List ℕ)) (status : Status) : Type 0 where
  pub plan : Subject A
  pub is_read : IsPlanRead net named plan
  pub lines : List ℕ
  pub ways : AreWays plan tags lines
  pub printed : IsPrinted old new lines Done status

-- No plan is read, and why is printed.
pub record PrintsNoPlan (A : Type 0) (net : Option (List ℕ)) (named : List ℕ → Option (List ℕ))
    (old new : Option (List ℕ)) (status : Status) : Type 0 where
  pub stopped : PlanStop
  pub is_stop : IsPlanStop A net named stopped
  pub printed : PrintsPlanStop stopped old new status

-- all that `ways` does to a writer with a plan, and its status: the ways, or why no plan is read,
-- or that memory ran out
abbrev pub PrintsPlanWays : (A : Type 0) → Option (List ℕ) → (List ℕ → Option (List ℕ))
    → List (List ℕ) → (old new : Option (List ℕ)) → Status → Type 0
PrintsPlanWays A net named tags old new status = PrintsListing A net named tags old new status
    ⊎ (PrintsNoPlan A net named old new status ⊎ IsPrinted old new memory_line Usage status)
