-- What is printed of tags that come to the sources of a relay.
use Rattle.std.specs.Prelude.{◌≡◌, ◌<◌, ◌≤◌, ◌⊎◌, ℕ, List, [], ◌∷◌, ◌++◌, codes, decimal, length, Option}
use Rattle.std.specs.List.{flat_map}
use Rattle.program_text.specs.Lines.{line, memory_line}
use Rattle.program_text.specs.Listings.{AreListed}
use Rattle.program_text.specs.Output.{IsPrinted}
use Rattle.program_text.specs.declared.status.Status.{Status}
use Rattle.program_text.specs.declared.status.Status.TheVariants.{Done, Usage}
use Rattle.relay_conf.specs.declared.relay.Relay.{Relay}
use Rattle.relay_conf.specs.declared.relay.Source.{Source}
use Rattle.program_text.specs.Stops.{IsRelayRead, PrintsNoRelay}
use Rattle.route_graph.specs.Listing.{IsWay, numbers_of}
use Rattle.route_graph.specs.Table.{table_of}
use Rattle.route_graph.specs.declared.way.Way.{Way}
use Rattle.route_graph.specs.declared.way.Way.TheVariants.{Leaves, Loop}
use Rattle.way_listing.specs.Outputs.{buffer_text}
use Rattle.tag_pattern.specs.Prefixes.{entered_tag}
use Rattle.tag_pattern.specs.Parts.{most_tag_bytes}

-- the outputs that have these buffers, in their order; ` nowhere` where there are none
abbrev pub outputs_text : {A : Type 0} → Relay A → List ℕ → List ℕ
outputs_text relay [] = codes " nowhere"
outputs_text relay (buffer ∷ buffers) = flat_map (buffer_text relay) (buffer ∷ buffers)

-- a way: the outputs in the order first reached, or ` loop`
abbrev pub way_text : {A B : Type 0} → Relay A → Way B → List ℕ
way_text relay (Leaves buffers) = outputs_text relay (numbers_of buffers.items)
way_text relay Loop = codes " loop"

-- a tag of at most 1,024 bytes goes its way from the source's scope, and this is the text of that
-- way
pub record IsWayText {A : Type 0} (relay : Relay A) (scope : ℕ) (tag text : List ℕ) : Type 0 where
  pub short : length tag ≤ most_tag_bytes
  pub way : Way A
  pub is_way : IsWay (table_of relay) tag scope way
  pub text_is : text ≡ way_text relay way

-- what stands behind a tag: the way of the tag that it is behind the source, or that this is too
-- long for one
abbrev pub IsBehindTag : {A : Type 0} → Relay A → Source A → List ℕ → List ℕ → Type 0
IsBehindTag relay source tag text =
    ((most_tag_bytes < length (entered_tag source.prefix tag)) × (text ≡ codes " is no tag"))
    ⊎ IsWayText relay source.label.0 (entered_tag source.prefix tag) text

-- the line of a tag at a source: the source's port, the tag, and what stands behind it
pub record IsWayLine {A : Type 0} (relay : Relay A) (source : Source A)
    (tag text : List ℕ) : Type 0 where
  pub behind : List ℕ
  pub is_behind : IsBehindTag relay source tag behind
  pub text_is : text ≡ line (decimal source.port ++ codes " " ++ tag ++ behind)

-- the lines of these tags at a source, in their order
abbrev pub AreWaysFrom : {A : Type 0} → Relay A → List (List ℕ) → Source A → List ℕ → Type 0
AreWaysFrom relay tags source text = AreListed (IsWayLine relay source) tags text

-- the same for each source, in the order of the configuration
abbrev pub AreWays : {A : Type 0} → Relay A → List (List ℕ) → List ℕ → Type 0
AreWays relay tags text = AreListed (AreWaysFrom relay tags) relay.sources.items text

-- The relay is read, and the ways of the tags are printed.
pub record PrintsListing (A : Type 0) (conf : Option (List ℕ)) (tags : List (List ℕ))
    (old new : Option (List ℕ)) (status : Status) : Type 0 where
  pub relay : Relay A
  pub is_read : IsRelayRead conf relay
  pub lines : List ℕ
  pub ways : AreWays relay tags lines
  pub printed : IsPrinted old new lines Done status

-- all that `ways` does to a writer, and its status: the ways, or why no relay is read, or that
-- memory ran out
abbrev pub PrintsWays : (A : Type 0) → Option (List ℕ) → List (List ℕ) → Option (List ℕ)
    → Option (List ℕ) → Status → Type 0
PrintsWays A conf tags old new status = PrintsListing A conf tags old new status
    ⊎ (PrintsNoRelay conf old new status ⊎ IsPrinted old new memory_line Usage status)
