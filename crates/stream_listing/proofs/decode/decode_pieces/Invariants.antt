use Rattle.std.proofs.Common.{◌≡◌, ◌≤◌, ◌+◌, ℕ, List, [], None}
use Rattle.std.specs.Io.KnownBytes.{Appends, Consumes}
use Rattle.std.specs.List.{flat_map}
use Rattle.event_modes.specs.Stream.{Arrival}
use Rattle.stream_listing.specs.HexText.{digits_of}
use Rattle.stream_listing.specs.Listing.{arrival_lines, IsPending}
use Rattle.stream_listing.specs.Decoding.{ReadsOn}
use Rattle.stream_listing.proofs.decode.decode_pieces.Given as goal

abbrev pub invariant-loop : goal.invariant-loop
invariant-loop g l = record {
  text : List ℕ;
  arrivals : List Arrival;
  consumed : Consumes (g.R.CountedRead.remaining l.fn.input) (g.R.CountedRead.remaining l.input) text;
  reads : ReadsOn [] [] (digits_of text) arrivals l.decoder.hex l.decoder.feed.held;
  written : Appends (g.W.Write.contents l.fn.out) (g.W.Write.contents l.out) (flat_map arrival_lines arrivals);
  sound : l.decoder.feed.fault ≡ None;
  pending : IsPending l.decoder.feed.held;
  calls : g.R.CountedRead.calls l.input ≤ g.R.CountedRead.calls l.fn.input + l.counter;
}
