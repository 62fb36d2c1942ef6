use Rattle.std.proofs.Common.{◌≡◌, take}
use Rattle.std.specs.List.{flat_map}
use Rattle.route_graph.specs.Listing.{numbers_of}
use Rattle.way_listing.specs.Lines.{buffer_text}
use Rattle.way_listing.proofs.listing.buffers_text.Given as goal

abbrev pub invariant-loop-buffer : goal.invariant-loop-buffer
invariant-loop-buffer g l = l.text.items ≡ flat_map (buffer_text l.net l.place) (numbers_of (take l.buffer-index l.buffers))
