use Rattle.std.proofs.Common.{◌≡◌, ◌++◌, length}
use Rattle.std.specs.List.{flat_map}
use Rattle.stream_listing.specs.Listing.{message_line, entry_line, KeepsFront}
use Rattle.stream_listing.proofs.lines.put_parts.Given as goal

abbrev pub invariant-loop-entry : goal.invariant-loop-entry
invariant-loop-entry g l = record {
  lines : l.lines.items ++ flat_map entry_line l.entry-iterator
      ≡ l.fn.lines.items ++ (message_line l.message.tag.items (length l.message.entries) ++ flat_map entry_line l.message.entries);
  front : KeepsFront l.fn.lines.items l.lines.items;
}
