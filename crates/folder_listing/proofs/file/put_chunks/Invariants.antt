use Rattle.std.proofs.Common.{◌≡◌, ◌++◌, map}
use Rattle.std.specs.List.{flat_map}
use Rattle.buffer_state.specs.Shown.{numbered_facts}
use Rattle.folder_listing.specs.Files.{chunk_line}
use Rattle.folder_listing.proofs.file.put_chunks.Given as goal

abbrev pub invariant-loop-facts : goal.invariant-loop-facts
invariant-loop-facts g l = l.lines.items ++ flat_map chunk_line l.facts-iterator ≡ l.fn.lines.items ++ flat_map chunk_line (map numbered_facts l.chunks.chunks)
