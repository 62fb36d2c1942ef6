use Rattle.std.proofs.Common.{◌≡◌, ◌++◌, take}
use Rattle.std.specs.List.{flat_map}
use Rattle.folder_counts.specs.Pieces.{escaped}
use Rattle.folder_counts.proofs.pieces.put_escaped.Given as goal

abbrev pub invariant-loop-byte : goal.invariant-loop-byte
invariant-loop-byte g l = l.text.items ≡ l.fn.text.items ++ flat_map escaped (take l.byte-index l.value)
