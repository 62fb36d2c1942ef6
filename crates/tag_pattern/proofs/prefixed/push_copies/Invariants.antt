use Rattle.std.proofs.Common.{◌≡◌, ◌++◌, take}
use Rattle.tag_pattern.specs.Items.{items_of}
use Rattle.tag_pattern.proofs.prefixed.push_copies.Given as goal

abbrev pub invariant-loop-other : goal.invariant-loop-other
invariant-loop-other g l = items_of l.items.items ≡ items_of l.fn.items.items ++ items_of (take l.other-index l.others)
