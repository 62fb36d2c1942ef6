use Rattle.std.proofs.Common.{◌≡◌, ◌++◌, flat_map, take}
use Rattle.relayctl.specs.Checking.{bytes_of}
use Rattle.relayctl.proofs.listing.put_texts.Given as goal

abbrev pub invariant-loop-text : goal.invariant-loop-text
invariant-loop-text g l = l.lines.items ≡ l.fn.lines.items ++ flat_map bytes_of (take l.text-index l.texts)
