use Rattle.std.proofs.Common.{◌≡◌, ◌++◌, take}
use Rattle.std.specs.List.{flat_map}
use Rattle.plan_drawing.specs.Escaping.{shown}
use Rattle.plan_drawing.proofs.escaping.put_shown.Given as goal

abbrev pub invariant-loop-byte : goal.invariant-loop-byte
invariant-loop-byte g l = l.text.items ≡ l.fn.text.items ++ flat_map shown (take l.byte-index l.bytes)
