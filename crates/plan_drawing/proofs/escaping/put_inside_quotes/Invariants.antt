use Rattle.std.proofs.Common.{◌≡◌, ◌++◌, take}
use Rattle.std.specs.List.{flat_map}
use Rattle.plan_drawing.specs.Escaping.{inside_quotes}
use Rattle.plan_drawing.proofs.escaping.put_inside_quotes.Given as goal

abbrev pub invariant-loop-byte : goal.invariant-loop-byte
invariant-loop-byte g l = l.out.items ≡ l.fn.out.items ++ flat_map inside_quotes (take l.byte-index l.bytes)
