use Rattle.std.proofs.Common.{map, take}
use Rattle.relayctl.specs.Dropping.{AreNames}
use Rattle.relayctl.proofs.drops.read_names.Given as goal

abbrev pub invariant-loop-word : goal.invariant-loop-word
invariant-loop-word g l = AreNames (map (λ word. word.now) (take l.word-index l.words)) l.names.items
