use Rattle.std.proofs.Common.{◌++◌, List, drop, map}
use Rattle.tag_pattern.specs.Items.{Item}
use Rattle.relay_conf.specs.Relays.{AreOfWords}
use Rattle.plan_lines.proofs.draft.patterns_of.Given as goal

abbrev pub invariant-loop-word : goal.invariant-loop-word
invariant-loop-word g l = (rest : List (List Item)) → AreOfWords (map (λ word. word.now) (drop l.word-index l.words)) rest → AreOfWords (map (λ word. word.now) l.words) (l.plains.items ++ rest)
