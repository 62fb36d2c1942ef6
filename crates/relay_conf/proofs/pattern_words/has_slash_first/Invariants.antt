use Rattle.std.proofs.Common.{◌≡◌, drop, map}
use Rattle.std.specs.List.{list_any}
use Rattle.relay_conf.specs.Examined.{begins_with_slash}
use Rattle.relay_conf.proofs.pattern_words.has_slash_first.Given as goal

abbrev pub invariant-loop-word : goal.invariant-loop-word
invariant-loop-word l = list_any begins_with_slash (map (λ word. word.now) (drop l.word-index l.words)) ≡ list_any begins_with_slash (map (λ word. word.now) l.words)
