use Rattle.std.proofs.Common.{drop, map}
use Rattle.relay_conf.specs.Findings.{a_pattern}
use Rattle.relay_conf.proofs.Findings.{Continues}
use Rattle.relay_conf.proofs.pattern_words.are_patterns.Given as goal

abbrev pub invariant-loop-word : goal.invariant-loop-word
invariant-loop-word g l = Continues (map (λ word. a_pattern word l.line) (map (λ word. word.now) (drop l.word-index l.words))) (map (λ word. a_pattern word l.line) (map (λ word. word.now) l.words))
