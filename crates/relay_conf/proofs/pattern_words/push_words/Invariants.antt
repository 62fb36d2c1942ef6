use Rattle.std.proofs.Common.{◌≡◌, ◌==◌, ◌++◌, drop, map, length}
use Rattle.std.specs.Prelude.{filter}
use Rattle.std.specs.List.{slice_split}
use Rattle.relay_conf.specs.Examined.{is_word, tab_words}
use Rattle.relay_conf.proofs.pattern_words.push_words.Given as goal

abbrev pub invariant-loop-word : goal.invariant-loop-word
invariant-loop-word g l = map (λ word. word.now) l.words.items ++ filter is_word (drop (length l.yielded) (slice_split (λ b. b == 9) l.part)) ≡ map (λ word. word.now) l.initial.words.items ++ tab_words l.part
