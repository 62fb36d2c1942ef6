use Rattle.std.proofs.Common.{◌≡◌, ◌==◌, ◌++◌, drop, map, length}
use Rattle.std.specs.List.{slice_split, flat_map}
use Rattle.relay_conf.specs.Examined.{words_of, tab_words}
use Rattle.relay_conf.proofs.pattern_words.words.Given as goal

abbrev pub invariant-loop-part : goal.invariant-loop-part
invariant-loop-part g l = map (λ word. word.now) l.words.items ++ flat_map tab_words (drop (length l.yielded) (slice_split (λ b. b == 32) l.text)) ≡ words_of l.text
