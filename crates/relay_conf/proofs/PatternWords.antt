-- The patterns that words stand for, one word after the other.
use Rattle.std.proofs.Common.{ℕ, List, ◌∷◌, ◌++◌, refl}
use Rattle.tag_pattern.specs.Items.{Item}
use Rattle.relay_conf.specs.PatternWords.{AreOfWord}
use Rattle.relay_conf.specs.Relays.{AreOfWords}

-- a word before others
pub before_words : (word : List ℕ) (words : List (List ℕ)) (ps qs : List (List Item)) → AreOfWord word ps → AreOfWords words qs → AreOfWords (word ∷ words) (ps ++ qs)
before_words word words ps qs (slots, is, plains) (others, are, others_plains) = (slots ∷ others, (is, are), rw (plains, others_plains) refl)
