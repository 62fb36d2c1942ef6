-- The scopes that events go to, by their labels.
use Rattle.std.specs.Prelude.{ℕ, ◌+◌, List, Option}
use Rattle.std.specs.List.{position_or_len}
use Rattle.std.specs.Option.{option_map_or}
use Rattle.std.specs.Str.{bytes_eq}
use Rattle.conf_text.specs.Trees.{Tree}
use Rattle.relay_conf.specs.Labels.{labels_of}

-- the place of the scope that events go to: a label's, behind the main one in the order of the
-- text, or the main one where none is named
abbrev pub target_of : List Tree → Option (List ℕ) → ℕ
target_of elements label = option_map_or
    (λ name. 1 + position_or_len (λ other. bytes_eq other name) (labels_of elements)) label 0
