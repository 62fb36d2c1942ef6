-- The elements that are the outputs of a match.
use Rattle.std.specs.Prelude.{ℕ, Bool, true, false, List, [], ◌∷◌, codes, Option, Some, if◌then◌else◌}
use Rattle.conf_text.specs.Trees.{Tree}
use Rattle.relay_conf.specs.declared.form.OutputType.{OutputType}
use Rattle.relay_conf.specs.declared.form.OutputType.TheVariants as outputs
use Rattle.relay_conf.specs.Elements.{settings_of, children_of}
use Rattle.relay_conf.specs.Meaning.{kind_of, numbered}

-- whether an output is a copy
abbrev pub is_copy : Option OutputType → Bool
is_copy (Some outputs.Copy) = true
is_copy _ = false

-- the elements that are the outputs of a match, each with how many buffers stand before it, where n
-- stand before the match: the stores where it is a copy, else the match itself
abbrev pub outputs_in : ℕ → Tree → List (ℕ × Tree)
outputs_in n t =
    if is_copy (kind_of (settings_of t)) then numbered (codes "store") n (children_of t)
    else (n, t) ∷ []
