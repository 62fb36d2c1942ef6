-- The types of outputs, and how outputs and their buffers are counted in the order of the text.
use Rattle.std.specs.Prelude.{ℕ, ◌+◌, ◌&&◌, ◌||◌, Bool, true, false, List, [], ◌∷◌, codes, Option, Some, option_and_then, if◌then◌else◌}
use Rattle.std.specs.List.{count_by}
use Rattle.conf_text.specs.Trees.{Setting, Tree}
use Rattle.relay_conf.specs.declared.form.OutputType.{OutputType}
use Rattle.relay_conf.specs.declared.form.OutputType.TheVariants as outputs
use Rattle.relay_conf.specs.Elements.{settings_of, value_of, is_named, tree_elements}
use Rattle.relay_conf.specs.Words.{output_type_of}

-- the type of an output, by its last line
abbrev pub kind_of : List Setting → Option OutputType
kind_of settings = option_and_then output_type_of (value_of (codes "@type") settings)

-- whether an output of this type has a buffer
abbrev pub is_buffered : Option OutputType → Bool
is_buffered (Some outputs.Forward) = true
is_buffered (Some outputs.File) = true
is_buffered _ = false

-- whether an element is an output that has a buffer
abbrev pub has_buffer : Tree → Bool
has_buffer t = (is_named (codes "match") t || is_named (codes "store") t)
    && is_buffered (kind_of (settings_of t))

-- how many outputs with a buffer are in an element, itself included
abbrev pub tree_buffers : Tree → ℕ
tree_buffers t = count_by has_buffer (tree_elements t)

-- The elements of this name, each with how many buffers stand before it in the text, where n stand
-- before the first.
abbrev pub numbered : List ℕ → ℕ → List Tree → List (ℕ × Tree)
numbered name n [] = []
numbered name n (t ∷ ts) = if is_named name t then (n, t) ∷ numbered name (n + tree_buffers t) ts
    else numbered name (n + tree_buffers t) ts
