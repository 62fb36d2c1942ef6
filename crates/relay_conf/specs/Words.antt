-- What the words of a value mean, beside numbers, times and the like.
use Rattle.std.specs.Prelude.{ℕ, List, codes, Option, Some, None, if◌then◌else◌}
use Rattle.std.specs.Str.{bytes_eq}
use Rattle.relay_conf.specs.declared.form.OutputType.{OutputType}
use Rattle.relay_conf.specs.declared.form.OutputType.TheVariants as outputs

-- the type of a store of a copy
abbrev pub store_type_of : List ℕ → Option OutputType
store_type_of text = if bytes_eq text (codes "forward") then Some outputs.Forward
    else (if bytes_eq text (codes "file") then Some outputs.File
    else (if bytes_eq text (codes "relabel") then Some outputs.Relabel
    else (if bytes_eq text (codes "null") then Some outputs.Null else None)))

-- the type of a match: a copy, or what a store may be
abbrev pub output_type_of : List ℕ → Option OutputType
output_type_of text = if bytes_eq text (codes "copy") then Some outputs.Copy else store_type_of text
