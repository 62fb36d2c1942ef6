-- What is wrong with the value of a parameter.
use Rattle.std.specs.Prelude.{ℕ, ◌||◌, Bool, List, [], ◌∷◌, codes, Option, Some, None, is_some, if◌then◌else◌}
use Rattle.std.specs.List.{find}
use Rattle.std.specs.Option.{option_map}
use Rattle.std.specs.Str.{bytes_eq}
use Rattle.conf_values.specs.Words.{is_path, has_slash, is_label_name}
use Rattle.relay_conf.specs.declared.fault.RelayFaultKind.{RelayFaultKind}
use Rattle.relay_conf.specs.declared.fault.RelayFaultKind.TheVariants as kinds

-- what is wrong with a value, if anything
abbrev pub Check : Type 0
Check = List ℕ → Option RelayFaultKind

-- any text may stand
abbrev pub any_text : Check
any_text text = None

-- whether a text is read as something
abbrev pub reads : {X : Type 0} → (List ℕ → Option X) → List ℕ → Bool
reads f text = is_some (f text)

-- a value that doesn't pass is bad
abbrev pub bad_unless : (List ℕ → Bool) → Check
bad_unless good text = if good text then None else Some kinds.BadValue

-- a word that Fluentd may have, and this project doesn't
abbrev pub outside_unless : (List ℕ → Bool) → Check
outside_unless known text = if known text then None else Some kinds.OutOfProfile

-- a path has no `/` here, and is short and plain
abbrev pub path_fault : Check
path_fault text = if has_slash text then Some kinds.OutOfProfile else bad_unless is_path text

-- events go to a label of the configuration, never to one of Fluentd's own
abbrev pub target_fault : Check
target_fault text =
    if bytes_eq text (codes "@ROOT") || bytes_eq text (codes "@ERROR") then Some kinds.OutOfProfile
    else bad_unless is_label_name text

-- what the row of this name has, if there is one
abbrev pub among : {X : Type 0} → List (List ℕ × X) → List ℕ → Option X
among rows name = option_map (λ row. row.1) (find (λ row. bytes_eq name row.0) rows)
