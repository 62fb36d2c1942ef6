-- What a value is without where it lies in memory.
use Rattle.std.specs.Prelude.{map, string_bytes}
use Rattle.conf_text.specs.declared.form.Form.{Form}
use Rattle.conf_text.specs.declared.element.Pair.{Pair}
use Rattle.conf_text.specs.declared.element.Element.{Element}
use Rattle.conf_text.specs.declared.element.Element.TheOpen.{Element-F}
use Rattle.conf_text.specs.declared.element.Element.TheFolds.{fold-Element}
use Rattle.conf_text.specs.Trees.{Setting, Tree, tree, trees}
use Rattle.conf_text.specs.Form.{LineForm, ignored, opens, ends, parameter, bad_name, bad_quote}

-- the form of a line
abbrev pub form_view : {A : Type 0} → Form A → LineForm
form_view Form.Ignored = ignored
form_view (Form.Opens name argument) = opens name.now argument.now
form_view (Form.Ends name) = ends name.now
form_view (Form.Parameter name value) = parameter name.now (string_bytes value)
form_view Form.BadName = bad_name
form_view Form.BadQuote = bad_quote

-- a parameter
abbrev pub setting : {A : Type 0} → Pair A → Setting
setting p = record { name = string_bytes p.name; value = string_bytes p.value; line = p.line }

-- one element, with what its children are in their place
abbrev pub tree_step : {A : Type 0} → Element-F A Tree → Tree
tree_step e =
    tree (record { name = string_bytes e.name; argument = string_bytes e.argument; line = e.line })
    (map setting e.pairs.items) (trees e.children.items)

-- one element
abbrev pub tree_of : {A : Type 0} → Element A → Tree
tree_of {A} = fold-Element A Tree (tree_step {A = A})
