use Rattle.std.proofs.Common.{◌≡◌, ◌∙◌, true, Option, Some, None, sym, ap, refl, rules}
use Rattle.conf_text.specs.Views.{tree_of}
use Rattle.relay_conf.specs.Elements.{settings_of}
use Rattle.relay_conf.specs.Meaning.{kind_of}
use Rattle.relay_conf.specs.declared.form.OutputType.{OutputType}
use Rattle.relay_conf.specs.declared.form.OutputType.TheVariants as outputs
use Rattle.relay_conf.proofs.Nowhere.{is_nowhere, has_no_buffer, is_no_relabel, tagged_nowhere}
use Rattle.relay_conf.proofs.outputs.output.Goals.{in_default-via-in-Some+in_default, in_default-via-in_default}
use Rattle.relay_conf.proofs.outputs.output.Goals as goal

pub returns-in-Some-Relabel : goal.returns-in-Some-Relabel
returns-in-Some-Relabel g c =
    let t = tree_of c.args.element.now in
    let kind : kind_of (settings_of t) ≡ Some outputs.Relabel = sym (c.kind_of.ensures ∙ ap kind_of c.pairs_of-pairs.ensures) ∙ (c.in-Some-Relabel.is ∙ ap (λ (k : outputs.the_data). Some k) c.in-Some-Relabel.field-0-is) in
    (kind, rw (c.target.ensures, c.value_of.ensures, c.pairs_of-pairs.ensures) refl, c.line_of-line.ensures)

pub returns-in_ok-file-in-Some-File : goal.returns-in_ok-file-in-Some-File
returns-in_ok-file-in-Some-File g c =
    let t = tree_of c.args.element.now in
    let kind : kind_of (settings_of t) ≡ Some outputs.File = sym (c.kind_of.ensures ∙ ap kind_of c.pairs_of-pairs.ensures) ∙ (c.in-Some-File.is ∙ ap (λ (k : outputs.the_data). Some k) c.in-Some-File.field-0-is) in
    (kind, c.in_ok-file-in-Some-File.ensures, c.line_of-line.ensures)

pub returns-in_ok-forward-in-Some-Forward : goal.returns-in_ok-forward-in-Some-Forward
returns-in_ok-forward-in-Some-Forward g c =
    let t = tree_of c.args.element.now in
    let kind : kind_of (settings_of t) ≡ Some outputs.Forward = sym (c.kind_of.ensures ∙ ap kind_of c.pairs_of-pairs.ensures) ∙ (c.in-Some-Forward.is ∙ ap (λ (k : outputs.the_data). Some k) c.in-Some-Forward.field-0-is) in
    (kind, c.in_ok-forward-in-Some-Forward.ensures, c.line_of-line.ensures)

nowhere_as : (kind other : Option OutputType) → kind ≡ other → is_nowhere kind ≡ true → is_nowhere other ≡ true
nowhere_as kind other e h = ap is_nowhere (sym e) ∙ h

pub returns-in_default : goal.returns-in_default
returns-in_default g c =
    let t = tree_of c.args.element.now in
    let kind : c.kind_of.result ≡ kind_of (settings_of t) = c.kind_of.ensures ∙ ap kind_of c.pairs_of-pairs.ensures in
    let nowhere : is_nowhere (kind_of (settings_of t)) ≡ true = elim c.in_default.branch as (λ _. is_nowhere (kind_of (settings_of t)) ≡ true) [
      | in_default-via-in-Some+in_default w ↦ nowhere_as (Some w.in_default.field-0) (kind_of (settings_of t)) (sym w.in_default.is ∙ kind) (search (rules, tagged_nowhere))
      | in_default-via-in_default w ↦ nowhere_as None (kind_of (settings_of t)) (sym w.in_default.is ∙ kind) refl
    ] in
    (has_no_buffer (kind_of (settings_of t)) nowhere, is_no_relabel (kind_of (settings_of t)) nowhere, c.line_of-line.ensures)
