use Rattle.std.proofs.Common.{◌≡◌, ◌∙◌, true, false, sym, ap}
use Rattle.conf_text.specs.Views.{tree_of}
use Rattle.relay_conf.specs.Copies.{is_copy}
use Rattle.relay_conf.specs.Elements.{settings_of}
use Rattle.relay_conf.specs.Meaning.{kind_of}
use Rattle.relay_conf.proofs.outputs.outputs.Goals as goal

pub returns-then-is_copy : goal.returns-then-is_copy
returns-then-is_copy g c =
    let t = tree_of c.args.element.now in
    let kind : c.kind_of.result ≡ kind_of (settings_of t) = c.kind_of.ensures ∙ ap kind_of c.pairs_of.ensures in
    let copy : is_copy (kind_of (settings_of t)) ≡ true = ap is_copy (sym kind) ∙ (sym c.is_copy.ensures ∙ c.if-is_copy.true) in
    rw (copy, ← c.children_of.ensures) c.stores.ensures

pub returns : goal.returns
returns g c =
    let t = tree_of c.args.element.now in
    let kind : c.kind_of.result ≡ kind_of (settings_of t) = c.kind_of.ensures ∙ ap kind_of c.pairs_of.ensures in
    let own : is_copy (kind_of (settings_of t)) ≡ false = ap is_copy (sym kind) ∙ (sym c.is_copy.ensures ∙ c.if-is_copy.false) in
    rw (own, c.in_ok-push.ensures.items, c.new-one.ensures.items) (c.in_ok-output.ensures, tt)
