use Rattle.std.proofs.Common.{◌∙◌, map}
use Rattle.conf_text.specs.Views.{tree_of}
use Rattle.relay_conf.proofs.Going.{none_here, one_here, none_at_end}
use Rattle.relay_conf.proofs.Labelling.{is_label_of, has_label_is}
use Rattle.relay_conf.proofs.labels.has_label.Goals as goal

pub loop-element-preserved : goal.loop-element-preserved
loop-element-preserved g c =
    none_here (is_label_of c.args.name.now) tree_of c.args.elements.now c.loop-element.element-index c.element-item.result _ c.loop-element-test.true c.element-item.is c.if-is_label_of.ensures c.loop-element.invariant

pub returns-then-is_label_of : goal.returns-then-is_label_of
returns-then-is_label_of g c =
    one_here (is_label_of c.args.name.now) tree_of c.args.elements.now c.loop-element.element-index c.element-item.result _ c.loop-element-test.true c.element-item.is c.if-is_label_of.ensures c.loop-element.invariant
    ∙ has_label_is c.args.name.now (map tree_of c.args.elements.now)

pub returns : goal.returns
returns g c =
    none_at_end (is_label_of c.args.name.now) tree_of c.args.elements.now c.loop-element.element-index _ c.loop-element-test.false c.loop-element.invariant
    ∙ has_label_is c.args.name.now (map tree_of c.args.elements.now)
