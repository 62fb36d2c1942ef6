use Rattle.std.proofs.Common.{Bool, ap}
use Rattle.std.specs.Prelude.{not}
use Rattle.conf_text.specs.Views.{tree_of}
use Rattle.relay_conf.specs.Elements.{is_named}
use Rattle.relay_conf.proofs.Going.{none_here, one_here, none_at_end}
use Rattle.relay_conf.proofs.examine.lacks_child.Goals as goal

pub loop-child-preserved : goal.loop-child-preserved
loop-child-preserved g c =
    none_here (is_named c.args.name.now) tree_of c.args.children.now c.loop-child.child-index c.child-item.result _ c.loop-child-test.true c.child-item.is c.if-is_named.ensures c.loop-child.invariant

pub returns-then-is_named : goal.returns-then-is_named
returns-then-is_named g c =
    ap (λ (b : Bool). not b)
    (one_here (is_named c.args.name.now) tree_of c.args.children.now c.loop-child.child-index c.child-item.result _ c.loop-child-test.true c.child-item.is c.if-is_named.ensures c.loop-child.invariant)

pub returns : goal.returns
returns g c = ap (λ (b : Bool). not b) (none_at_end (is_named c.args.name.now) tree_of c.args.children.now c.loop-child.child-index _ c.loop-child-test.false c.loop-child.invariant)
