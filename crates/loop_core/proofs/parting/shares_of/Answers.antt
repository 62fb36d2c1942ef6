use Rattle.std.proofs.Common.{◌∙◌, List, ap, arith, map}
use Rattle.std.specs.Arc.{arc_value}
use Rattle.std.proofs.lemmas.List.{take_all}
use Rattle.loop_core.specs.Buffers.{OpenState}
use Rattle.loop_core.proofs.Moving.{shared_more}
use Rattle.loop_core.proofs.parting.shares_of.Goals as goal

pub loop-one-preserved : goal.loop-one-preserved
loop-one-preserved g c =
    shared_more (λ buffer. arc_value buffer) (λ (one : OpenState _ _). one.owned.terms) c.loop-one.shares.items c.push.new.self.items c.in_ok-try_clone.field-0 c.args.opened.now c.loop-one.one-index
    c.one-item.result c.in_ok-push.ensures.items (c.in_ok-try_clone.ensures ∙ c.buffer.ensures ∙ c.one.invariant.1 ∙ ap (λ (one : OpenState _ _). one.owned.terms) c.one.view_is) (omega arith) c.one-item.is
    c.loop-one.invariant

pub returns : goal.returns
returns g c = c.loop-one.invariant ∙ ap (λ (l : List (OpenState _ _)). map (λ one. one.owned.terms) l) (take_all c.loop-one.one-index c.args.opened.now c.loop-one-test.false)
