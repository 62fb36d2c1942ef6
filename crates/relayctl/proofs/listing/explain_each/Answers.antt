use Rattle.std.proofs.Common.{rules, ◌≡◌, ◌++◌, ◌∷◌, []}
use Rattle.relayctl.proofs.Explanations.{explained_more}
use Rattle.relayctl.proofs.listing.explain_each.Goals as goal

pub loop-one-preserved : goal.loop-one-preserved
loop-one-preserved g c =
    let after : c.push.new.self.items ≡ c.loop-one.explained.items ++ c.in_ok-explain_one.field-0 ∷ [] = search rules in
    explained_more c.args.plan.now c.loop-one.one-index c.loop-one.explained.items c.in_ok-explain_one.field-0 c.push.new.self.items c.loop-one.invariant c.in_ok-explain_one.ensures after
