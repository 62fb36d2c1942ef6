use Rattle.std.proofs.Common.{refl, arith}
use Rattle.relay_net.proofs.Fronts.{prefixed_is, prefixed_not, prefixed_short}
use Rattle.relay_net.proofs.arrival.is_prefixed.Goals as goal

pub returns-then-not-is_text : goal.returns-then-not-is_text
returns-then-not-is_text c = prefixed_not c.args.text.now c.args.front.now c.args.tag.now
    (λ e. let t = (rw c.split_at.ensures.front at c.if-not-is_text.ensures).1 e in absurd (cc))

pub returns : goal.returns
returns c =
    prefixed_is c.args.text.now c.args.front.now c.args.tag.now c.is_behind_dot.result ((rw c.split_at.ensures.front at c.if-not-is_text.ensures).0 refl) (rw c.split_at.ensures.back at c.is_behind_dot.ensures)
