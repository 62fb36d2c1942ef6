use Rattle.std.proofs.Common.{ℕ, ◌≡◌, [], sym, ap, ◌∙◌, arith, length, rules}
use Rattle.event_modes.specs.Rows.{items_of}
use Rattle.event_modes.proofs.Counted.{no_items, Taken, take_one}
use Rattle.event_modes.proofs.items.ItemsIterator.next.Goals as goal

pub returns-then-self-eq0-clause-steps : goal.returns-then-self-eq0-clause-steps
returns-then-self-eq0-clause-steps c =
    let none : c.args.self.now ≡ [] = sym c.self.view_is ∙ ap (λ (n : ℕ). items_of n c.self.inside.bytes.now) c.if-self-eq0.true ∙ no_items c.self.inside.bytes.now in
    (none, none)

taken : (c : goal.After-self-1) → Taken c.self.inside.count c.self.inside.bytes.now c.first_item.result.0.now c.first_item.result.1.now
taken c = take_one c.self.inside.count c.self.inside.bytes.now c.first_item.result.0.now c.first_item.result.1.now (omega arith) c.self.invariant c.first_item.ensures.item c.first_item.ensures.whole

pub invariant_of-self : goal.invariant_of-self
invariant_of-self c = (taken c).left

pub returns-clause-steps : goal.returns-clause-steps
returns-clause-steps c = sym c.self.view_is ∙ (taken c).first

pub returns-clause-goes : goal.returns-clause-goes
returns-clause-goes c =
    let step = sym c.self.view_is ∙ (taken c).first in
    let shorter = ap length step in search rules
