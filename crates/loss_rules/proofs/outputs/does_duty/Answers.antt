use Rattle.std.proofs.Common.{◌≡◌, true, false, sym, ◌∙◌}
use Rattle.loss_rules.proofs.outputs.does_duty.Goals as goal

pub returns-in-Any : goal.returns-in-Any
returns-in-Any g c =
    let one = rw c.deref.ensures.value at c.keep_or_relabel-one.ensures in
    rw c.in-Any.is one

pub returns-then-one : goal.returns-then-one
returns-then-one g c =
    let one = rw c.deref.ensures.value at c.keep_or_relabel-one.ensures in
    let all = rw c.deref-then-one.ensures.value at c.all_keep_or_relabel.ensures in
    rw c.in-Every.is (λ t. (one.0 c.if-one.true, all.0 t), λ h. all.1 h.1)

pub returns-else-one : goal.returns-else-one
returns-else-one g c =
    let one = rw c.deref.ensures.value at c.keep_or_relabel-one.ensures in
    rw c.in-Every.is (λ t. absurd (let e : true ≡ false = sym t ∙ c.if-one.false in cc), λ h. one.1 h.0)
