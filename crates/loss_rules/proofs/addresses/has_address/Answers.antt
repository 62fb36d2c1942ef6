use Rattle.std.proofs.Common.{refl}
use Rattle.loss_rules.proofs.addresses.has_address.Goals as goal

pub returns-then-is_same_text : goal.returns-then-is_same_text
returns-then-is_same_text g c =
    let e = rw c.as_bytes.ensures.value at c.if-is_same_text.ensures in
    let f = rw c.deref.ensures.value at c.has_port.ensures in
    (λ t. (e.0 refl, f.0 t), λ h. f.1 h.1)
