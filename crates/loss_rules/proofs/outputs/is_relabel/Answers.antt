use Rattle.std.proofs.Common.{refl}
use Rattle.loss_rules.proofs.outputs.is_relabel.Goals as goal

pub returns-in-Relabel : goal.returns-in-Relabel
returns-in-Relabel g c = rw c.in-Relabel.is (λ _. (c.in-Relabel.target.0, refl), λ _. refl)
