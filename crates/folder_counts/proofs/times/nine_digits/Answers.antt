use Rattle.std.proofs.Common.{append_assoc}
use Rattle.folder_counts.proofs.times.nine_digits.Goals as goal

pub returns : goal.returns
returns g c = simp append_assoc c.format.ensures.ok
