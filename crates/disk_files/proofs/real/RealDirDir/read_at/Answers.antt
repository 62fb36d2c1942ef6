use Rattle.std.proofs.Common.{◌≡◌, ℕ, ◌≤◌, Result, Ok, Err, IfOk, subst}
use Rattle.disk_files.proofs.real.RealDirDir.read_at.Goals as goal

-- what was answered with Ok holds of it
of_answer : {E D : Type 0} → (read : Result ℕ E) (answer : Result ℕ D) (most : ℕ) → IfOk answer (λ n. read ≡ Ok n) → IfOk read (λ n. n ≤ most) → IfOk answer (λ n. n ≤ most)
of_answer read (Ok n) most is within = subst (λ r. IfOk r (λ m. m ≤ most)) is within
of_answer read (Err e) most is within = tt

pub returns-in-Ok-clause-within : goal.returns-in-Ok-clause-within
returns-in-Ok-clause-within g c = of_answer c.read_all-read.result c.answer.result _ c.answer.ensures.value c.read_all-read.ensures
