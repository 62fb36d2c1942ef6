use Rattle.std.proofs.Common.{◌≡◌, ℕ, All}
use Rattle.plan_advice.proofs.notes.unbroken.Given as goal

abbrev pub invariant-loop-byte : goal.invariant-loop-byte
invariant-loop-byte g l = All (λ (byte : ℕ). ¬ (byte ≡ 10)) l.whole.items
