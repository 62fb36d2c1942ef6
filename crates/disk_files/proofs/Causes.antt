-- Counts of refusals over several calls.
use Rattle.std.proofs.Common.{◌≡◌, inl, inr, ⊎_elim, ℕ, ◌≤◌, Result, Ok, Err, arith}
use Rattle.disk_files.specs.Faults.{Rises, HasCause}
use Rattle.disk_files.specs.declared.dir.DirError.{DirError}
use Rattle.disk_files.specs.declared.dir.DirError.TheVariants.{Memory}

-- a refusal for another reason than memory was counted
pub counted : {T : Type 0} → (before after : ℕ) (result : Result T DirError) (e : DirError) → HasCause before after result → result ≡ Err e → (e ≡ Memory → ⊥) → Rises before after
counted before after (Ok t) e cause is other = absurd (cc is)
counted before after (Err d) e cause is other = ⊎_elim (λ memory. absurd (other (cc (is, memory)))) (λ rises. rises) cause.refused

-- what rose in a part rose in the whole
pub rises_over : (a b c d : ℕ) → a ≤ b → Rises b c → c ≤ d → Rises a d
rises_over a b c d before (inl rise) after = inl (omega (arith, before, rise, after))
rises_over a b c d before (inr full) after = inr (omega (arith, full, after))
