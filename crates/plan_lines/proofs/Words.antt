-- Fields that are patterns, or not.
use Rattle.std.proofs.Common.{ℕ, zero, suc, ◌<◌, List, [], ◌∷◌, length, map, get_or, ◌⊎◌, inl, inr, arith}
use Rattle.std.specs.Borrow.{Bor}
use Rattle.tag_pattern.specs.Grammar.{AnyByRecursion}
use Rattle.plan_lines.specs.declared.error.PlanError.{PlanError}
use Rattle.plan_lines.specs.declared.error.PlanError.TheVariants as error
use Rattle.plan_lines.specs.Faults.{IsPatternFault}

abbrev pub no_word : Bor (List ℕ)
no_word = record { ref_ptr = (0, 0); now = [] }

-- what holds of the word at a place holds of some word
pub any_word : (P : List ℕ → Type 0) (words : List (Bor (List ℕ))) (at : ℕ) → at < length words → P (get_or words at no_word).now → AnyByRecursion P (map (λ word. word.now) words)
any_word P [] at less h = absurd (omega (arith, less))
any_word P (word ∷ words) zero less h = inl h
any_word P (word ∷ words) (suc at) less h = inr (any_word P words at (omega (arith, less)) h)

-- a fault of one word is a fault of all of them
pub fault_among : (line : ℕ) (words : List (Bor (List ℕ))) (at : ℕ) (fault : PlanError) → at < length words → IsPatternFault line ((get_or words at no_word).now ∷ []) fault → IsPatternFault line (map (λ word. word.now) words) fault
fault_among line words at (error.BadLine n) less h = absurd h
fault_among line words at (error.BadNumber n) less h = absurd h
fault_among line words at (error.BadPattern n) less h = (h.0, any_word _ words at less (one_of h.1))
  where
    one_of : {P : Type 0} → P ⊎ ⊥ → P
    one_of (inl p) = p
    one_of (inr p) = absurd p
fault_among line words at (error.NoSuch n) less h = absurd h
fault_among line words at (error.BadText n fault) less h = absurd h
fault_among line words at (error.BadRelay n fault) less h = absurd h
fault_among line words at error.Memory less h = tt
