-- Lines that begin with `#`, one more at a time.
use Rattle.std.proofs.Common.{◌≡◌, ℕ, List, [], ◌++◌, subst, sym}
use Rattle.plan_advice.specs.Notes.{AreNotes, IsNote, none, one_more}

-- where there are no lines
pub no_notes : (lines : List ℕ) → lines ≡ [] → AreNotes lines
no_notes lines is = subst (λ (l : List ℕ). AreNotes l) (sym is) none

-- one more line
pub note_added : (before line after : List ℕ) → AreNotes before → IsNote line → after ≡ before ++ line → AreNotes after
note_added before line after are note is = subst (λ (l : List ℕ). AreNotes l) (sym is) (one_more are note)
