use Rattle.std.proofs.Common.{◌≡◌, ◌<◌, ℕ, get_or}
use Rattle.std.specs.declared.vec.Vec.{Vec}
use Rattle.custody_store.proofs.event.has_text.Given as goal

abbrev pub invariant-loop-one : goal.invariant-loop-one
invariant-loop-one g l = (k : ℕ) (x : Vec ℕ g.row.A.Denot) → k < l.one-index → get_or l.texts k x ≡ x → x.items ≡ l.text → ⊥
