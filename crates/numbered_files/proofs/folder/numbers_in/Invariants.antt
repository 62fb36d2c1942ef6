use Rattle.std.proofs.Common.{ℕ, take}
use Rattle.std.specs.Prelude.{◌↔◌, IsTrue}
use Rattle.std.specs.Ordering.{nat_cmp}
use Rattle.std.specs.BTreeSet.{contains}
use Rattle.numbered_files.specs.Names.{IsNamed}
use Rattle.numbered_files.proofs.folder.numbers_in.Given as goal

abbrev pub invariant-loop-name : goal.invariant-loop-name
invariant-loop-name g l = (n : ℕ) → (IsTrue (contains nat_cmp l.found n) ↔ IsNamed l.family (take l.name-index l.names) n)
