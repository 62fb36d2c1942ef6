use Rattle.std.proofs.Common.{ℕ, ◌≡◌, ◌≤◌, ◌-◌, IsSome}
use Rattle.std.specs.Prelude.{◌↔◌, IsTrue}
use Rattle.std.specs.Ordering.{nat_cmp}
use Rattle.std.specs.BTreeSet.{contains}
use Rattle.disk_files.specs.Disk.{reads}
use Rattle.disk_files.specs.Moments.{now}
use Rattle.sink_series.specs.Folders.{HasFile, HoldsTo}
use Rattle.sink_series.specs.Still.{IsStill}
use Rattle.sink_series.proofs.files.read_to.Given as goal

abbrev pub invariant-loop-number : goal.invariant-loop-number
invariant-loop-number g l =
    (l.number ≤ l.to)
    × (g.D.Dir.is_honest l.initial.dir → g.D.Dir.is_honest l.dir × IsStill (g.D.Dir.history l.initial.dir) (g.D.Dir.history l.dir))
    × (IsSome (g.D.Dir.opened l.initial.dir l.own) → g.D.Dir.opened l.dir l.own ≡ g.D.Dir.opened l.initial.dir l.own)
    × (g.D.Dir.fault_count l.initial.dir ≤ g.D.Dir.fault_count l.dir)
    × (g.D.Dir.is_honest l.initial.dir
    → ((n : ℕ) → (IsTrue (contains nat_cmp l.numbers n) ↔ HasFile l.path (reads (now (g.D.Dir.history l.initial.dir))) n))
    → HoldsTo l.path (reads (now (g.D.Dir.history l.initial.dir))) l.number l.events.items)

abbrev pub decreases-loop-number : goal.decreases-loop-number
decreases-loop-number g l = l.to - l.number
