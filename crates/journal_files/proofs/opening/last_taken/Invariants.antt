use Rattle.std.proofs.Common.{◌≡◌, ◌⊎◌, ◌-◌, ◌^◌, ◌<◌, ◌≤◌}
use Rattle.disk_files.specs.Disk.{WasRemoved}
use Rattle.disk_files.specs.Moments.{now}
use Rattle.journal_files.specs.Folders.{journal_name}
use Rattle.journal_files.proofs.opening.last_taken.Given as goal

abbrev pub invariant-loop-taken : goal.invariant-loop-taken
invariant-loop-taken g l = (l.there ≤ l.taken) × (l.taken < 2 ^ 32 - 1) × (g.D.Dir.is_honest l.dir → (l.taken ≡ l.there) ⊎ WasRemoved (now (g.D.Dir.history l.dir)) (journal_name l.path l.taken))

abbrev pub decreases-loop-taken : goal.decreases-loop-taken
decreases-loop-taken g l = 2 ^ 32 - l.taken
