use Rattle.std.proofs.Common.{◌≡◌, ◌++◌}
use Rattle.std.specs.List.{AllByRecursion}
use Rattle.event_modes.specs.Rows.{IsStored}
use Rattle.sink_series.specs.Events.{run_of, under}
use Rattle.sink_series.proofs.writing.run_under.Given as goal

abbrev pub invariant-loop-entry : goal.invariant-loop-entry
invariant-loop-entry g l =
    (goal.iterator-loop-entry g).can_next l.items × (goal.iterator-loop-entry g).is_finite l.items
    × AllByRecursion IsStored l.items × (l.bytes.items ++ run_of (under l.tag l.items) ≡ run_of (under l.tag l.entries))
