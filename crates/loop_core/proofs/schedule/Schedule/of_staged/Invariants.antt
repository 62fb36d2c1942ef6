use Rattle.std.proofs.Common.{◌≡◌, ◌++◌, map}
use Rattle.std.specs.List.{flat_map}
use Rattle.buffer_state.specs.Shown.{numbered_facts}
use Rattle.loop_core.specs.Schedules.{staged_since}
use Rattle.loop_core.proofs.schedule.Schedule.of_staged.Given as goal

abbrev pub invariant-loop-shown : goal.invariant-loop-shown
invariant-loop-shown g l =
    (l.schedule.chunks ++ flat_map (staged_since l.now) l.shown-iterator ≡ flat_map (staged_since l.now) (map numbered_facts l.chunks.chunks))
    × (l.schedule.mode ≡ l.initial.schedule.mode) × (l.schedule.interval ≡ l.initial.schedule.interval)
