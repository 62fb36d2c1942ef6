-- What the snapshots of a chunk's entries tell.
use Rattle.std.specs.Prelude.{suc, ◌++◌}
use Rattle.buffer_state.specs.declared.content.Link.{Link}
use Rattle.buffer_state.specs.declared.content.Link.TheVariants as link
use Rattle.buffer_state.specs.Told.{Told}

-- what was told up to here
abbrev pub told_by : {A : Type 0} → Link A → Told
told_by (link.First entries) = record { times = 0; entries = entries.value }
told_by (link.Then before entries) =
    record {
      times = suc before.value.value.times;
      entries = before.value.value.entries
          ++ entries.value;
    }
