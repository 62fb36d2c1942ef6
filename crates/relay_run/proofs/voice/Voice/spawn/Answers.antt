use denote.Param.Send.{IsSend, IsSync, sendable}
use Rattle.std.proofs.Crossing.{crosses}
use Rattle.relay_run.specs.contracts.voice.Flags as Flags
use Rattle.relay_run.specs.contracts.state.StateFile as StateFile
use Rattle.relay_run.proofs.Crossings.{Flags-send, Flags-sync, Notices-here-send, Notices-here-sync, StateFile-send}
use Rattle.relay_run.proofs.voice.Voice.spawn.Goals as goal

pub spawn-requires-send-F : goal.spawn-requires-send-F
spawn-requires-send-F g c κs within =
    let s : IsSend Flags.the_field.row = Flags-send in
    let y : IsSync Flags.the_field.row = Flags-sync in
    let n = Notices-here-send in
    let o = Notices-here-sync in
    let f : IsSend StateFile.the_field.row = StateFile-send in
    search (crosses, sendable) depth 60 fits 20000
