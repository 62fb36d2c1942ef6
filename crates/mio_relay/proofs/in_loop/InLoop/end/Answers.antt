use Rattle.std.proofs.Common.{◌∙◌, ap, Option}
use Rattle.buffer_store.specs.declared.fault.BufferFault.{BufferFault}
use Rattle.loop_core.specs.Lanes.{LanesState}
use Rattle.mio_relay.specs.Faults.{told_of}
use Rattle.mio_relay.specs.Loops.{LoopState}
use Rattle.mio_relay.proofs.in_loop.InLoop.end.Goals as goal

pub returns : goal.returns
returns g c =
    c.told-fault.ensures
    ∙ ap (λ (first : Option BufferFault). told_of first c.args.end)
    (c.fault.ensures ∙ ap (λ (l : LanesState _). l.fault) c.end.ensures ∙ ap (λ (l : LoopState _). l.lanes.fault) c.self.view_is)
