use Rattle.std.proofs.Common.{List, ℕ, subst}
use Rattle.sink_series.specs.RotationKeeping.{open_of}
use Rattle.sink_series.specs.Steps.{IsBegun}
use Rattle.sink_series.proofs.Lasting.{begun}
use Rattle.sink_series.proofs.rotation.Rotation.begin_next.Goals as goal

pub invariant_of-sink : goal.invariant_of-sink
invariant_of-sink g c =
    let s = c.self.inside in
    let e = c.begin-files.ensures in
    let h = c.shut-closed in
    begun g.D.Dir.is_honest g.D.Dir.history g.D.Dir.fault_count s.files c.begin-files.result.0 s.opening.value h.result.1 s.path.items s.limits s.closed h.result.0 s.size s.since 0 c.args.time s.retry c.match-done.retry h.ensures.alone
    h.ensures.closed e.begins (subst (λ (p : List ℕ). IsBegun h.result.1 p (open_of c.begin-files.result.0)) c.deref.ensures.value e.begun) c.self.invariant
