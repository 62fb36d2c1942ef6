use Rattle.std.proofs.Common.{None, subst}
use Rattle.sink_series.specs.RotationKeeping.{KeepsAll}
use Rattle.sink_series.specs.RotationViews.{RotationView, files_of}
use Rattle.sink_series.proofs.Lasting.{shut_keeps}
use Rattle.sink_series.proofs.rotation.Rotation.into_dir.Goals as goal

pub returns-clause-kept : goal.returns-clause-kept
returns-clause-kept g c =
    let s = c.self.inside in
    subst (λ (v : RotationView g.row.D.Denot). g.D.Dir.is_honest v.opening → KeepsAll g.D.Dir.is_honest g.D.Dir.history (record v { dir = c.shut-dir.result.1; closed = files_of v; open_one = None }))
    c.self.view_is
    (shut_keeps g.D.Dir.is_honest g.D.Dir.history g.D.Dir.fault_count s.files c.shut-dir.result.1 c.shut-dir.ensures.alone s.opening.value s.path.items s.limits s.closed s.size s.since s.retry c.self.invariant)
