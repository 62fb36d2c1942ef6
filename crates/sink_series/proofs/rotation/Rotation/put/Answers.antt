use Rattle.std.proofs.Common.{refl, subst}
use Rattle.sink_series.specs.RotationKeeping.{dir_of, open_of, Answers}
use Rattle.sink_series.specs.RotationViews.{RotationView}
use Rattle.sink_series.proofs.Lasting.{written, answered}
use Rattle.sink_series.proofs.rotation.Rotation.put.Goals as goal

pub invariant_of-sink : goal.invariant_of-sink
invariant_of-sink g c =
    let e = c.write-files.ensures in
    let s = c.self.inside in
    written g.D.Dir.is_honest g.D.Dir.history s.files c.write-files.result.0 s.opening.value s.path.items s.limits s.closed s.size s.since c.size_after.result s.since s.retry c.retry_after.result e.goes_on e.same
    c.self.invariant

pub returns-clause-answers : goal.returns-clause-answers
returns-clause-answers g c =
    let e = c.write-files.ensures in
    let s = c.self.inside in
    let files = c.write-files.result.0 in
    let new : RotationView g.row.D.Denot = record {
      dir = dir_of files;
      opening = s.opening.value;
      path = s.path.items;
      limits = s.limits;
      closed = s.closed;
      open_one = open_of files;
      size = c.size_after.result;
      since = s.since;
      retry = c.retry_after.result;
    } in
    let old : RotationView g.row.D.Denot = record {
      dir = dir_of s.files;
      opening = s.opening.value;
      path = s.path.items;
      limits = s.limits;
      closed = s.closed;
      open_one = open_of s.files;
      size = s.size;
      since = s.since;
      retry = s.retry;
    } in
    subst (λ (view : RotationView g.row.D.Denot). Answers view new (record { path = view.path; tag = c.args.tag.now; entries = c.args.entries.now }) c.write-files.result.1) c.self.view_is
    (answered old new c.args.tag.now c.args.entries.now c.write-files.result.1 refl e.answers e.same c.self.invariant.path)
