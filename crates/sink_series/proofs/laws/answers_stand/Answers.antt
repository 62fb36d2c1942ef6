use Rattle.std.proofs.Common.{◌++◌, ap, sym, ◌∙◌, append_assoc}
use Rattle.sink_series.specs.Events.{under}
use Rattle.sink_series.specs.Names.{sink_name}
use Rattle.sink_series.specs.Keeping.{answered}
use Rattle.sink_series.proofs.Stays.{left_safe, stands}
use Rattle.sink_series.proofs.Kept.{answer_safe}
use Rattle.sink_series.proofs.laws.answers_stand.Goals as goal

pub returns : goal.returns
returns c path n history later earlier answer from to stay t since until folder all leaves holds =
    let own = under answer.stored.tag answer.stored.entries in
    let safe = answer_safe history (sink_name path n) later earlier answer stay t since until in
    let s = stands n 4294967295 path folder (answered earlier ++ own) all safe.each from to (left_safe (sink_name path n) (answered earlier ++ own) (history.disk_at t) folder safe leaves) holds in (
      s.before ++ answered earlier,
      s.after,
      s.split ∙ ap (λ es. s.before ++ es) (append_assoc (answered earlier) own s.after) ∙ sym (append_assoc s.before (answered earlier) (own ++ s.after)),
    )
