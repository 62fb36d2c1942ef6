use Rattle.std.proofs.Common.{ℕ, List, Some, subst, inl, inr}
use Rattle.relayctl.specs.Labels.{PrintsLabels}
use Rattle.relayctl.proofs.Stopping.{stop_line}
use Rattle.relayctl.proofs.label.run_fresh_label.Goals as goal

pub returns-in-Ok : goal.returns-in-Ok
returns-in-Ok g c =
    inl (
      c.in-Ok.text,
      c.in-Ok.ensures,
      subst (λ (t : List ℕ). PrintsLabels g.row.A.Denot (Some t) (g.O.Open.text_of c.args.files.now) (g.W.Write.contents c.args.out.now) (g.W.Write.contents c.run_label.new.out) c.run_label.result) c.as_slice.ensures.value c.run_label.ensures,
    )

pub returns-in-Err : goal.returns-in-Err
returns-in-Err g c = inr (c.print_plan_stop.ensures.lines, stop_line c.in-Err.fault c.print_plan_stop.ensures.lines c.print_plan_stop.ensures.said, c.print_plan_stop.ensures.printed)
