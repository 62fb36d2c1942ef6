use Rattle.std.proofs.Common.{ℕ, List, refl, subst, inl, inr}
use Rattle.program_text.specs.Output.{IsPrinted}
use Rattle.program_text.specs.declared.status.Status.TheVariants.{Usage}
use Rattle.relayctl.proofs.Stopping.{stop_line}
use Rattle.relayctl.proofs.explain.run_explain.Goals as goal

pub returns-in-Ok : goal.returns-in-Ok
returns-in-Ok g c = record {
  lines = c.in-Ok.said.lines.items;
  meant = c.in-Ok.said.status;
  explained = inl c.in-Ok.ensures;
  printed = subst (λ (l : List ℕ). IsPrinted (g.W.Write.contents c.args.out.now) (g.W.Write.contents c.put_last.new.out) l c.in-Ok.said.status c.put_last.result) c.deref.ensures.value c.put_last.ensures;
}

pub returns-in-Err : goal.returns-in-Err
returns-in-Err g c = record {
  lines = c.print_plan_stop.ensures.lines;
  meant = Usage;
  explained = inr (stop_line c.in-Err.fault c.print_plan_stop.ensures.lines c.print_plan_stop.ensures.said, refl);
  printed = c.print_plan_stop.ensures.printed;
}
