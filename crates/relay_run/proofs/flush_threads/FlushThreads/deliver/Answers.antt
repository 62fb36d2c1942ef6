use Rattle.std.proofs.Common.{◌≡◌, ◌∙◌, ap, refl}
use Rattle.loop_core.specs.Owners.{Owned}
use Rattle.relay_ports.specs.Outputs.{settings_of}
use Rattle.relay_run.proofs.Ending.{ended_at}
use Rattle.relay_run.proofs.flush_threads.FlushThreads.deliver.Goals as goal

pub returns : goal.returns
returns g c =
    let same = c.self.view_is in (
      _,
      ended_at _ _ c.deref.result.now c.args.self.now.terms c.args.courier.now c.args.courier.now _ c.telling-retries.result (settings_of c.args.self.now.output).retry
          c.self.inside.count (settings_of c.args.self.now.output).flush_thread_count c.run_pool-done.result
          (c.deref.ensures ∙ c.self.invariant.0 ∙ ap (λ (j : Owned g.row.A.Denot). j.terms) same)
          refl
          (c.telling-retries.ensures ∙ c.new.ensures ∙ c.self.invariant.2 ∙ ap (λ (j : Owned g.row.A.Denot). (settings_of j.output).retry) same)
          (c.self.invariant.1 ∙ ap (λ (j : Owned g.row.A.Denot). (settings_of j.output).flush_thread_count) same)
          c.run_pool-done.ensures,
    )
