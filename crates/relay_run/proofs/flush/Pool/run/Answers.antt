use denote.Param.Send.{IsSync, sendable}
use Rattle.std.proofs.Crossing.{crosses}
use Rattle.std.proofs.Common.{◌∙◌, ap, sym}
use Rattle.relay_ports.specs.Outputs.{settings_of}
use Rattle.relay_run.specs.contracts.flush.Carrier as Carrier
use Rattle.relay_run.specs.Running.{PoolState}
use Rattle.relay_run.proofs.Crossings.{Carrier-sync}
use Rattle.relay_run.proofs.Ending.{ended_at}
use Rattle.relay_run.proofs.flush.Pool.run.Goals as goal

pub deliver-done-requires-sync-C : goal.deliver-done-requires-sync-C
deliver-done-requires-sync-C g c κs = let k : IsSync Carrier.the_field.row = Carrier-sync in search (crosses, sendable) depth 20

pub invariant_of-result : goal.invariant_of-result
invariant_of-result g c =
    let same = c.self.view_is ∙ sym c.of-of.ensures in
    let done = c.deliver-done.ensures in (
      done.0,
      ended_at _ _ c.self.inside.threads.terms c.of-of.result.value.terms c.self.inside.carrier c.of-of.result.value.carrier done.0
          (settings_of c.self.inside.threads.output).retry (settings_of c.of-of.result.value.output).retry (settings_of c.self.inside.threads.output).flush_thread_count
          (settings_of c.of-of.result.value.output).flush_thread_count c.deliver-done.result.0
          (ap (λ (p : PoolState). p.terms) same)
          (ap (λ (p : PoolState). p.carrier) same)
          (ap (λ (p : PoolState). (settings_of p.output).retry) same)
          (ap (λ (p : PoolState). (settings_of p.output).flush_thread_count) same)
          done.1,
    )
