use Rattle.std.proofs.Common.{◌≡◌, true, false, Ok, Err, refl, sym, subst, ◌∙◌}
use Rattle.buffer_store.specs.Logs.{Logged, Syncs}
use Rattle.buffer_store.specs.declared.fault.BufferFault.{BufferFault}
use Rattle.buffer_store.proofs.Logs.{ok_at, err_at, rises_at, same_at, reason_ok, reason_fault}
use Rattle.buffer_store.proofs.log.Log.sync.Goals as goal

pub returns-then-is_err : goal.returns-then-is_err
returns-then-is_err g c =
    let is : _ ≡ true = sym c.is_err.ensures.value ∙ c.if-is_err.true in
    subst (λ (b : Logged g.row.D.Denot). Syncs g.D.Dir.is_honest g.D.Dir.history g.D.Dir.fault_count b
    (record { dir = c.sync.new.dir; journal = c.self.inside.journal; failed = true; staged = c.self.inside.staged; start = c.self.inside.start.value }) (Err BufferFault.Fault)) c.self.view_is
    (record {
      only = refl;
      flags = record { fails = λ _. refl; stays = λ no. absurd (no refl) };
      kept = refl;
      staged = tt;
      journal = refl;
      start = refl;
      honest = c.sync.ensures.own.honest;
      elsewhere = c.sync.ensures.own.elsewhere;
      cause = reason_fault (g.D.Dir.fault_count c.self.inside.dir) (g.D.Dir.fault_count c.sync.new.dir) c.sync.ensures.own.cause.later (rises_at (g.D.Dir.fault_count c.self.inside.dir) (g.D.Dir.fault_count c.sync.new.dir) c.sync.result c.sync.ensures.own.cause is c.sync.ensures.own.only);
      done = λ honest t keeps. tt;
      failed = λ honest t keeps. err_at c.sync.result is (c.sync.ensures.err honest t keeps);
      moments = c.sync.ensures.moments;
    })

pub returns : goal.returns
returns g c =
    let is : _ ≡ false = sym c.is_err.ensures.value ∙ c.if-is_err.false in
    subst (λ (b : Logged g.row.D.Denot). Syncs g.D.Dir.is_honest g.D.Dir.history g.D.Dir.fault_count b
    (record { dir = c.sync.new.dir; journal = c.self.inside.journal; failed = c.self.inside.failed; staged = false; start = c.self.inside.start.value }) (Ok (tt {0}))) c.self.view_is
    (record {
      only = tt;
      flags = record { fails = λ q. absurd (cc q); stays = λ _. refl };
      kept = tt;
      staged = refl;
      journal = refl;
      start = refl;
      honest = c.sync.ensures.own.honest;
      elsewhere = c.sync.ensures.own.elsewhere;
      cause = reason_ok (g.D.Dir.fault_count c.self.inside.dir) (g.D.Dir.fault_count c.sync.new.dir) (tt {0}) (same_at (g.D.Dir.fault_count c.self.inside.dir) (g.D.Dir.fault_count c.sync.new.dir) c.sync.result c.sync.ensures.own.cause is);
      done = λ honest t keeps. ok_at c.sync.result is (c.sync.ensures.ok honest t keeps);
      failed = λ honest t keeps. tt;
      moments = c.sync.ensures.moments;
    })
