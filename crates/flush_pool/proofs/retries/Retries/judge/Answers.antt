use Rattle.std.proofs.Common.{◌≡◌, ℕ, Bool, Option, subst}
use Rattle.std.specs.FinMap as map
use Rattle.retry_waits.specs.declared.settings.RetrySettings.{RetrySettings}
use Rattle.retry_waits.specs.declared.failed.Failed.{Failed}
use Rattle.flush_pool.specs.declared.verdict.Verdict.{Verdict}
use Rattle.flush_pool.specs.Verdicts.{IsVerdict, IsVerdictBy}
use Rattle.flush_pool.proofs.retries.Retries.judge.Goals as goal

-- a verdict by settings that are these
by_these : (settings these : RetrySettings) (expires : Bool) (failed : Option Failed) (now : ℕ) (verdict : Verdict) → settings ≡ these
    → IsVerdict settings expires failed now verdict → IsVerdictBy these expires verdict
by_these settings these expires failed now verdict is made =
    (failed, now, subst (λ (s : RetrySettings). IsVerdict s expires failed now verdict) is made)

pub returns-clause-verdict : goal.returns-clause-verdict
returns-clause-verdict g c =
    by_these c.self.inside.settings c.args.self.now c.args.expires (map.get c.deref_mut.result.now.failures c.args.serial)
    c.judge.new.self.latest c.judge.result.verdict c.self.view_is c.judge.ensures.verdict
