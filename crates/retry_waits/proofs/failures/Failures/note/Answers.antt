use Rattle.std.proofs.Common.{◌≡◌, ℕ, ◌≤◌, Some, None, refl, sym, ap, ◌∙◌, arith}
use Rattle.std.specs.Prelude.{Option}
use Rattle.std.specs.FinMap as map
use Rattle.std.specs.Ordering.{nat_cmp}
use Rattle.std.proofs.lemmas.Result.{err_from_is_err_and}
use Rattle.std.proofs.lemmas.Map.Views.{All-values-insert_entry}
use Rattle.retry_waits.specs.Failed.{noted}
use Rattle.retry_waits.specs.declared.failed.Failed.{Failed}
use Rattle.retry_waits.proofs.Places.{held_at, put_at}
use Rattle.retry_waits.proofs.failures.Failures.note.Goals as goal

-- whatever came before, the chunk has failed once at least
noted_counted : (now : ℕ) (before : Option Failed) → 1 ≤ (noted now before).count
noted_counted now None = omega arith
noted_counted now (Some failed) = omega arith

pub returns-in_err-insert-clause-first : goal.returns-in_err-insert-clause-first
returns-in_err-insert-clause-first g c =
    let e : map.get c.args.self.now c.args.serial ≡ None = held_at _ _ c.args.serial _ c.self.view_is (sym c.in_err-insert.ensures.absent) in
    let p = err_from_is_err_and c.from_residual.result c.from_residual.ensures.1 in rw (e, p.1) refl

pub invariant_of-self-2 : goal.invariant_of-self-2
invariant_of-self-2 g c =
    let counted : 1 ≤ c.noted.result.count = rw c.noted.ensures (noted_counted c.args.now _) in
    rw c.in_ok-insert.ensures.entries (All-values-insert_entry nat_cmp c.args.serial c.noted.result (λ (f : Failed). 1 ≤ f.count) _ c.self.invariant counted)

pub returns-clause-ok : goal.returns-clause-ok
returns-clause-ok g c =
    let before : map.get c.args.self.now c.args.serial ≡ c.copied-before.result = held_at _ _ c.args.serial _ c.self.view_is (c.copied-before.ensures ∙ c.get.ensures.value) in
    put_at _ _ c.args.serial c.noted.result c.in_ok-insert.ensures.updates.0
    ∙ ap (λ m. map.insert m c.args.serial c.noted.result) c.self.view_is
    ∙ ap (map.insert c.args.self.now c.args.serial) (c.noted.ensures ∙ ap (noted c.args.now) (sym before))
