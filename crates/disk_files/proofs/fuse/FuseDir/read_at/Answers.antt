use Rattle.std.proofs.Common.{◌≡◌, ℕ, ◌-◌, List, ◌++◌, Some, IfOk, length, take, drop, min, ap, rules, subst}
use Rattle.disk_files.specs.Disk.{reads}
use Rattle.disk_files.specs.Moments.{now}
use Rattle.disk_files.proofs.Failing.{not_passed, passed_on}
use Rattle.disk_files.proofs.fuse.FuseDir.read_at.Goals as goal

pub returns-clause-count : goal.returns-clause-count
returns-clause-count g c =
    let dir = g.D.Dir in
    subst (λ d. dir.is_honest d → (name bytes : List ℕ) → dir.opened d c.args.file ≡ Some name → reads (now (dir.history d)) name ≡ Some bytes
    → IfOk c.read_at.result (λ n. n ≡ min (length c.args.into.now) (length bytes - c.args.at)))
    c.in_ok-pass.ensures.inner c.read_at.ensures.count

pub returns-clause-bytes : goal.returns-clause-bytes
returns-clause-bytes g c =
    let dir = g.D.Dir in
    subst (λ d. dir.is_honest d → (name bytes : List ℕ) → dir.opened d c.args.file ≡ Some name → reads (now (dir.history d)) name ≡ Some bytes
    → IfOk c.read_at.result (λ n. c.read_at.new.into ≡ take n (drop c.args.at bytes) ++ drop n c.args.into.now))
    c.in_ok-pass.ensures.inner c.read_at.ensures.bytes

pub returns-in_err-pass-clause-device : goal.returns-in_err-pass-clause-device
returns-in_err-pass-clause-device g c = record {
  honest = search rules;
  time = search rules;
  cause = search rules;
  fault = λ _.
      not_passed c.args.self.now.fails c.pass.new.self.fails c.args.self.now.passes c.pass.new.self.passes (g.D.Dir.fails_after c.args.self.now.inner) (g.D.Dir.fails_after c.pass.new.self.inner) c.from_residual.result
      c.in_err-pass.ensures.err c.in_err-pass.ensures.next c.in_err-pass.ensures.passes (ap (λ d. g.D.Dir.fails_after d) c.in_err-pass.ensures.inner) (search rules);
}

pub returns-clause-device : goal.returns-clause-device
returns-clause-device g c = record {
  honest = search rules;
  time = search rules;
  cause = search rules;
  fault = λ honest.
      passed_on c.args.self.now.fails c.pass.new.self.fails c.args.self.now.passes c.pass.new.self.passes (g.D.Dir.fails_after c.args.self.now.inner) (g.D.Dir.fails_after c.read_at.new.self) c.read_at.result
      c.in_ok-pass.ensures.ok c.in_ok-pass.ensures.fails c.in_ok-pass.ensures.passes (search rules);
}
