use Rattle.std.proofs.Common.{◌≡◌, ℕ, List, Some, OnErr, take, ap, rules, subst}
use Rattle.disk_files.specs.Disk.{Changes, with_bytes}
use Rattle.disk_files.specs.Moments.{now}
use Rattle.disk_files.proofs.Failing.{not_passed, passed_on}
use Rattle.disk_files.proofs.fuse.FuseDir.append.Goals as goal

pub returns-clause-err : goal.returns-clause-err
returns-clause-err g c =
    let dir = g.D.Dir in
    subst (λ d. dir.is_honest d → (name : List ℕ) → dir.opened d c.args.file ≡ Some name
    → OnErr c.append.result ((n : ℕ) × Changes name (with_bytes (take n c.args.bytes.now)) (now (dir.history d)) (now (dir.history c.append.new.self))))
    c.in_ok-pass.ensures.inner c.append.ensures.err

pub returns-in_err-pass-clause-device : goal.returns-in_err-pass-clause-device
returns-in_err-pass-clause-device g c = record {
  honest = search rules;
  time = search rules;
  cause = search rules;
  fault = λ _.
      not_passed c.args.self.now.fails c.pass.new.self.fails c.args.self.now.passes c.pass.new.self.passes (g.D.Dir.fails_after c.args.self.now.inner) (g.D.Dir.fails_after c.pass.new.self.inner) c.from_residual.result
      c.in_err-pass.ensures.err c.in_err-pass.ensures.next c.in_err-pass.ensures.passes (ap (λ d. g.D.Dir.fails_after d) c.in_err-pass.ensures.inner) (search rules);
}

pub returns-clause-device : goal.returns-clause-device
returns-clause-device g c = record {
  honest = search rules;
  time = search rules;
  cause = search rules;
  fault = λ honest.
      passed_on c.args.self.now.fails c.pass.new.self.fails c.args.self.now.passes c.pass.new.self.passes (g.D.Dir.fails_after c.args.self.now.inner) (g.D.Dir.fails_after c.append.new.self) c.append.result
      c.in_ok-pass.ensures.ok c.in_ok-pass.ensures.fails c.in_ok-pass.ensures.passes (search rules);
}
