use Rattle.std.proofs.Common.{ap, rules}
use Rattle.disk_files.proofs.Failing.{not_passed, passed_on}
use Rattle.disk_files.proofs.fuse.FuseDir.list.Goals as goal

pub returns-in_err-pass-clause-device : goal.returns-in_err-pass-clause-device
returns-in_err-pass-clause-device g c = record {
  honest = search rules;
  time = search rules;
  cause = search rules;
  fault = λ _.
      not_passed c.args.self.now.fails c.pass.new.self.fails c.args.self.now.passes c.pass.new.self.passes (g.D.Dir.fails_after c.args.self.now.inner) (g.D.Dir.fails_after c.pass.new.self.inner) c.from_residual.result
      c.in_err-pass.ensures.err c.in_err-pass.ensures.next c.in_err-pass.ensures.passes (ap (λ d. g.D.Dir.fails_after d) c.in_err-pass.ensures.inner) (search rules);
}

pub returns-clause-device : goal.returns-clause-device
returns-clause-device g c = record {
  honest = search rules;
  time = search rules;
  cause = search rules;
  fault = λ honest.
      passed_on c.args.self.now.fails c.pass.new.self.fails c.args.self.now.passes c.pass.new.self.passes (g.D.Dir.fails_after c.args.self.now.inner) (g.D.Dir.fails_after c.list.new.self) c.list.result
      c.in_ok-pass.ensures.ok c.in_ok-pass.ensures.fails c.in_ok-pass.ensures.passes (search rules);
}
