use Rattle.std.proofs.Common.{ℕ, Option, ◌∙◌, subst, sym}
use Rattle.std.specs.Prelude.{IfSome}
use Rattle.relay_run.specs.Starting.{PrintsRelay}
use Rattle.relay_run.proofs.relay.Runner.run_relay.Goals as goal

pub returns-clause-printed : goal.returns-clause-printed
returns-clause-printed g c =
    let out = g.W.Write.contents in
    subst (λ (found : Option ℕ). IfSome found (λ (n : ℕ). PrintsRelay c.args.self.now n (g.I.CountedRead.remaining c.args.conf.now) (out c.args.out.now) (out c.run_conf.new.out) c.run_conf.result))
    (sym c.in_ok-number.was ∙ c.number_of.ensures)
    c.run_conf.ensures
