use Rattle.std.proofs.Common.{arith, refl, sym}
use Rattle.std.proofs.lemmas.Bool.{false≢true}
use Rattle.relay_ports.specs.declared.buffered.BufferedOutput.{BufferedOutput}
use Rattle.relay_ports.specs.Outputs.{HaveOther}
use Rattle.relay_ports.proofs.Sought.{more, all_of, at_place}
use Rattle.relay_ports.proofs.paths.has_own_paths.Goals as goal

pub returns-then-not-have_other : goal.returns-then-not-have_other
returns-then-not-have_other g c = (
  (λ t. absurd (false≢true t)),
  (λ all.
      let apart = at_place (λ other. HaveOther other c.args.output.now) c.args.others.now c.loop-other.other-index c.other-item.result (omega arith) c.other-item.is all in
      absurd (false≢true (cc (c.if-not-have_other.true, c.have_other.ensures.1 apart)))),
)

pub loop-other-preserved : goal.loop-other-preserved
loop-other-preserved g c =
    more (λ other. HaveOther other c.args.output.now) c.args.others.now c.loop-other.other-index c.other-item.result (omega arith) c.other-item.is c.loop-other.invariant
    (c.have_other.ensures.0 c.if-not-have_other.false)

pub returns : goal.returns
returns g c = (
  (λ t. all_of (λ other. HaveOther other c.args.output.now) c.args.others.now c.loop-other.other-index (omega arith) c.loop-other.invariant),
  (λ all. refl),
)
