use Rattle.std.proofs.Common.{refl, subst, List}
use Rattle.std.proofs.lemmas.Bool.{false≢true}
use Rattle.std.proofs.lemmas.List.{take_all}
use Rattle.relay_ports.specs.declared.buffered.BufferedOutput.{BufferedOutput}
use Rattle.relay_ports.specs.Outputs.{HaveOwnPaths}
use Rattle.relay_ports.proofs.Ordering.{own_more, own_here}
use Rattle.relay_ports.proofs.paths.have_own_paths.Goals as goal

pub returns-then-not-has_own_paths : goal.returns-then-not-has_own_paths
returns-then-not-has_own_paths g c = (
  (λ t. absurd (false≢true t)),
  (λ h. absurd (false≢true (cc (
    c.if-not-has_own_paths.true,
    c.has_own_paths.ensures.1 (own_here c.args.outputs.now c.loop-place.place c.index-outputs-place.result c.loop-place-test.true c.index-outputs-place.is h),
  )))),
)

pub loop-place-preserved : goal.loop-place-preserved
loop-place-preserved g c =
    own_more c.args.outputs.now c.loop-place.place c.index-outputs-place.result c.loop-place-test.true c.index-outputs-place.is
    (c.has_own_paths.ensures.0 c.if-not-has_own_paths.false) c.loop-place.invariant

pub returns : goal.returns
returns g c = (
  (λ t. subst (λ (l : List (BufferedOutput _)). HaveOwnPaths l) (take_all c.loop-place.place c.args.outputs.now c.loop-place-test.false) c.loop-place.invariant),
  (λ h. refl),
)
