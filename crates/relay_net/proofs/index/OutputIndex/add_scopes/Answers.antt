use Rattle.std.proofs.Common.{refl, arith}
use Rattle.relay_net.specs.Index.{among_rules, among_scopes}
use Rattle.relay_net.proofs.Passing.{one_turn}
use Rattle.relay_net.proofs.index.OutputIndex.add_scopes.Goals as goal

pub loop-place-preserved : goal.loop-place-preserved
loop-place-preserved g c = λ buffer.
    one_turn (λ place scopes. among_scopes place scopes buffer) (λ place scope. among_rules place 0 scope.matches.items buffer) (λ place scope scopes. refl)
    c.args.scopes.now c.loop-place.place c.index-scopes-place.result (omega arith) c.index-scopes-place.is _ _ _
    (rw (← c.deref.ensures.value) (c.in_ok-add_rules.ensures buffer)) (c.loop-place.invariant buffer)
