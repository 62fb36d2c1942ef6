use Rattle.std.proofs.Common.{arith, ap, get_or, eq-eqb}
use Rattle.std.proofs.lemmas.Bool.{eqb-true}
use Rattle.std.proofs.lemmas.List.{ext_get_or}
use Rattle.auth_handshake.proofs.Differences.{gathers}
use Rattle.auth_handshake.proofs.digest.is_same.Goals as goal

pub loop-i-preserved : goal.loop-i-preserved
loop-i-preserved c = gathers _ _ _ _ c.loop-i.invariant

pub returns : goal.returns
returns c = (
  λ none. ext_get_or 0 c.args.digest.now c.args.expected.now (omega arith) (λ k h. c.loop-i.invariant.0 (eqb-true _ _ none) k (omega arith)),
  λ same. eq-eqb _ _ (c.loop-i.invariant.1 (λ k h. ap (λ xs. get_or xs k 0) same)),
)
