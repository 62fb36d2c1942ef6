use Rattle.std.proofs.Common.{refl, sym, arith}
use Rattle.std.proofs.lemmas.Bool.{false≢true}
use Rattle.route_graph.proofs.table.have_tag.Goals as goal

pub returns-then-matches : goal.returns-then-matches
returns-then-matches g c = (λ _. (c.loop-pattern.pattern-index, c.pattern-item.result, c.loop-pattern-test.true, sym c.pattern-item.is, c.if-matches.ensures.0 refl), λ _. refl)

pub returns : goal.returns
returns g c = (λ t. absurd (false≢true t), λ has. absurd (c.loop-pattern.invariant has.0 has.1 (omega (arith, has.2, c.loop-pattern-test.false)) (rw has.3 has.4)))
