use Rattle.std.proofs.Common.{refl, arith, eq-eqb}
use Rattle.std.proofs.lemmas.Bool.{eqb-true}
use Rattle.event_modes.proofs.Again.{not_empty, empty, counting_more, counting_end, none_torn, none_more, none_else, none_left}
use Rattle.event_modes.proofs.entries.are_stored.Goals as goal

pub returns-in_default : goal.returns-in_default
returns-in_default c =
    (λ f. absurd cc, λ s. absurd (none_torn c.args.count c.args.bytes.now c.loop-rest.rest.now c.loop-rest.left c.in_default.field-0 c.loop-rest.invariant (not_empty c.loop-rest.rest.now c.loop-rest-test.ensures) c.in_default.ensures s))

pub returns-then-left-eq0 : goal.returns-then-left-eq0
returns-then-left-eq0 c =
    (λ f. absurd cc, λ s. absurd (none_more c.args.count c.args.bytes.now c.loop-rest.rest.now c.loop-rest.left c.loop-rest.invariant (not_empty c.loop-rest.rest.now c.loop-rest-test.ensures) c.if-left-eq0.true s))

pub returns-then-not-is_stored : goal.returns-then-not-is_stored
returns-then-not-is_stored c = (
  λ f. absurd cc,
  λ s. absurd (none_else c.args.count c.args.bytes.now c.loop-rest.rest.now c.in-Ok.entry.now c.in-Ok.behind.now c.loop-rest.left c.loop-rest.invariant (not_empty c.loop-rest.rest.now c.loop-rest-test.ensures)
      c.in-Ok.ensures.0 c.in-Ok.ensures.1 (λ k. let b = c.if-not-is_stored.ensures.1 k in cc) s),
)

pub loop-rest-preserved : goal.loop-rest-preserved
loop-rest-preserved c =
    counting_more c.args.count c.args.bytes.now c.loop-rest.rest.now c.in-Ok.entry.now c.in-Ok.behind.now c.loop-rest.left c.loop-rest.invariant (omega arith) (c.if-not-is_stored.ensures.0 refl) c.in-Ok.ensures.1

pub returns : goal.returns
returns c =
    let e = empty c.loop-rest.rest.now c.loop-rest-test.ensures in (
      λ t. counting_end c.args.count c.args.bytes.now c.loop-rest.rest.now c.loop-rest.left c.loop-rest.invariant e (eqb-true c.loop-rest.left 0 t),
      λ s. eq-eqb c.loop-rest.left 0 (none_left c.args.count c.args.bytes.now c.loop-rest.rest.now c.loop-rest.left c.loop-rest.invariant e s),
    )
