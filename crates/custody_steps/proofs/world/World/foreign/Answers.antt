use Rattle.std.proofs.Common.{sym}
use Rattle.std.proofs.lemmas.Result.{err_from_is_err_and}
use Rattle.custody_steps.specs.WorldOf.{world_of}
use Rattle.custody_steps.proofs.Sendings.{none_outside, is_there, comes_in, from_outside}
use Rattle.custody_steps.proofs.world.World.foreign.Goals as goal

pub returns-in_default-clause-answer : goal.returns-in_default-clause-answer
returns-in_default-clause-answer g c = none_outside c.args.self.now.net.now (world_of c.args.self.now) c.args.message c.in_default.ensures

pub returns-then-is_some-clause-answer : goal.returns-then-is_some-clause-answer
returns-then-is_some-clause-answer g c =
    let w = c.args.self.now in
    comes_in w.net.now (world_of w) c.args.message c.in-Some.found.now c.in-Some.ensures c.entrance.result c.entrance.ensures c.if-is_some.ensures

pub mark_answered-requires : goal.mark_answered-requires
mark_answered-requires g c = rw (← c.in-Some.ensures) (sym c.sender-sender.ensures)

pub returns-in_err-mark_answered-clause-answer : goal.returns-in_err-mark_answered-clause-answer
returns-in_err-mark_answered-clause-answer g c =
    let w = c.args.self.now in
    let m = c.in-Some.found.now in
    let p = err_from_is_err_and c.from_residual.result c.from_residual.ensures.1 in
    rw (p.1, p.2) (
      is_there w.net.now (world_of w) c.args.message m c.in-Some.ensures,
      from_outside w.net.now (world_of w) c.args.message m c.in-Some.ensures c.entrance.result c.entrance.ensures c.if-is_some.ensures,
      c.in_err-mark_answered.ensures.err,
    )

pub returns-clause-answer : goal.returns-clause-answer
returns-clause-answer g c =
    let w = c.args.self.now in
    let m = c.in-Some.found.now in (
      is_there w.net.now (world_of w) c.args.message m c.in-Some.ensures,
      from_outside w.net.now (world_of w) c.args.message m c.in-Some.ensures c.entrance.result c.entrance.ensures c.if-is_some.ensures,
      c.in_ok-mark_answered.ensures.ok,
    )
