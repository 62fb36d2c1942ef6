use Rattle.std.proofs.Common.{arith}
use Rattle.msgpack_bytes.proofs.Standing.{stands_end, stands_pop, stands_wrong, stands_deep, stands_cut, stands_lacks_long, stands_whole_long, stands_opens_long, lacks_size, whole_size, opens_size, stands_whole, stands_opens}
use Rattle.msgpack_bytes.proofs.scanner.go_on.Goals as goal

pub loop-levels-preserved-then-left-eq0 : goal.loop-levels-preserved-then-left-eq0
loop-levels-preserved-then-left-eq0 c = record {
  seen = c.loop-levels.invariant.seen;
  some = stands_pop _ _ _ _ _ _ _ _ c.loop-levels.invariant.some (omega arith) c.if-left-eq0.true;
  each = λ other s. stands_pop _ _ _ _ _ _ _ _ (c.loop-levels.invariant.each other s) (omega arith) c.if-left-eq0.true;
}

pub next_step-requires-clause-few : goal.next_step-requires-clause-few
next_step-requires-clause-few c = let short = c.loop-levels.invariant.some.short in omega arith

pub returns-in-Wrong : goal.returns-in-Wrong
returns-in-Wrong c = λ other s. stands_wrong _ _ _ _ _ _ _ _ (c.loop-levels.invariant.each other s) (omega arith) (omega arith) c.in-Wrong.ensures.is

pub returns-in-Deep : goal.returns-in-Deep
returns-in-Deep c = λ other s. stands_deep _ _ _ _ _ _ _ _ (c.loop-levels.invariant.each other s) (omega arith) (omega arith) c.in-Deep.ensures.is

pub overflow_sub-size : goal.overflow_sub-size
overflow_sub-size c = let some = lacks_size _ _ _ _ _ _ _ _ c.loop-levels.invariant.some (omega arith) (omega arith) _ c.in-Lacks.ensures.is in omega arith

pub returns-in-Lacks : goal.returns-in-Lacks
returns-in-Lacks c = λ other s. stands_cut _ _ _ _ _ _ _ _ (c.loop-levels.invariant.each other s) (omega arith) (omega arith) _ c.in-Lacks.ensures.is (omega arith)

pub overflow_sub-size-in-Whole-1 : goal.overflow_sub-size-in-Whole-1
overflow_sub-size-in-Whole-1 c = let some = whole_size _ _ _ _ _ _ _ _ c.loop-levels.invariant.some (omega arith) (omega arith) _ c.in-Whole.ensures.is in omega arith

pub overflow_sub-room : goal.overflow_sub-room
overflow_sub-room c = let some = whole_size _ _ _ _ _ _ _ _ c.loop-levels.invariant.some (omega arith) (omega arith) _ c.in-Whole.ensures.is in omega arith

pub overflow_sub-at : goal.overflow_sub-at
overflow_sub-at c = let some = whole_size _ _ _ _ _ _ _ _ c.loop-levels.invariant.some (omega arith) (omega arith) _ c.in-Whole.ensures.is in omega arith

pub loop-levels-smaller-then-size-room-2 : goal.loop-levels-smaller-then-size-room-2
loop-levels-smaller-then-size-room-2 c =
    let some = whole_size _ _ _ _ _ _ _ _ c.loop-levels.invariant.some (omega arith) (omega arith) _ c.in-Whole.ensures.is in
    let on = stands_whole _ _ _ _ _ _ _ _ c.loop-levels.invariant.some (omega arith) (omega arith) _ c.in-Whole.ensures.is (omega arith) in
    let within = on.within in
    omega arith

pub loop-levels-preserved-then-size-room-2 : goal.loop-levels-preserved-then-size-room-2
loop-levels-preserved-then-size-room-2 c = record {
  seen = c.loop-levels.invariant.seen;
  some = stands_whole _ _ _ _ _ _ _ _ c.loop-levels.invariant.some (omega arith) (omega arith) _ c.in-Whole.ensures.is (omega arith);
  each = λ other s. stands_whole _ _ _ _ _ _ _ _ (c.loop-levels.invariant.each other s) (omega arith) (omega arith) _ c.in-Whole.ensures.is (omega arith);
}

pub overflow_sub-size-in-Opens-1 : goal.overflow_sub-size-in-Opens-1
overflow_sub-size-in-Opens-1 c = let some = opens_size _ _ _ _ _ _ _ _ c.loop-levels.invariant.some (omega arith) (omega arith) _ _ c.in-Opens.ensures.is in omega arith

pub bounds-missing-levels-in-Opens-2 : goal.bounds-missing-levels-in-Opens-2
bounds-missing-levels-in-Opens-2 c =
    let on = stands_opens _ _ _ _ _ _ _ _ c.loop-levels.invariant.some (omega arith) (omega arith) _ _ c.in-Opens.ensures.is (omega arith) in
    let few = on.state.few in
    omega arith

pub overflow_sub-room-in-Opens : goal.overflow_sub-room-in-Opens
overflow_sub-room-in-Opens c = let some = opens_size _ _ _ _ _ _ _ _ c.loop-levels.invariant.some (omega arith) (omega arith) _ _ c.in-Opens.ensures.is in omega arith

pub overflow_sub-at-in-Opens : goal.overflow_sub-at-in-Opens
overflow_sub-at-in-Opens c = let some = opens_size _ _ _ _ _ _ _ _ c.loop-levels.invariant.some (omega arith) (omega arith) _ _ c.in-Opens.ensures.is in omega arith

pub loop-levels-smaller : goal.loop-levels-smaller
loop-levels-smaller c =
    let some = opens_size _ _ _ _ _ _ _ _ c.loop-levels.invariant.some (omega arith) (omega arith) _ _ c.in-Opens.ensures.is in
    let on = stands_opens _ _ _ _ _ _ _ _ c.loop-levels.invariant.some (omega arith) (omega arith) _ _ c.in-Opens.ensures.is (omega arith) in
    let within = on.within in
    omega arith

pub loop-levels-preserved : goal.loop-levels-preserved
loop-levels-preserved c = record {
  seen = c.loop-levels.invariant.seen;
  some = stands_opens _ _ _ _ _ _ _ _ c.loop-levels.invariant.some (omega arith) (omega arith) _ _ c.in-Opens.ensures.is (omega arith);
  each = λ other s. stands_opens _ _ _ _ _ _ _ _ (c.loop-levels.invariant.each other s) (omega arith) (omega arith) _ _ c.in-Opens.ensures.is (omega arith);
}

pub returns-in_default : goal.returns-in_default
returns-in_default c = λ other s. stands_lacks_long _ _ _ _ _ _ _ _ (c.loop-levels.invariant.each other s) (omega arith) (omega arith) _ c.in-Lacks.ensures.is (omega arith)

pub returns-in_default-2 : goal.returns-in_default-2
returns-in_default-2 c = λ other s. stands_whole_long _ _ _ _ _ _ _ _ (c.loop-levels.invariant.each other s) (omega arith) (omega arith) _ c.in-Whole.ensures.is (omega arith)

pub returns-in_default-3 : goal.returns-in_default-3
returns-in_default-3 c = λ other s. stands_opens_long _ _ _ _ _ _ _ _ (c.loop-levels.invariant.each other s) (omega arith) (omega arith) _ _ c.in-Opens.ensures.is (omega arith)

pub returns : goal.returns
returns c = λ other s. stands_end _ _ _ _ _ _ _ _ (c.loop-levels.invariant.each other s) (omega arith)
