use Rattle.std.proofs.Common.{sym, subst, arith}
use Rattle.msgpack_bytes.specs.Names.{IsLastValue}
use Rattle.std.proofs.lemmas.Bool.{both_ways}
use Rattle.msgpack_bytes.proofs.Walk.{pair_of, Found, found_here, found_before, walk_starts, walk_on, key_ahead, value_ahead, walk_ends, kept, spans}
use Rattle.msgpack_bytes.proofs.names.last_value.Goals as goal
use Rattle.msgpack_bytes.proofs.names.last_value.Goals.{then-is_text, else-is_text}

pub loop-init : goal.loop-init
loop-init c = walk_starts _ _ _

pub loop-preserved : goal.loop-preserved
loop-preserved c =
    walk_on _ _ _ _ _ _ _ _ _ _ _ c.loop.invariant (omega arith)
    (c.in_ok-key.ensures.right.0, c.in_ok-key.ensures.right.1, c.in_ok-key.ensures.only)
    (c.in_ok-value.ensures.right.0, c.in_ok-value.ensures.right.1, c.in_ok-value.ensures.only)
    (elim c.if-is_text.branch [
      | then-is_text w ↦ subst (Found _ _) (sym w.last-is) (found_here _ c.loop.invariant.before _ c.in_ok-value.value (c.is_text.ensures.0 w.if-is_text.true))
      | else-is_text w ↦ subst (Found _ _) (sym w.last-is)
          (found_before _ c.loop.invariant.before (pair_of c.in_ok-key.key.now c.in_ok-value.value.now) c.loop.last
          (λ named. both_ways c.is_text.result w.if-is_text.false (c.is_text.ensures.1 named)) c.loop.invariant.found)
    ])

pub returns-in_err-key-clause-only : goal.returns-in_err-key-clause-only
returns-in_err-key-clause-only c pairs value m last =
    let s = c.in_ok-count.ensures.only _ m.header _ m.counted m.whole in
    absurd (key_ahead _ _ _ _ _ _ pairs c.loop.invariant (omega arith) (spans _ _ pairs m.each s) c.in_err-key.ensures.only)

pub returns-in_err-value-clause-only : goal.returns-in_err-value-clause-only
returns-in_err-value-clause-only c pairs value m last =
    let s = c.in_ok-count.ensures.only _ m.header _ m.counted m.whole in
    absurd (value_ahead _ _ _ _ _ _ _ _ pairs c.loop.invariant (omega arith) (spans _ _ pairs m.each s)
    (c.in_ok-key.ensures.right.0, c.in_ok-key.ensures.right.1, c.in_ok-key.ensures.only) c.in_err-value.ensures.only)

pub returns-then-is_empty-clause-only : goal.returns-then-is_empty-clause-only
returns-then-is_empty-clause-only c pairs value m last =
    let s = c.in_ok-count.ensures.only _ m.header _ m.counted m.whole in
    let end = walk_ends _ _ _ _ _ _ pairs c.loop.invariant (omega arith) (spans _ _ pairs m.each s) in
    kept _ c.loop.invariant.before value c.loop.last c.loop.invariant.found (subst (λ ps. IsLastValue c.args.name.now ps value) end.0 last)
