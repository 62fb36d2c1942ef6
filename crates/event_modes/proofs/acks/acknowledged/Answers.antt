use Rattle.std.proofs.Common.{arith}
use Rattle.std.specs.Prelude.{codes}
use Rattle.event_modes.proofs.Acked.{acknowledged_at, Spanned, placed, spanned, same_value, no_value}
use Rattle.event_modes.proofs.acks.acknowledged.Goals as goal

pub returns-in_err-map_of : goal.returns-in_err-map_of
returns-in_err-map_of c = rw c.from_residual.ensures (λ content a. c.in_err-map_of.ensures a.pairs a.map)

pub returns-in_err-last : goal.returns-in_err-last
returns-in_err-last c =
    let m = c.in_ok-map_of.ensures in
    rw c.from_residual-in_err-last.ensures (λ content a. no_value c.args.item.now content m.0 m.1 (c.in_err-last.ensures m.0 m.2) a)

pub returns-in_err-content : goal.returns-in_err-content
returns-in_err-content c =
    let m = c.in_ok-map_of.ensures in
    rw c.from_residual-in_err-content.ensures
    (λ content a. c.in_err-content.ensures.right content (same_value c.args.item.now content c.in_ok-last.last.value.now m.0 m.1 (c.in_ok-last.ensures m.0 m.2).last a))

found : (c : goal.In_ok-content) → Spanned c.args.item.now c.in_ok-content.content.now c.in_ok-last.last.behind
found c =
    let m = c.in_ok-map_of.ensures in
    let l = c.in_ok-last.ensures m.0 m.2 in
    spanned c.args.item.now c.in_ok-content.content.now c.in_ok-last.last.behind
    (placed c.args.item.now (codes "ack") c.in_ok-last.last.value.now c.in_ok-content.content.now m.0 c.in_ok-last.last.behind l.last m.1 l.behind c.in_ok-content.ensures.right)

pub overflow_sub-end : goal.overflow_sub-end
overflow_sub-end c = let f = (found c).fits in omega arith

pub overflow_sub-result : goal.overflow_sub-result
overflow_sub-result c = let f = (found c).fits in omega arith

pub returns : goal.returns
returns c =
    let m = c.in_ok-map_of.ensures in
    let l = c.in_ok-last.ensures m.0 m.2 in
    acknowledged_at c.args.item.now c.in_ok-content.content.now c.in_ok-last.last.value.now c.in_ok-last.last.behind m.0 c.requires m.1 l.last l.behind c.in_ok-content.ensures.right (found c)
