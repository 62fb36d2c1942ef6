use Rattle.std.proofs.Common.{rules, arith}
use Rattle.sink_series.proofs.Onward.{some_case, none_case, shorter, count_start, count_more, count_end}
use Rattle.sink_series.proofs.reading.count_events.Goals as goal

pub loop-first-init : goal.loop-first-init
loop-first-init g c = count_start c.args.bytes.now

pub overflow_add-count : goal.overflow_add-count
overflow_add-count g c =
    let found = some_case c.in_ok-first.field-0 c.in-Some.first _ _ c.in-Some.is c.in_ok-first.ensures in
    let less = shorter c.in-Some.first.0 c.loop-first.rest.now c.in-Some.first.1.now found.1 in
    let few = c.loop-first.invariant.few in
    search (rules, arith)

pub loop-first-smaller : goal.loop-first-smaller
loop-first-smaller g c =
    let found = some_case c.in_ok-first.field-0 c.in-Some.first _ _ c.in-Some.is c.in_ok-first.ensures in
    shorter c.in-Some.first.0 c.loop-first.rest.now c.in-Some.first.1.now found.1

pub loop-first-preserved : goal.loop-first-preserved
loop-first-preserved g c =
    let found = some_case c.in_ok-first.field-0 c.in-Some.first _ _ c.in-Some.is c.in_ok-first.ensures in
    count_more c.args.bytes.now c.loop-first.rest.now c.in-Some.first.1.now c.loop-first.count c.in-Some.first.0 c.loop-first.invariant found.0 found.1

pub returns : goal.returns
returns g c =
    let none = none_case c.in_ok-first.field-0 _ _ c.in_default.is c.in_ok-first.ensures in
    count_end c.args.bytes.now c.loop-first.rest.now c.loop-first.count c.loop-first.invariant none
