use Rattle.std.proofs.Common.{arith}
use Rattle.file_pieces.proofs.Spans.{span_on}
use Rattle.file_pieces.proofs.runs.run_of.Goals as goal

pub loop-count-preserved : goal.loop-count-preserved
loop-count-preserved c =
    let i = c.loop-count.count in
    let places = c.args.places.now in
    let place = c.index-places-count.result in
    let within = c.loop-count-test.true in
    record {
      some = omega arith;
      within = omega (arith, within);
      span = span_on c.at-at.result c.loop-count.span c.in-Some.longer i places place within c.index-places-count.is c.in-Some.ensures.behind c.in-Some.ensures.end c.loop-count.invariant.span;
      small = λ more. c.in-Some.ensures.small;
    }
