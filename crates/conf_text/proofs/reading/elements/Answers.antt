use Rattle.std.proofs.Common.{ap, refl, arith}
use Rattle.std.specs.Str.Lines.{lines}
use Rattle.std.proofs.lemmas.Iterator.Splits.{YieldsList-from_lines}
use Rattle.std.proofs.lemmas.Iterator.Consumers.{YieldsList-turn, YieldsList-end}
use Rattle.std.proofs.lemmas.List.{length_push}
use Rattle.std.proofs.lemmas.Result.{err_from_is_err_and}
use Rattle.conf_text.specs.Grammar.{numbered, lines_of}
use Rattle.conf_text.specs.Reading.{steps, start, elements_of}
use Rattle.conf_text.specs.Frames.{stack_of}
use Rattle.conf_text.proofs.Loop.{goes_on, stops, is_done}
use Rattle.conf_text.proofs.reading.elements.Goals as goal

pub loop-line-init : goal.loop-line-init
unfolding lines_of
loop-line-init g c = record {
  counted = refl;
  so_far = ap (λ s. steps (numbered 1 (lines c.args.text.now)) s) c.new-reader.ensures;
}

pub loop-line-preserved : goal.loop-line-preserved
loop-line-preserved g c =
    let turn = YieldsList-turn (YieldsList-from_lines c.args.text.now (cc)) c.loop-line.yielded _ c.loop-line.yielded_by _ _ c.in-Some.line c.in-Some.is c.next.ensures.steps in
    let at = rw (← c.loop-line.invariant.counted) at turn in
    record {
      counted = omega (arith, length_push c.loop-line.yielded c.in-Some.line, c.loop-line.invariant.counted);
      so_far = goes_on c.loop-line.number (lines c.args.text.now) c.in-Some.line.now (stack_of c.loop-line.reader) (stack_of c.take.new.self) (steps (lines_of c.args.text.now) start) at c.in_ok-take.ensures c.loop-line.invariant.so_far;
    }

pub returns-in_err-take : goal.returns-in_err-take
unfolding elements_of
returns-in_err-take g c =
    let turn = YieldsList-turn (YieldsList-from_lines c.args.text.now (cc)) c.loop-line.yielded _ c.loop-line.yielded_by _ _ c.in-Some.line c.in-Some.is c.next.ensures.steps in
    let at = rw (← c.loop-line.invariant.counted) at turn in
    let p = err_from_is_err_and c.from_residual.result c.from_residual.ensures.1 in
    rw (p.1, p.2) (stops c.in_err-take.field-0.0 c.loop-line.number (lines c.args.text.now) c.in-Some.line.now (stack_of c.loop-line.reader) (steps (lines_of c.args.text.now) start) at c.in_err-take.ensures c.loop-line.invariant.so_far)

pub returns : goal.returns
unfolding elements_of
returns g c =
    let end = YieldsList-end (YieldsList-from_lines c.args.text.now (cc)) c.loop-line.yielded _ c.loop-line.yielded_by _ _ c.in-None.is c.next.ensures.steps in
    rw (is_done c.loop-line.number (lines c.args.text.now) (stack_of c.loop-line.reader) (steps (lines_of c.args.text.now) start) (omega (arith, end.1, c.loop-line.invariant.counted)) c.loop-line.invariant.so_far) c.finish.ensures
