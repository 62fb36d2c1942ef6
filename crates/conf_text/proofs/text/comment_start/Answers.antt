use Rattle.std.proofs.Common.{◌-◌, sym, ◌∙◌, refl, arith}
use Rattle.conf_text.specs.Text.{comment_at}
use Rattle.conf_text.proofs.Cuts.{comment_found, comment_goes_on, comment_nowhere}
use Rattle.conf_text.proofs.text.comment_start.Goals as goal

pub returns-then-is_comment : goal.returns-then-is_comment
returns-then-is_comment c = comment_found c.args.text.now (c.loop-i.i - 1) c.loop-i.i (comment_at c.args.text.now) (omega arith) c.loop-i-test.true (sym c.is_comment.ensures ∙ c.if-is_comment.true) c.loop-i.invariant

pub loop-i-preserved : goal.loop-i-preserved
loop-i-preserved c = comment_goes_on c.args.text.now (c.loop-i.i - 1) c.loop-i.i (comment_at c.args.text.now) (omega arith) c.loop-i-test.true (sym c.is_comment.ensures ∙ c.if-is_comment.false) c.loop-i.invariant

pub returns : goal.returns
returns c = comment_nowhere c.args.text.now (c.loop-i.i - 1) c.loop-i.i (comment_at c.args.text.now) (omega arith) c.loop-i-test.false c.loop-i.auto.i-end c.loop-i.invariant refl
