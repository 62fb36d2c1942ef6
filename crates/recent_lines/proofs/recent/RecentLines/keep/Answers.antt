use Rattle.std.proofs.Common.{subst}
use Rattle.recent_lines.specs.Recent.{IsTold}
use Rattle.recent_lines.proofs.Kept.{kept_end, line_kept, line_left}
use Rattle.recent_lines.proofs.recent.RecentLines.keep.Goals as goal

pub returns-in_default : goal.returns-in_default
returns-in_default g c = kept_end c.args.self.now c.lines.self c.args.text.now c.lines.rest.now c.lines.kept.items c.lines.invariant c.in_default.ensures

pub lines-preserved-in_ok-extend_from_slice : goal.lines-preserved-in_ok-extend_from_slice
lines-preserved-in_ok-extend_from_slice g c =
    line_kept c.args.self.now c.lines.self c.is_new.new.self c.args.text.now c.lines.rest.now c.in-Some.line.now c.in-Some.behind.now c.lines.kept.items c.extend_from_slice.new.self.items c.lines.invariant
    c.in-Some.ensures (subst (λ is. IsTold c.lines.self c.in-Some.line.now is c.is_new.new.self) c.if-branch.true c.in_ok-is_new.ensures.told) c.in_ok-extend_from_slice.ensures.items

pub lines-preserved : goal.lines-preserved
lines-preserved g c =
    line_left c.args.self.now c.lines.self c.is_new.new.self c.args.text.now c.lines.rest.now c.in-Some.line.now c.in-Some.behind.now c.lines.kept.items c.lines.invariant c.in-Some.ensures
    (subst (λ is. IsTold c.lines.self c.in-Some.line.now is c.is_new.new.self) c.if-branch.false c.in_ok-is_new.ensures.told)
