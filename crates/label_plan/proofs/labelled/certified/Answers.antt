use Rattle.std.proofs.Common.{rules, subst}
use Rattle.plan_lines.specs.Plans.{Say, texts}
use Rattle.text_lines.specs.Lines.{text_lines}
use Rattle.label_plan.proofs.Peeling.{all_off}
use Rattle.label_plan.proofs.labelled.certified.Goals as goal

pub returns : goal.returns
returns g c =
    let confs = texts c.args.confs.now in
    let read = rw c.in-Some.is at c.in_ok-plan.ensures in
    let said = subst (λ text. Say confs (text_lines text) read.before) c.deref.ensures.value read.was in
    let off = all_off (text_lines c.args.net.now) c.requires.lines (subst (λ ls. Say confs ls read.before) c.requires.lines_are said) c.requires.labels in
    record {
      lines = c.requires.lines;
      lines_are = c.requires.lines_are;
      before = off.before;
      was = off.was;
      after = read.before;
      is = said;
      extends = off.extends;
      changed = c.in-Some.plan;
      dropped = read.dropped;
      closed = c.in_ok-is_closed.ensures (let z = c.if-not-branch.false in search rules);
    }
