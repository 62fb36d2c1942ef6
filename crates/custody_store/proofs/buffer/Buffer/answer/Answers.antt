use Rattle.std.proofs.Common.{ap, ◌∙◌, cond, true, ◌==◌, arith}
use Rattle.custody_store.specs.declared.buffer.Buffer.TheInside.{Inside}
use Rattle.custody_store.proofs.Slots.{flag_at-push, flag_at-set}
use Rattle.custody_store.proofs.buffer.Buffer.answer.Goals as goal

pub loop-self-preserved : goal.loop-self-preserved
loop-self-preserved g c =
    let l = c.loop-self.self-inside in (
      ap (λ (s : Inside g.row.A.Denot). record s { answered = c.push.new.self }) c.loop-self.invariant.0,
      λ s. rw c.in_ok-push.ensures.items (flag_at-push l.answered.items s ∙ c.loop-self.invariant.1 s),
    )

pub returns-clause-ok : goal.returns-clause-ok
returns-clause-ok g c =
    let l = c.loop-self.self-inside in
    let n = l.answered.ok.0 in
    rw (← c.self.view_is) (λ s. flag_at-set l.answered.items c.args.serial s (omega arith) ∙ ap (cond (s == c.args.serial) true) (c.loop-self.invariant.1 s))
