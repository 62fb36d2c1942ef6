use Rattle.std.proofs.Common.{arith}
use Rattle.std.proofs.lemmas.Str.Pattern.{split_after}
use Rattle.label_plan.proofs.name.split_first.Goals as goal

pub returns-in-None-clause-only : goal.returns-in-None-clause-only
returns-in-None-clause-only c = λ front back is none. let h = split_after 58 c.args.text.now front back c.split_once.result c.split_once.ensures.cases (omega arith) is none in rw c.in-None.is at h

pub returns-in-Some-clause-only : goal.returns-in-Some-clause-only
returns-in-Some-clause-only c = λ front back is none. let h = split_after 58 c.args.text.now front back c.split_once.result c.split_once.ensures.cases (omega arith) is none in rw c.in-Some.is at h
