use Rattle.std.proofs.Common.{fold, take}
use Rattle.folder_counts.specs.Object.{with_member, Becomes}
use Rattle.folder_counts.proofs.object.put_all.Given as goal

abbrev pub invariant-loop-member : goal.invariant-loop-member
invariant-loop-member g l = Becomes l.fn.writer l.writer (fold with_member l.fn.writer.tokens (take l.member-index l.members))
