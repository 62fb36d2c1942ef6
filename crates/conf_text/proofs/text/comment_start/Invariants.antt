use Rattle.std.proofs.Common.{◌≡◌, ◌+◌, ◌-◌, ◌<◌, length, drop}
use Rattle.conf_text.specs.Text.{comment_at}
use Rattle.conf_text.proofs.text.comment_start.Given as goal

abbrev pub invariant-loop-i : goal.invariant-loop-i
invariant-loop-i l = 0 < length l.text → comment_at (drop (l.i - 1) l.text) + (l.i - 1) ≡ comment_at l.text
