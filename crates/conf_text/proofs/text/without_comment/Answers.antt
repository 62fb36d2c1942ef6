use Rattle.conf_text.proofs.Cuts.{cut_comment}
use Rattle.conf_text.proofs.text.without_comment.Goals as goal

pub range-requires-clause-end_boundary : goal.range-requires-clause-end_boundary
range-requires-clause-end_boundary c = rw (c.comment_start.ensures, c.as_bytes.ensures.value) (cut_comment c.args.text.now)
