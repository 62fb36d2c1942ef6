use Rattle.conf_text.proofs.Cuts.{cut_blanks_before}
use Rattle.conf_text.proofs.text.skip_blanks.Goals as goal

pub range_from-requires : goal.range_from-requires
range_from-requires c = λ _. rw (c.blanks_before.ensures, c.as_bytes.ensures.value) (cut_blanks_before c.args.text.now c.utf8.text)
