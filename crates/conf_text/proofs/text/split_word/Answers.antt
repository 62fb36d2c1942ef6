use Rattle.conf_text.proofs.Cuts.{cut_word}
use Rattle.conf_text.proofs.text.split_word.Goals as goal

pub split_at-requires : goal.split_at-requires
split_at-requires c = rw (c.word_end.ensures, c.as_bytes.ensures.value) (cut_word c.args.text.now)
