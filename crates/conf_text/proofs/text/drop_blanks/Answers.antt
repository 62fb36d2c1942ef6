use Rattle.std.proofs.lemmas.List.Sums.{suffix_len-le-length}
use Rattle.conf_text.specs.Text.{is_blank}
use Rattle.conf_text.proofs.Cuts.{cut_blanks_behind}
use Rattle.conf_text.proofs.text.drop_blanks.Goals as goal

pub overflow_sub-text : goal.overflow_sub-text
overflow_sub-text c = rw (c.blanks_behind.ensures, c.as_bytes.ensures.value) (suffix_len-le-length is_blank c.args.text.now)

pub range-requires-clause-end_boundary : goal.range-requires-clause-end_boundary
range-requires-clause-end_boundary c = rw (c.blanks_behind.ensures, c.as_bytes.ensures.value) (cut_blanks_behind c.args.text.now)
