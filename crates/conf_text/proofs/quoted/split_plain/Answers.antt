use Rattle.conf_text.proofs.Quotes.{plain_run, plain_ends, cut_plain}
use Rattle.conf_text.proofs.quoted.split_plain.Goals as goal

pub split_at-requires : goal.split_at-requires
split_at-requires c = rw (c.plain_len.ensures, c.as_bytes.ensures.value) (cut_plain c.args.mark c.args.text.now c.requires)

pub returns-clause-reads : goal.returns-clause-reads
returns-clause-reads c = rw (c.split_at.ensures.front, c.split_at.ensures.back, c.plain_len.ensures, c.as_bytes.ensures.value) (plain_run c.args.mark c.args.text.now)

pub returns-clause-special : goal.returns-clause-special
returns-clause-special c = rw (c.split_at.ensures.back, c.plain_len.ensures, c.as_bytes.ensures.value) (plain_ends c.args.mark c.args.text.now)
