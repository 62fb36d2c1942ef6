use Rattle.std.specs.Str.{bytes_eq}
use Rattle.std.proofs.lemmas.Bool.Decides.{Decides-at}
use Rattle.std.proofs.lemmas.Slice.Eq.{bytes_eq-Decides}
use Rattle.loss_rules.proofs.text.is_same_text.Goals as goal

pub returns : goal.returns
returns c = Decides-at c.eq.result (bytes_eq c.args.one.now c.args.two.now) c.eq.ensures (bytes_eq-Decides c.args.one.now c.args.two.now)
