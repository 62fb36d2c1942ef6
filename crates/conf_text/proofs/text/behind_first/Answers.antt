use Rattle.conf_text.proofs.Cuts.{cut_behind}
use Rattle.conf_text.proofs.text.behind_first.Goals as goal

pub range_from-requires : goal.range_from-requires
range_from-requires c = λ _. cut_behind c.args.text.now 1 c.utf8.text c.requires.some (λ _. c.requires.ascii)
