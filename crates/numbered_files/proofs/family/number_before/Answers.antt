use Rattle.numbered_files.proofs.Parts.{digits_before}
use Rattle.numbered_files.proofs.family.number_before.Goals as goal

pub returns-in-Some : goal.returns-in-Some
returns-in-Some c = digits_before c.args.bytes.now c.args.end.now c.in-Some.numeral.now c.number_of.result c.in-Some.ensures c.number_of.ensures
