use Rattle.numbered_files.proofs.Parts.{digits_behind}
use Rattle.numbered_files.proofs.family.Family.number.Goals as goal

pub returns-in-Some : goal.returns-in-Some
returns-in-Some c = digits_behind c.args.name.now c.args.self.path.now c.args.self.kind.now c.in-Some.rest.now c.number_before.result c.in-Some.ensures c.number_before.ensures
