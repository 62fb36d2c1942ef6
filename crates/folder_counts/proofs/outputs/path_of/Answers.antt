use Rattle.std.proofs.Common.{rules}
use Rattle.folder_counts.proofs.Paths.{utf8_path}
use Rattle.folder_counts.proofs.outputs.path_of.Goals as goal

pub returns-in-Err : goal.returns-in-Err
returns-in-Err c = absurd (c.in-Err.ensures.cases.0 (utf8_path c.args.word.now (search rules)))
