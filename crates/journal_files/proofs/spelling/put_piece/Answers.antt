use Rattle.journal_files.proofs.Fronts.{bytes_pushed, within_pushed}
use Rattle.journal_files.proofs.spelling.put_piece.Goals as goal

pub returns-clause-bytes : goal.returns-clause-bytes
returns-clause-bytes g c = λ seen. bytes_pushed c.args.pieces.now.items c.push.new.self.items _ c.in_ok-push.ensures.items seen

pub returns-clause-within : goal.returns-clause-within
returns-clause-within g c = λ seen small all before. within_pushed c.args.pieces.now.items c.push.new.self.items _ c.in_ok-push.ensures.items seen (small, all) before
