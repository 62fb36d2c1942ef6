use Rattle.journal_files.proofs.Cuts.{used_of, replayed_of, sealed_of}
use Rattle.journal_files.proofs.OneWay.{one_way, undamaged}
use Rattle.journal_files.proofs.laws.opens_one_way.Goals as goal

pub returns-clause-one : goal.returns-clause-one
returns-clause-one c = one_way c.answers_one_way.ensures

pub returns-clause-undamaged : goal.returns-clause-undamaged
returns-clause-undamaged c = undamaged c.answers_one_way.ensures

pub returns-clause-replayed : goal.returns-clause-replayed
returns-clause-replayed c bytes state = (
  λ sealed. (used_of bytes state sealed, replayed_of bytes state sealed),
  λ replayed. sealed_of bytes state replayed.0 replayed.1,
)
