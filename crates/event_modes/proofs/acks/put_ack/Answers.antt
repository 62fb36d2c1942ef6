use Rattle.event_modes.proofs.Acked.{acknowledges}
use Rattle.event_modes.proofs.acks.put_ack.Goals as goal

pub returns-in_err-reserve-clause-means : goal.returns-in_err-reserve-clause-means
returns-in_err-reserve-clause-means g c = acknowledges c.args.item.now

pub returns-clause-means : goal.returns-clause-means
returns-clause-means g c = acknowledges c.args.item.now
