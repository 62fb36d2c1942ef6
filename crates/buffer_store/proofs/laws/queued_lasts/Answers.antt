use Rattle.buffer_store.proofs.Lasting.{keeps_queued}
use Rattle.buffer_store.proofs.laws.queued_lasts.Goals as goal

pub returns : goal.returns
returns c = keeps_queued
