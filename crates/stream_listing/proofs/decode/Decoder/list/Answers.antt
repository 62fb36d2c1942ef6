use Rattle.stream_listing.proofs.ArrivalSteps.{Lists-none}
use Rattle.stream_listing.proofs.decode.Decoder.list.Goals as goal

pub returns-in-Err-Memory : goal.returns-in-Err-Memory
returns-in-Err-Memory g c = Lists-none c.args.self.now.hex c.args.self.now.feed c.args.piece.now c.clear.new.self.items _ _ c.clear.ensures.items
