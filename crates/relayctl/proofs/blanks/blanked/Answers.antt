use Rattle.std.proofs.Common.{take, length}
use Rattle.std.proofs.lemmas.List.Elements.{all_zip_more}
use Rattle.relayctl.specs.Faults.{IsByteOrBlank}
use Rattle.relayctl.proofs.Leaving.{byte_more}
use Rattle.relayctl.proofs.blanks.blanked.Goals as goal

pub loop-byte-preserved : goal.loop-byte-preserved
loop-byte-preserved g c =
    byte_more c.args.text.now c.loop-byte.byte-index c.loop-byte.all.items c.byte_left.result c.push.new.self.items c.loop-byte-test.true c.loop-byte.invariant c.byte_left.ensures c.in_ok-push.ensures.items
