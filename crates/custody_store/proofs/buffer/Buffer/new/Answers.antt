use Rattle.std.proofs.Common.{length, sym, ap}
use Rattle.custody_store.proofs.Slots.{no_slots, sound_again}
use Rattle.custody_store.proofs.buffer.Buffer.new.Goals as goal

pub invariant_of-result : goal.invariant_of-result
invariant_of-result g c = sound_again (length c.new-4.result.items) 0 c.new.result.items (sym (ap length c.new-4.ensures.items)) (no_slots _ _ c.new.ensures.items)
