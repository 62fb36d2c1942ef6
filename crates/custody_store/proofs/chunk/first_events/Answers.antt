use Rattle.std.proofs.lemmas.List.{take-map}
use Rattle.custody_store.proofs.chunk.first_events.Goals as goal

pub returns-in-Some : goal.returns-in-Some
returns-in-Some g c =
    let e = rw (c.as_bytes.ensures.bytes, c.deref.ensures.value) at c.copy_events.ensures in
    rw c.in-Some.is (rw take-map e)
