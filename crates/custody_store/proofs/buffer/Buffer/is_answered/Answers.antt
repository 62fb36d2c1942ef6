use Rattle.std.proofs.lemmas.Option.{slice_get_read, slice_get_past}
use Rattle.std.proofs.Common.{length, refl}
use Rattle.custody_store.proofs.buffer.Buffer.is_answered.Goals as goal

pub returns-in-Some : goal.returns-in-Some
returns-in-Some g c =
    let s = c.self.inside in
    let at = rw c.deref.ensures.value at c.in-Some.ensures.lookup in
    rw (← c.self.view_is, slice_get_read s.answered.items (length s.answered.items) c.args.serial c.in-Some.flag.now refl at.3.0 at.1) refl

pub returns-in-None : goal.returns-in-None
returns-in-None g c =
    let s = c.self.inside in
    let at = rw c.deref.ensures.value at c.in-None.ensures.lookup in
    rw (← c.self.view_is, slice_get_past s.answered.items c.args.serial at.3) refl
