use Rattle.relay_conf.proofs.buffer.buffer_in.Goals as goal

pub returns-in-None : goal.returns-in-None
returns-in-None g c =
    let none = rw c.in-None.is at c.last_child.ensures in
    rw (← none) (rw (c.deref.ensures.value, c.new-none.ensures.items) at c.buffer.ensures)

pub returns-in-Some : goal.returns-in-Some
returns-in-Some g c =
    let some = rw c.in-Some.is at c.last_child.ensures in
    rw (← some, ← c.pairs_of.ensures) c.buffer-in-Some.ensures
