use Rattle.std.proofs.lemmas.Result.{err_from_is_err_and}
use Rattle.std.proofs.lemmas.List.{length-map}
use Rattle.std.proofs.Common.{refl, arith}
use Rattle.custody_store.proofs.Slots.{count_within, contents_from-stored}
use Rattle.custody_store.proofs.buffer.Buffer.store_first.Goals as goal

pub first_events-requires : goal.first_events-requires
first_events-requires g c =
    let s = c.self.inside in
    count_within s.generation s.chunks.items c.args.serial c.args.count c.index.result.now (rw (← c.self.view_is) at c.requires.there) c.index.ensures (rw (← c.self.view_is) at c.requires.has)

pub returns-clause-ok : goal.returns-clause-ok
returns-clause-ok g c =
    let s = c.self.inside in
    let within = rw (← c.self.view_is) at c.requires.there in
    rw (← c.self.view_is)
    (contents_from-stored s.generation s.chunks.items c.args.serial c.args.count c.index.result.now s.sink.items _ c.in_ok-events.events.items s.answered.items within c.index.ensures c.in_ok-append.ensures.items c.in_ok-events.ensures)

pub index-requires : goal.index-requires
index-requires g c =
    let s = c.self.inside in
    let n = s.chunks.ok.0 in
    let within = simp length-map at (rw (← c.self.view_is) at c.requires.there) in
    omega (arith, n, within)

pub returns-in_err-events-clause-err : goal.returns-in_err-events-clause-err
returns-in_err-events-clause-err g c =
    let p = err_from_is_err_and c.from_residual.result c.from_residual.ensures.1 in
    rw p.1 refl

pub returns-in_err-append-clause-err : goal.returns-in_err-append-clause-err
returns-in_err-append-clause-err g c =
    let p = err_from_is_err_and c.from_residual-in_err-append.result c.from_residual-in_err-append.ensures.1 in
    rw (p.1, c.in_err-append.ensures.items) c.self.view_is

pub invariant_of-self : goal.invariant_of-self
invariant_of-self g c = c.self.invariant

pub invariant_of-self-2 : goal.invariant_of-self-2
invariant_of-self-2 g c = c.self.invariant
