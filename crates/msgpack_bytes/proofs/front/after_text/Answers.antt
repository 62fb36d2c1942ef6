use Rattle.std.proofs.lemmas.Bool.Decides.{Decides-eqb}
use Rattle.std.proofs.lemmas.Slice.Eq.{slice_eq-Decides}
use Rattle.std.proofs.lemmas.Bool.{both_ways}
use Rattle.msgpack_bytes.proofs.front.after_text.Goals as goal

pub returns-in_err-found-clause-only : goal.returns-in_err-found-clause-only
returns-in_err-found-clause-only c front back p e = absurd (c.in_err-found.ensures.only front c.args.content.now back p e)

pub returns-then-eq-clause-only : goal.returns-then-eq-clause-only
returns-then-eq-clause-only c front back p e = (c.in_ok-found.ensures.only front c.args.content.now back p e).1

pub returns-else-eq-clause-only : goal.returns-else-eq-clause-only
returns-else-eq-clause-only c front back p e =
    let found = (c.in_ok-found.ensures.only front c.args.content.now back p e).0 in
    both_ways c.eq.result c.if-eq.false ((slice_eq-Decides Decides-eqb _ _ _ c.eq.ensures).1 found)
