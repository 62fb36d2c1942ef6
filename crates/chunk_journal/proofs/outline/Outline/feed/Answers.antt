use Rattle.std.proofs.Common.{◌≡◌, ◌+◌, ◌++◌, false, length, sym, subst, arith}
use Rattle.chunk_journal.specs.Feeding.{Heard, IsAfter}
use Rattle.chunk_journal.proofs.Fed.{going, reading, is_after, held_more}
use Rattle.std.proofs.lemmas.List.{length-append}
use Rattle.chunk_journal.proofs.outline.Outline.feed.Goals as goal

pub returns-clause-ok : goal.returns-clause-ok
returns-clause-ok g c = λ seen a.
    let mid : Heard = c.read_on.new.self in
    let off : mid.is_damaged ≡ false = going mid c.in_ok-read_on.ensures.going in
    let a1 : IsAfter mid seen = c.read_on.ensures.after seen a in
    let long : mid.fed + length c.args.piece.now ≡ length (seen ++ c.args.piece.now) = (let f = a1.fed in omega (arith, f, length-append seen c.args.piece.now)) in
    subst (λ (h : Heard). IsAfter h (seen ++ c.args.piece.now)) (sym c.in_ok-hold.ensures.ok)
    (is_after _ (seen ++ c.args.piece.now) off long (held_more mid seen (reading mid seen off a1) c.args.piece.now (mid.fed + length c.args.piece.now)))
