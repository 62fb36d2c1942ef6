use Rattle.std.proofs.Common.{◌∙◌, ap, ◌++◌, ◌∷◌, [], List, ℕ}
use Rattle.msgpack_bytes.proofs.Spelled.{tail_of, appended}
use Rattle.msgpack_bytes.proofs.writer.put.Goals as goal

pub returns-clause-ok : goal.returns-clause-ok
returns-clause-ok g c =
    let first = c.push_reserved.ensures.items ∙ ap (λ (xs : List ℕ). xs ++ c.args.first ∷ []) c.reserve.ensures.items in
    appended _ _ _ _ _ _ _ c.args.first first c.in_ok-extend_from_slice.ensures.items c.in_ok-extend_from_slice-2.ensures.items
    (tail_of c.to_be_bytes.result c.args.width c.args.number c.requires.width c.to_be_bytes.ensures)
