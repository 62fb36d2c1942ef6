use Rattle.conf_text.proofs.Cuts.{cut_behind}
use Rattle.conf_text.proofs.quoted.piece_at.Goals as goal

pub range_from-requires : goal.range_from-requires
range_from-requires c = λ _.
    let e = rw c.as_bytes.ensures.value at c.in-Close.ensures in
    cut_behind c.args.text.now 1 c.utf8.text e.0 (λ _. e.1)

pub range_from-requires-in-Stands : goal.range_from-requires-in-Stands
range_from-requires-in-Stands c = λ _.
    let e = rw c.as_bytes.ensures.value at c.in-Stands.ensures in
    cut_behind c.args.text.now c.in-Stands.len c.utf8.text e.2 (λ _. e.3)
