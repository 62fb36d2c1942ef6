use Rattle.std.proofs.Common.{ℕ, List, [], ◌≡◌, ◌++◌, append-nil, append_assoc, codes, decimal, subst}
use Rattle.std.specs.Prelude.{OnOk}
use Rattle.folder_counts.proofs.outputs_lines.put_deliveries.Goals as goal

six_pieces : (text a b c d e f : List ℕ) → text ++ (a ++ (b ++ (c ++ (d ++ (e ++ (f ++ [])))))) ≡ text ++ a ++ b ++ c ++ d ++ e ++ f
six_pieces text a b c d e f = simp (append_assoc, append-nil)

pub returns : goal.returns
returns g c =
    let counts = c.args.counts in
    subst (λ z. OnOk c.put_pieces.result (c.put_pieces.new.text.items ≡ z))
    (six_pieces c.args.line.now.items (codes " failing ") (decimal counts.failing) (codes " failures ") (decimal counts.failures) (codes " delivered ") (decimal counts.delivered)) c.put_pieces.ensures
