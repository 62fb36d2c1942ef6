use Rattle.std.proofs.Common.{ℕ, List, ◌≡◌, ◌/◌, ◌++◌, IfOk, append_assoc, codes, decimal, string_bytes, subst}
use Rattle.folder_counts.specs.Times.{second}
use Rattle.folder_counts.proofs.times.signed_text.Goals as goal

pub returns : goal.returns
returns g c =
    subst (λ (p : List ℕ). IfOk c.format.result (λ text. string_bytes text ≡ c.args.sign.now ++ (decimal (c.args.nanos / second) ++ codes "." ++ p))) c.in_ok-part.ensures
    (simp append_assoc c.format.ensures.ok)
