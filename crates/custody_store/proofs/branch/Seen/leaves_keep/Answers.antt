use Rattle.std.proofs.Common.{◌≢◌, []}
use Rattle.custody_store.proofs.branch.Seen.leaves_keep.Goals as goal

pub returns : goal.returns
returns g c =
    let some : c.args.leaves.now ≢ [] = λ none. (let e = rw none at c.if-is_empty.ensures in absurd (cc)) in
    (λ t. (some, c.all_keep.ensures.0 t), λ h. c.all_keep.ensures.1 h.1)
