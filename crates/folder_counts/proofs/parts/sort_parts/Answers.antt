use Rattle.std.proofs.Common.{◌≡◌, ap, rules}
use Rattle.std.specs.Cmp.Lexicographic.{slice_cmp}
use Rattle.std.specs.Ordering.{is_lt, nat_cmp}
use Rattle.std.proofs.lemmas.Cmp.{nat_list_cmp_total}
use Rattle.std.proofs.lemmas.List.Sorted.{answers_always, ranks_by}
use Rattle.folder_counts.specs.Order.{is_before}
use Rattle.folder_counts.proofs.parts.sort_parts.Goals as goal

pub returns-clause-rise : goal.returns-clause-rise
returns-clause-rise g c =
    let path = g.T.Part.path_of in
    c.sort_unstable_by.ensures.sorted (λ a b. is_before (path a) (path b)) (ranks_by nat_list_cmp_total path) (answers_always _ _ _ (λ f a r f' k.
    let is : r ≡ slice_cmp nat_cmp (path a.0.now) (path a.1.0.now) = search rules in
    ap is_lt is))
