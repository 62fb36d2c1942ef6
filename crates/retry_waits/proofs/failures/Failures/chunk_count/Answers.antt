use Rattle.std.proofs.Common.{sym, ap, ◌∙◌}
use Rattle.std.specs.FinMap as map
use Rattle.std.specs.Ordering.{nat_cmp}
use Rattle.std.proofs.lemmas.Map.Keys.{IsDistinct-from_sorted}
use Rattle.retry_waits.proofs.Places.{len_is}
use Rattle.retry_waits.proofs.failures.Failures.chunk_count.Goals as goal

pub returns : goal.returns
returns g c = c.len.ensures.len ∙ sym (len_is _ (IsDistinct-from_sorted nat_cmp _ c.len.ensures.ordered)) ∙ ap map.len c.self.view_is
