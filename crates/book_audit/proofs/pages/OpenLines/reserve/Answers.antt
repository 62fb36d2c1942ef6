use Rattle.std.proofs.Common.{refl}
use Rattle.book_audit.proofs.pages.OpenLines.reserve.Goals as goal

pub returns-clause-same : goal.returns-clause-same
returns-clause-same g c = rw (← c.self.view_is) (record { count = refl; each = c.reserve.ensures.entries.2 })
