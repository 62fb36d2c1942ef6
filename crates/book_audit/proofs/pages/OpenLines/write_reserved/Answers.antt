use Rattle.std.proofs.Common.{refl, sym, subst, ◌<◌}
use Rattle.book_audit.proofs.Again.{writes, on_ok}
use Rattle.book_audit.proofs.pages.OpenLines.write_reserved.Goals as goal

pub returns-clause-written : goal.returns-clause-written
returns-clause-written g c = rw (← c.self.view_is) (writes _ _ c.args.line refl (on_ok c.insert.result (c.insert.ensures.succeeds (subst (λ z. 0 < z.room) (sym c.self.view_is) c.requires.room)) c.insert.ensures.updates).0)
