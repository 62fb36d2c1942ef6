use Rattle.std.proofs.Common.{refl, subst, rules}
use Rattle.buffer_store.specs.Logs.{Logged, Reads}
use Rattle.buffer_store.proofs.Logs.{reads_refused}
use Rattle.buffer_store.proofs.log.Log.body.Goals as goal

pub returns-in_err-body : goal.returns-in_err-body
returns-in_err-body g c =
    let old : Logged g.row.D.Denot = record { dir = c.self.inside.dir; journal = c.self.inside.journal; failed = c.self.inside.failed; staged = c.self.inside.staged; start = c.self.inside.start.value } in
    let new : Logged g.row.D.Denot = record old { dir = c.body.new.dir } in
    subst (λ (b : Logged g.row.D.Denot). Reads g.D.Dir.is_honest g.D.Dir.history g.D.Dir.fault_count b new c.args.serial c.from_residual.result) c.self.view_is
    (reads_refused g.D.Dir.is_honest g.D.Dir.history g.D.Dir.fault_count old new c.args.serial refl c.body.ensures.honest c.body.ensures.time c.body.ensures.same c.body.result c.in_err-body.field-0.0 c.in_err-body.was
    c.body.ensures.cause c.body.ensures.not_last c.body.ensures.whole c.from_residual.result (search rules))
