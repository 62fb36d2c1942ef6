use Rattle.std.proofs.Common.{List, ℕ, ap, sym, subst, ◌∙◌}
use Rattle.disk_files.specs.Moments.{now}
use Rattle.journal_files.specs.Disks.{HasNoGap}
use Rattle.journal_files.specs.Openings.{OpensNext, IsFresh, LeavesFolder}
use Rattle.buffer_store.specs.Buffers.{Held}
use Rattle.buffer_store.proofs.Logs.{reason_opening}
use Rattle.buffer_store.proofs.buffer.Buffer.open.Goals as goal

pub opened-requires-clause-open : goal.opened-requires-clause-open
opened-requires-clause-open g c = c.in-Ok.ensures.fresh.open_in

pub opened-requires-clause-tags : goal.opened-requires-clause-tags
opened-requires-clause-tags g c = c.in-Ok.ensures.fresh.tags

pub opened-requires-clause-honest : goal.opened-requires-clause-honest
opened-requires-clause-honest g c = λ honest. (c.in-Ok.ensures.leaves (subst g.D.Dir.is_honest c.of-start.ensures honest)).honest

pub opened-requires-clause-means : goal.opened-requires-clause-means
opened-requires-clause-means g c = c.in-Ok.ensures.fresh.starts

pub opened-requires-clause-keeps : goal.opened-requires-clause-keeps
opened-requires-clause-keeps g c = λ honest stray.
    let stray0 : HasNoGap c.args.path.now (now (g.D.Dir.history c.args.dir)) = subst (λ (d : g.row.D.Denot). HasNoGap c.args.path.now (now (g.D.Dir.history d))) c.of-start.ensures
    (subst (λ (p : List ℕ). HasNoGap p (now (g.D.Dir.history c.of-start.result.value))) c.in-Ok.ensures.fresh.path_is stray) in
    (c.in-Ok.ensures.opens (subst g.D.Dir.is_honest c.of-start.ensures honest)).keeps stray0

pub returns-in-Ok-clause-opens : goal.returns-in-Ok-clause-opens
returns-in-Ok-clause-opens g c = λ honest.
    subst (λ (b : Held g.row.D.Denot). OpensNext c.args.path.now (now (g.D.Dir.history c.args.dir)) (now (g.D.Dir.history b.dir)) b.journal b.chunks) (sym c.opened.ensures) (c.in-Ok.ensures.opens honest)

pub returns-in-Ok-clause-fresh : goal.returns-in-Ok-clause-fresh
returns-in-Ok-clause-fresh g c = subst (λ (b : Held g.row.D.Denot). IsFresh c.args.path.now (g.D.Dir.opened b.dir) b.journal b.chunks) (sym c.opened.ensures) c.in-Ok.ensures.fresh

pub returns-in-Ok-clause-set : goal.returns-in-Ok-clause-set
returns-in-Ok-clause-set g c =
    let is = c.opened.ensures in
    record {
      start = ap (λ (b : Held g.row.D.Denot). b.start) is ∙ c.of-start.ensures;
      limits = ap (λ (b : Held g.row.D.Denot). b.limits) is;
      renewed_past = ap (λ (b : Held g.row.D.Denot). b.renewed_past) is;
      going = ap (λ (b : Held g.row.D.Denot). b.failed) is;
      synced = ap (λ (b : Held g.row.D.Denot). b.staged) is;
    }

pub returns-in-Ok-clause-leaves : goal.returns-in-Ok-clause-leaves
returns-in-Ok-clause-leaves g c = λ honest.
    subst (λ (b : Held g.row.D.Denot). LeavesFolder g.D.Dir.is_honest g.D.Dir.history c.args.path.now c.args.dir b.dir) (sym c.opened.ensures) (c.open.ensures.leaves honest)

pub returns-in-Ok-clause-cause : goal.returns-in-Ok-clause-cause
returns-in-Ok-clause-cause g c =
    ap (λ (b : Held g.row.D.Denot). g.D.Dir.fault_count b.dir) c.opened.ensures ∙ c.in-Ok.ensures.cause.others (λ q. cc q)

pub returns-in-Err-clause-refused : goal.returns-in-Err-clause-refused
returns-in-Err-clause-refused g c = record { its = c.in-Err.refused; named = c.from.ensures; why = c.in-Err.ensures.refused }

pub returns-in-Err-clause-leaves : goal.returns-in-Err-clause-leaves
returns-in-Err-clause-leaves g c = c.open.ensures.leaves

pub returns-in-Err-clause-cause : goal.returns-in-Err-clause-cause
returns-in-Err-clause-cause g c = reason_opening _ _ c.in-Err.refused c.from.result c.from.ensures c.in-Err.ensures.cause
