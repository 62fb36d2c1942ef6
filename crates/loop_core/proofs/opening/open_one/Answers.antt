use Rattle.std.proofs.Common.{◌∙◌, ap, sym, subst}
use Rattle.relay_ports.specs.Outputs.{settings_of}
use Rattle.relay_conf.specs.declared.buffer.BufferSettings.{BufferSettings}
use Rattle.buffer_store.specs.Buffers.{Held}
use Rattle.disk_files.specs.Disk.{reads}
use Rattle.disk_files.specs.Moments.{now}
use Rattle.journal_files.specs.Folders.{Opens}
use Rattle.loop_core.specs.Owners.{IsSetAs, Owned, Shared, opened_as}
use Rattle.loop_core.proofs.opening.open_one.Goals as goal

pub returns-clause-opened : goal.returns-clause-opened
returns-clause-opened g c =
    let job = c.new-job.ensures in
    let seen = ap (λ (s : Shared _ _). s.opened) c.in_ok-share.ensures.one in
    let held = ap (λ (s : Shared _ _). s.opened) c.in_ok-share.ensures.other ∙ seen in
    let own = c.buffer.ensures in
    record {
      set =
          subst (λ (o : Owned _). IsSetAs (settings_of o.output) o.opened) (sym job)
          (subst (λ (s : BufferSettings _). IsSetAs s (opened_as c.in_ok-share.theirs.opened)) own
          (subst (λ (h : Held _). IsSetAs c.buffer.result.now (opened_as h)) (sym held) c.in_ok-buffer.ensures.set));
      folder =
          subst (λ (h : Held _). g.F.Folders.is_for c.args.folders.now (settings_of c.new-job.result.output).kind h.start) (sym seen)
          (subst (λ (o : Owned _). g.F.Folders.is_for c.args.folders.now (settings_of o.output).kind c.in_ok-buffer.field-0.buffer.start) (sym job)
          (subst (λ (s : BufferSettings _). g.F.Folders.is_for c.args.folders.now s.kind c.in_ok-buffer.field-0.buffer.start) own c.in_ok-buffer.ensures.folder));
      chunks =
          λ honest.
          let was = subst (λ (h : Held _). g.D.Dir.is_honest h.start) seen honest in
          subst (λ (o : Owned _). Opens o.opened.name (reads (now (g.D.Dir.history c.in_ok-share.share.opened.start))) o.opened.chunks) (sym job)
          (subst (λ (h : Held _). Opens (opened_as c.in_ok-share.theirs.opened).name (reads (now (g.D.Dir.history h.start))) (opened_as c.in_ok-share.theirs.opened).chunks) (sym seen)
          (subst (λ (h : Held _). Opens (opened_as h).name (reads (now (g.D.Dir.history c.in_ok-buffer.field-0.buffer.start))) (opened_as h).chunks) (sym held)
          (c.in_ok-buffer.ensures.chunks was)));
    }
