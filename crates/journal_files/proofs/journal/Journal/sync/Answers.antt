use Rattle.std.proofs.Common.{ap, sym, ◌∙◌}
use Rattle.disk_files.proofs.Moments.{elsewhere}
use Rattle.journal_files.specs.Views.{OpenJournal}
use Rattle.journal_files.proofs.Names.{apart}
use Rattle.journal_files.proofs.Recovery.{recovers}
use Rattle.journal_files.proofs.Steps.{synced_all, kept, less_durable, either, on_ok, one_call}
use Rattle.journal_files.proofs.journal.Journal.sync.Goals as goal

pub returns-clause-ok : goal.returns-clause-ok
returns-clause-ok g c = λ honest t keeps.
    let named = ap (λ (j : OpenJournal). g.D.Dir.opened c.args.dir.now j.file) c.self.view_is ∙ c.requires.open in
    on_ok c.sync.result (c.sync.ensures.ok honest _ named) (λ changes. synced_all c.args.self.now _ _ t keeps changes)

pub returns-clause-moments : goal.returns-clause-moments
returns-clause-moments g c = λ honest t keeps.
    let named = ap (λ (j : OpenJournal). g.D.Dir.opened c.args.dir.now j.file) c.self.view_is ∙ c.requires.open in
    one_call _ _ _ (c.sync.ensures.device.time honest) (recovers c.args.self.now _ t keeps)
    (either c.sync.result (c.sync.ensures.ok honest _ named) (c.sync.ensures.err honest)
    (λ changes folder leaves. less_durable c.args.self.now.path t folder keeps.logged.few (recovers c.args.self.now _ _ (synced_all c.args.self.now _ _ t keeps changes) folder leaves))
    (λ same. recovers c.args.self.now _ t (kept c.args.self.now _ _ t keeps same)))

pub returns-clause-own : goal.returns-clause-own
returns-clause-own g c =
    let synced = c.sync.ensures in
    let named = ap (λ (j : OpenJournal). g.D.Dir.opened c.args.dir.now j.file) c.self.view_is ∙ c.requires.open in
    record {
      honest = synced.device.honest;
      elsewhere = λ honest name differs. either c.sync.result (synced.ok honest _ named) (synced.err honest)
          (λ changes. elsewhere _ _ _ name _ changes (apart _ name (λ e. differs (sym e))))
          (λ same. same name);
      stays_open = synced.opened;
      cause = synced.device.cause;
      only = synced.only;
    }
