use Rattle.std.proofs.Common.{◌+◌, ap, refl, sym, ◌∙◌, arith}
use Rattle.disk_files.proofs.Moments.{elsewhere}
use Rattle.journal_files.specs.declared.placing.Placing.TheVariants.{Stays}
use Rattle.journal_files.specs.Views.{OpenJournal}
use Rattle.journal_files.proofs.Names.{apart}
use Rattle.journal_files.proofs.Strays.{grown_no_stray}
use Rattle.journal_files.proofs.Steps.{GoesOn, goes_on_so, put_ok, put_err, put_moments, either, on_ok, on_err}
use Rattle.journal_files.proofs.journal.Journal.put.Goals as goal

pub returns-clause-own : goal.returns-clause-own
returns-clause-own g c =
    let told = c.append-told.ensures in
    let named = ap (λ (j : OpenJournal). g.D.Dir.opened c.args.dir.now j.file) c.self.view_is ∙ c.requires.open in
    record {
      honest = told.device.honest;
      elsewhere = λ honest name differs. either c.append-told.result (told.ok honest _ named) (told.err honest _ named)
          (λ changes. elsewhere _ _ _ name _ changes (apart _ name (λ e. differs (sym e))))
          (λ some. elsewhere _ _ _ name _ some.1 (apart _ name (λ e. differs (sym e))));
      stays_open = told.opened;
      cause = told.device.cause;
      only = told.only;
    }

pub returns-clause-stray : goal.returns-clause-stray
returns-clause-stray g c = λ honest t keeps.
    let named = ap (λ (j : OpenJournal). g.D.Dir.opened c.args.dir.now j.file) c.self.view_is ∙ c.requires.open in
    either c.append-told.result (c.append-told.ensures.ok honest _ named) (c.append-told.ensures.err honest _ named)
    (λ changes. grown_no_stray c.args.self.now _ _ t _ keeps changes)
    (λ some. grown_no_stray c.args.self.now _ _ t _ keeps some.1)

pub returns-clause-begins : goal.returns-clause-begins
returns-clause-begins g c = λ honest t item keeps ready allowed.
    let old = g.D.Dir.history c.args.dir.now in
    let mid = g.D.Dir.history c.append-told.new.self in
    let named = ap (λ (j : OpenJournal). g.D.Dir.opened c.args.dir.now j.file) c.self.view_is ∙ c.requires.open in
    let bytes = c.deref.ensures.value ∙ ap (λ (j : OpenJournal). j.ready) c.self.view_is ∙ ready.bytes in
    let inside : OpenJournal = record { path = c.self.inside.path.items; number = c.self.inside.number; file = c.self.inside.file; len = c.self.inside.len; ready = c.self.inside.ready.items; places = c.self.inside.places; placing = c.self.inside.placing } in
    let new : OpenJournal = record { path = c.self.inside.path.items; number = c.self.inside.number; file = c.self.inside.file; len = c.self.inside.len + c.len.result; ready = c.clear.new.self.items; places = c.place.new.places; placing = Stays } in
    let goes : GoesOn c.args.self.now new item = goes_on_so inside c.args.self.now new item c.self.view_is refl refl (omega (arith, c.len.ensures)) ready c.place.ensures in
    record {
      ok = on_ok c.append-told.result (c.append-told.ensures.ok honest _ named)
          (λ changes. put_ok c.places_follow.ensures c.leads_in_order.ensures.behind c.args.self.now new old mid t item c.deref.result.now bytes goes keeps ready.can allowed changes);
      err = on_err c.append-told.result (c.append-told.ensures.err honest _ named)
          (λ some. put_err c.places_follow.ensures c.leads_in_order.ensures.behind c.args.self.now new old mid t item c.deref.result.now bytes goes keeps ready.can allowed some.0 some.1);
      moments = put_moments c.places_follow.ensures c.leads_in_order.ensures.behind c.args.self.now new old mid t item c.deref.result.now bytes goes keeps ready.can allowed c.append-told.result (c.append-told.ensures.device.time honest)
          (c.append-told.ensures.ok honest _ named) (c.append-told.ensures.err honest _ named);
    }
