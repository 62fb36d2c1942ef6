use Rattle.std.proofs.Common.{◌<◌, ◌^◌, Err, ap, inr, ◌∙◌, rules}
use Rattle.disk_files.specs.Moments.{now}
use Rattle.disk_files.specs.declared.dir.DirError.TheVariants as dir
use Rattle.journal_files.proofs.OlderFiles.{nothing_removed, named, below_only, older_next, kept_next, gone_next, removes_on, all_gone, none_left}
use Rattle.journal_files.proofs.Renewing.{is_some_name}
use Rattle.journal_files.proofs.Reasons.{answered}
use Rattle.journal_files.proofs.Wanting.{err_no_ok, same_err, cause_err, cause_ok}
use Rattle.journal_files.proofs.Steps.{any_err}
use Rattle.journal_files.proofs.older.Older.remove.Goals as goal

pub loop-file-init : goal.loop-file-init
loop-file-init g c = nothing_removed g.D.Dir.is_honest g.D.Dir.history g.D.Dir.opened g.D.Dir.fault_count c.args.self.path.now c.args.self.number c.args.self.files c.args.dir.now c.requires.files

pub loop-file-preserved : goal.loop-file-preserved
loop-file-preserved g c =
    let so = c.loop-file.invariant in
    let path = c.args.self.path.now in
    let number = c.args.self.number in
    let last : number < 2 ^ 32 = search rules in
    let k = c.in-Some.field-0-0 in
    let file = c.in-Some.file in
    let opened = g.D.Dir.opened c.loop-file.dir in
    let value = c.in-Some.ensures.value in
    let updates = c.in-Some.ensures.updates.0 in
    let is = named path number k file opened c.loop-file.files c.pop_last.new.self last so.older value updates in
    record {
      is_honest = λ h. c.in_ok-remove.ensures.device.honest (so.is_honest h);
      so_far = λ h. removes_on path number k file opened c.loop-file.files c.pop_last.new.self last so.older value updates (g.D.Dir.history c.args.dir.now) (g.D.Dir.history c.loop-file.dir) (g.D.Dir.history c.remove.new.self) c.remove.result
          (so.so_far h) (so.elsewhere h) (c.remove.ensures.device.time (so.is_honest h)) (c.remove.ensures.ok (so.is_honest h) _ is) (c.remove.ensures.err (so.is_honest h) _ is);
      elsewhere = λ h name above. below_only path number k file opened c.loop-file.files c.pop_last.new.self last so.older value updates (now (g.D.Dir.history c.loop-file.dir)) (now (g.D.Dir.history c.remove.new.self))
          (inr (c.in_ok-remove.ensures.ok (so.is_honest h) _ is)) name above ∙ so.elsewhere h name above;
      kept = λ other name above there. kept_next path number k file opened c.loop-file.files c.pop_last.new.self last so.older value updates (g.D.Dir.opened c.remove.new.self) c.remove.ensures.others other name above (so.kept other name above there);
      older = older_next path number k file opened c.loop-file.files c.pop_last.new.self last so.older value updates (g.D.Dir.opened c.remove.new.self) c.remove.ensures.others;
      gone = λ h n below gone. gone_next path number k file opened c.loop-file.files c.pop_last.new.self last so.older value updates (now (g.D.Dir.history c.loop-file.dir)) (now (g.D.Dir.history c.remove.new.self))
          (c.in_ok-remove.ensures.ok (so.is_honest h) _ is) n below (so.gone h n below gone);
      quiet = c.in_ok-remove.ensures.device.cause.passed ∙ so.quiet;
    }

pub returns-in_err-remove-clause-moments : goal.returns-in_err-remove-clause-moments
returns-in_err-remove-clause-moments g c = λ h.
    let so = c.loop-file.invariant in
    let path = c.args.self.path.now in
    let number = c.args.self.number in
    let last : number < 2 ^ 32 = search rules in
    let k = c.in-Some.field-0-0 in
    let file = c.in-Some.file in
    let opened = g.D.Dir.opened c.loop-file.dir in
    let value = c.in-Some.ensures.value in
    let updates = c.in-Some.ensures.updates.0 in
    let is = named path number k file opened c.loop-file.files c.pop_last.new.self last so.older value updates in
    removes_on path number k file opened c.loop-file.files c.pop_last.new.self last so.older value updates (g.D.Dir.history c.args.dir.now) (g.D.Dir.history c.loop-file.dir) (g.D.Dir.history c.remove.new.self) c.remove.result
    (so.so_far h) (so.elsewhere h) (c.remove.ensures.device.time (so.is_honest h)) (c.remove.ensures.ok (so.is_honest h) _ is) (c.remove.ensures.err (so.is_honest h) _ is)

pub remove-requires : goal.remove-requires
remove-requires g c =
    let so = c.loop-file.invariant in
    let path = c.args.self.path.now in
    let number = c.args.self.number in
    let last : number < 2 ^ 32 = search rules in
    let k = c.in-Some.field-0-0 in
    let file = c.in-Some.file in
    let opened = g.D.Dir.opened c.loop-file.dir in
    let value = c.in-Some.ensures.value in
    let updates = c.in-Some.ensures.updates.0 in
    is_some_name _ _ (named path number k file opened c.loop-file.files c.pop_last.new.self last so.older value updates)

pub returns-in_err-remove-clause-honest : goal.returns-in_err-remove-clause-honest
returns-in_err-remove-clause-honest g c = λ h. c.in_err-remove.ensures.device.honest (c.loop-file.invariant.is_honest h)

pub returns-in_err-remove-clause-elsewhere : goal.returns-in_err-remove-clause-elsewhere
returns-in_err-remove-clause-elsewhere g c = λ h name above.
    let so = c.loop-file.invariant in
    let path = c.args.self.path.now in
    let number = c.args.self.number in
    let last : number < 2 ^ 32 = search rules in
    let k = c.in-Some.field-0-0 in
    let file = c.in-Some.file in
    let opened = g.D.Dir.opened c.loop-file.dir in
    let value = c.in-Some.ensures.value in
    let updates = c.in-Some.ensures.updates.0 in
    let is = named path number k file opened c.loop-file.files c.pop_last.new.self last so.older value updates in
    below_only path number k file opened c.loop-file.files c.pop_last.new.self last so.older value updates (now (g.D.Dir.history c.loop-file.dir)) (now (g.D.Dir.history c.remove.new.self))
    (c.in_err-remove.ensures.err (so.is_honest h) _ is) name above ∙ so.elsewhere h name above

pub returns-in_err-remove-clause-gone : goal.returns-in_err-remove-clause-gone
returns-in_err-remove-clause-gone g c = λ h n below gone. err_no_ok c.in_err-remove.field-0.0 c.from_residual.result _ c.from_residual.ensures.1

pub returns-in_err-remove-clause-kept : goal.returns-in_err-remove-clause-kept
returns-in_err-remove-clause-kept g c = λ other name above there.
    let so = c.loop-file.invariant in
    let path = c.args.self.path.now in
    let number = c.args.self.number in
    let last : number < 2 ^ 32 = search rules in
    let k = c.in-Some.field-0-0 in
    let file = c.in-Some.file in
    let opened = g.D.Dir.opened c.loop-file.dir in
    let value = c.in-Some.ensures.value in
    let updates = c.in-Some.ensures.updates.0 in
    kept_next path number k file opened c.loop-file.files c.pop_last.new.self last so.older value updates (g.D.Dir.opened c.remove.new.self) c.remove.ensures.others other name above (so.kept other name above there)

pub returns-in_err-remove-clause-cause : goal.returns-in_err-remove-clause-cause
returns-in_err-remove-clause-cause g c = cause_err (g.D.Dir.fault_count c.args.dir.now) (g.D.Dir.fault_count c.loop-file.dir) (g.D.Dir.fault_count c.remove.new.self) c.in_err-remove.field-0.0 c.from_residual.result c.loop-file.invariant.quiet c.in_err-remove.ensures.device.cause
    (answered c.in_err-remove.field-0.0 c.from_residual.result c.from_residual.ensures.1)

pub returns-in_err-remove-clause-only : goal.returns-in_err-remove-clause-only
returns-in_err-remove-clause-only g c = any_err _ (answered c.in_err-remove.field-0.0 c.from_residual.result c.from_residual.ensures.1 ∙ ap Err (same_err c.in_err-remove.field-0.0 dir.Fault c.in_err-remove.ensures.only))

pub returns-clause-honest : goal.returns-clause-honest
returns-clause-honest g c = c.loop-file.invariant.is_honest

pub returns-clause-elsewhere : goal.returns-clause-elsewhere
returns-clause-elsewhere g c = c.loop-file.invariant.elsewhere

pub returns-clause-moments : goal.returns-clause-moments
returns-clause-moments g c = c.loop-file.invariant.so_far

pub returns-clause-kept : goal.returns-clause-kept
returns-clause-kept g c = c.loop-file.invariant.kept

pub returns-clause-gone : goal.returns-clause-gone
returns-clause-gone g c = λ h n below gone.
    all_gone c.args.self.path.now n c.loop-file.files (now (g.D.Dir.history c.loop-file.dir)) (none_left c.loop-file.files c.in_default.ensures.variant.1 n) (c.loop-file.invariant.gone h n below gone)

pub returns-clause-cause : goal.returns-clause-cause
returns-clause-cause g c = cause_ok (g.D.Dir.fault_count c.args.dir.now) (g.D.Dir.fault_count c.loop-file.dir) _ c.loop-file.invariant.quiet
