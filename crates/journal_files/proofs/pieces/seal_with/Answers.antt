use Rattle.std.proofs.Common.{◌∙◌}
use Rattle.disk_files.specs.Moments.{now}
use Rattle.journal_files.proofs.Steps.{on_err}
use Rattle.journal_files.proofs.Written.{partly_all, seal_first, seal_second}
use Rattle.journal_files.proofs.pieces.seal_with.Goals as goal

pub returns-clause-err : goal.returns-clause-err
returns-clause-err g c = λ honest name named.
    on_err c.sync.result (c.sync.ensures.err (c.in_ok-append.ensures.device.honest honest))
    (λ same. partly_all name c.args.bytes.now (now (g.D.Dir.history c.args.dir.now)) (now (g.D.Dir.history c.append.new.self)) (now (g.D.Dir.history c.sync.new.self)) (c.in_ok-append.ensures.ok honest name named) same)

pub returns-in_err-append-clause-moments : goal.returns-in_err-append-clause-moments
returns-in_err-append-clause-moments g c = λ honest name named.
    seal_first name c.args.bytes.now (g.D.Dir.history c.args.dir.now) (g.D.Dir.history c.append.new.self) c.append.result (c.append.ensures.device.time honest) (c.append.ensures.ok honest name named) (c.append.ensures.err honest name named)

pub returns-clause-moments : goal.returns-clause-moments
returns-clause-moments g c = λ honest name named.
    let after = c.append.ensures.device.honest honest in
    seal_second name c.args.bytes.now (g.D.Dir.history c.args.dir.now) (g.D.Dir.history c.append.new.self) (g.D.Dir.history c.sync.new.self) c.sync.result
    (seal_first name c.args.bytes.now (g.D.Dir.history c.args.dir.now) (g.D.Dir.history c.append.new.self) c.append.result (c.append.ensures.device.time honest) (c.append.ensures.ok honest name named) (c.append.ensures.err honest name named))
    (c.sync.ensures.device.time after) (c.in_ok-append.ensures.ok honest name named) (c.sync.ensures.ok after name (c.append.ensures.opened c.args.file ∙ named)) (c.sync.ensures.err after)
