use Rattle.std.proofs.Common.{◌∙◌}
use Rattle.disk_files.specs.Moments.{now}
use Rattle.sink_series.proofs.Writes.{safe_append, safe_on, safe_grown, safe_sync, others_append, others_on, others_sync, begun_append, begun_sync, outcome, err_grown}
use Rattle.sink_series.proofs.files.put_synced.Goals as goal

pub returns-in_err-append-clause-safe : goal.returns-in_err-append-clause-safe
returns-in_err-append-clause-safe g c honest own name events opened safe =
    let e = c.in_err-append.ensures.err honest own opened in
    safe_append _ _ own name _ events (c.in_err-append.ensures.device.time honest) e.1 safe

pub returns-in_err-append-clause-others : goal.returns-in_err-append-clause-others
returns-in_err-append-clause-others g c honest own opened =
    let e = c.in_err-append.ensures.err honest own opened in
    others_append _ _ own _ (c.in_err-append.ensures.device.time honest) e.1

pub returns-in_err-append-clause-moments : goal.returns-in_err-append-clause-moments
returns-in_err-append-clause-moments g c honest name begun events is_durable opened found each each_new is =
    let e = c.in_err-append.ensures.err honest name opened in
    begun_append _ name c.args.bytes.now begun events is_durable found each each_new is _ e.0 (c.in_err-append.ensures.device.time honest) e.1

pub returns-clause-safe : goal.returns-clause-safe
returns-clause-safe g c honest own name events opened safe =
    let a = c.in_ok-append.ensures in
    let on = a.device.honest honest in
    let named = a.opened c.args.file ∙ opened in
    let how = outcome c.sync.result (c.sync.ensures.ok on own named) (c.sync.ensures.err on) in
    let changes = a.ok honest own opened in
    safe_on _ _ _ name events (safe_append _ _ own name _ events (a.device.time honest) changes safe) (c.sync.ensures.device.time on)
    (safe_sync _ _ own name events how (safe_grown _ _ own name _ events changes safe))

pub returns-clause-others : goal.returns-clause-others
returns-clause-others g c honest own opened =
    let a = c.in_ok-append.ensures in
    let on = a.device.honest honest in
    let named = a.opened c.args.file ∙ opened in
    let how = outcome c.sync.result (c.sync.ensures.ok on own named) (c.sync.ensures.err on) in
    others_on _ _ _ own (others_append _ _ own _ (a.device.time honest) (a.ok honest own opened)) (c.sync.ensures.device.time on) (others_sync _ _ own how)

pub returns-clause-moments : goal.returns-clause-moments
returns-clause-moments g c honest name begun events is_durable opened found each each_new is =
    let a = c.in_ok-append.ensures in
    let on = a.device.honest honest in
    let named = a.opened c.args.file ∙ opened in
    let how = outcome c.sync.result (c.sync.ensures.ok on name named) (c.sync.ensures.err on) in
    begun_sync _ name c.args.bytes.now begun events is_durable found each each_new is _ _ (a.device.time honest) (c.sync.ensures.device.time on) (a.ok honest name opened) how

pub returns-clause-err : goal.returns-clause-err
returns-clause-err g c honest name opened =
    let a = c.in_ok-append.ensures in
    err_grown (now (g.D.Dir.history c.args.dir.now)) (now (g.D.Dir.history c.append.new.self)) (now (g.D.Dir.history c.sync.new.self)) name c.args.bytes.now c.sync.result (a.ok honest name opened) (c.sync.ensures.err (a.device.honest honest))
