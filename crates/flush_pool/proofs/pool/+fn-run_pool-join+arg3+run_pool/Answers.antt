use Rattle.std.proofs.Common.{◌-◌}
use native.Mathlib.Omega.{arith}
use denote.Param.{param, copied}
use denote.Param.Send.{IsSync, IsSend, Frees, sendable, copied_sync}
use Rattle.std.proofs.Crossing.{crosses}
use Rattle.ack_receipt.specs.contracts.shared.SharedBuffer as Shared
use Rattle.flush_pool.specs.contracts.retries.Retries as Retries
use Rattle.flush_pool.specs.Acts.{at}
use Rattle.flush_pool.proofs.Pooling.{nobody, one_more}
use Rattle.flush_pool.proofs.Sharing.{Shared-sync, Retries-sync}
use Rattle.flush_pool.proofs.pool.+fn-run_pool-join+arg3+run_pool.Goals as goal

pub join-one-requires-send-F : goal.join-one-requires-send-F
join-one-requires-send-F g t c κs within =
    let r : IsSync g.row.R = search sendable in
    let sd : IsSend (param 1 g.row.D) = search sendable in
    let sa : IsSend (copied 2 g.row.A) = search sendable in
    let ya : IsSync g.row.A = search sendable in
    let f : Frees g.A.Allocator g.A.Allocator.dealloc_token = search sendable in
    let yc : IsSync g.row.C = search sendable in
    let yg : IsSync g.row.G = search sendable in
    let b : IsSync (Shared.the_field (param 1 g.row.D) (copied 2 g.row.A) g.D.Dir g.A.Allocator).row = Shared-sync (param 1 g.row.D) (copied 2 g.row.A) g.D.Dir g.A.Allocator sd sa (copied_sync 2 g.row.A ya) f in
    let k : IsSync (Retries.the_field (copied 2 g.row.A) g.A.Allocator).row = Retries-sync (copied 2 g.row.A) g.A.Allocator sa (copied_sync 2 g.row.A ya) f in
    search (crosses, sendable) depth 20

pub returns-then-threads-eq0 : goal.returns-then-threads-eq0
returns-then-threads-eq0 g t c =
    let a = c.args in
    nobody g.G.Gate.lets g.C.Courier.gives (at a.buffer.now a.courier.now a.gate.now a.retries.now) a.threads
    c.new.result (omega (arith, c.if-threads-eq0.true)) c.new.ensures

pub returns : goal.returns
returns g t c =
    let a = c.args in
    one_more g.G.Gate.lets g.C.Courier.gives (at a.buffer.now a.courier.now a.gate.now a.retries.now) a.threads
    (a.threads - 1) c.join-one.result.0 c.join-one.result.1 c.both_of.result
    (omega (arith, c.if-threads-eq0.false)) c.join-one.ensures.first c.join-one.ensures.second
    c.both_of.ensures
