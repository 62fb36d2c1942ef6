-- What carries chunks may be shared by threads, and what starts a buffer's flush threads may go to
-- a thread.
use denote.RattleType.{RattleType}
use denote.Enum.Declared.{shape}
use denote.Param.Send.{IsSend, IsSync, Frees, sendable, enum_send, enum_sync}
use Rattle.std.proofs.Crossing.{crosses}
use Rattle.std.proofs.CrossingOver as over
use Rattle.std.proofs.MapsCrossing as maps
use Rattle.std.specs.declared.alloc.Allocator as alloc
use Rattle.std_heap.specs.contracts.Global as Heap
use Rattle.std_heap.specs.contracts.GlobalAllocator.TheImpl.{ghosts}
use Rattle.disk_files.specs.declared.dir.Dir as dir
use Rattle.disk_files.proofs.either.EitherDir.TheSendSync as either
use Rattle.disk_files.proofs.real.OpenFile.TheSendSync as opened_file
use Rattle.disk_files.proofs.real.RealDir.TheSendSync as real
use Rattle.disk_files.proofs.past.Past.TheLaws.TheKnot as past
use Rattle.sink_series.proofs.answers.Answers.TheLaws.TheKnot as answers
use Rattle.sink_series.proofs.begun.Begun.TheLaws.TheKnot as begun
use Rattle.sink_series.proofs.closed.Closed.TheLaws.TheKnot as closed
use Rattle.ack_receipt.specs.contracts.shared.SharedBuffer as Shared
use Rattle.flush_pool.proofs.Sharing as pool
use Rattle.sink_series.specs.contracts.rotation.Rotation as Rotation
use Rattle.relay_notices.proofs.Sharing as told
use Rattle.relay_notices.specs.contracts.notices.Notices as Notices
use Rattle.relay_notices.specs.contracts.notices.Teller as Teller
use Rattle.relay_notices.proofs.notices.Notices.TheSendSync as notices
use Rattle.relay_places.proofs.Sharing as said
use Rattle.relay_places.specs.contracts.rows.OutputRows as OutputRows
use Rattle.relay_run.specs.contracts.flush.Carrier as Carrier
use Rattle.relay_run.specs.contracts.flush.Pool as Pool
use Rattle.relay_run.specs.contracts.flush_threads.FlushThreads as FlushThreads
use Rattle.relay_run.specs.contracts.state.StateFile as StateFile
use Rattle.relay_run.specs.contracts.voice.Flags as Flags

module _ (D A : RattleType) (d : dir.Ghosts D.Denot) (a : alloc.Ghosts A.Denot) where
  Shared-send : IsSend D → IsSend A → Frees a a.dealloc_token → IsSend (Shared.the_row D A d a)
  Shared-send = pool.Shared-send D A d a

  Shared-sync : IsSend D → IsSend A → IsSync A → Frees a a.dealloc_token → IsSync (Shared.the_row D A d a)
  Shared-sync = pool.Shared-sync D A d a

module _ (A : RattleType) (a : alloc.Ghosts A.Denot) where
  Notices-send : IsSend A → Frees a a.dealloc_token → IsSend (Notices.the_row A a)
  Notices-send sa f = search (notices.the_field_send, crosses, over.crosses, sendable) depth 60 fits 20000

  Notices-sync : IsSend A → IsSync A → Frees a a.dealloc_token → IsSync (Notices.the_row A a)
  Notices-sync sa ya f = search (notices.the_field_sync, crosses, over.crosses, sendable) depth 60 fits 20000

  Teller-send : IsSend A → IsSync A → Frees a a.dealloc_token → IsSend (Teller.the_field A a).row
  Teller-send = told.Teller-send A a

  Teller-sync : IsSend A → IsSync A → Frees a a.dealloc_token → IsSync (Teller.the_field A a).row
  Teller-sync = told.Teller-sync A a

  Rows-send : IsSend A → Frees a a.dealloc_token → IsSend (OutputRows.the_field A a).row
  Rows-send = said.OutputRows-send A a

-- What the thread that says notices shares with who ends it.

pub Flags-send : IsSend Flags.the_field.row
Flags-send = search (crosses, sendable) depth 20

pub Flags-sync : IsSync Flags.the_field.row
Flags-sync = search (crosses, sendable) depth 20

-- The file that the thread keeps.

Rows-here-send : IsSend (OutputRows.the_field Heap.the_row ghosts).row
Rows-here-send = search (Rows-send, crosses, sendable) depth 60 fits 20000

pub StateFile-send : IsSend StateFile.the_field.row
StateFile-send = let r = Rows-here-send in search (crosses, over.crosses, sendable) depth 60 fits 20000

-- A sink that stays open.

module _ (D A : RattleType) (d : dir.Ghosts D.Denot) (a : alloc.Ghosts A.Denot) where
  Rotation-send : IsSend D → IsSend A → Frees a a.dealloc_token → IsSend (Rotation.the_field D A d a).row
  Rotation-send sd sa f = search (answers.crosses, begun.crosses, closed.crosses, crosses, over.crosses, sendable) depth 60 fits 20000

-- What tells, on the heap.

Teller-here-send : IsSend (Teller.the_field Heap.the_row ghosts).row
Teller-here-send = search (Teller-send, crosses, sendable) depth 60 fits 20000

Teller-here-sync : IsSync (Teller.the_field Heap.the_row ghosts).row
Teller-here-sync = search (Teller-sync, crosses, sendable) depth 60 fits 20000

pub Notices-here-send : IsSend (Notices.the_row Heap.the_row ghosts)
Notices-here-send = search (Notices-send, crosses, sendable) depth 60 fits 20000

pub Notices-here-sync : IsSync (Notices.the_row Heap.the_row ghosts)
Notices-here-sync = search (Notices-sync, crosses, sendable) depth 60 fits 20000

-- What carries its chunks, and what starts the threads that do.

pub Carrier-sync : IsSync Carrier.the_field.row
Carrier-sync =
    let ts = Teller-here-send in
    let ty = Teller-here-sync in
    enum_sync (shape Carrier.the_type) (
      (search (crosses, sendable) depth 120 fits 100000, tt),
      (
        (
          search (Rotation-send, answers.crosses, begun.crosses, closed.crosses, crosses, sendable) depth 120 fits 100000,
          (search (crosses, sendable) depth 60 fits 20000, tt),
        ),
        tt,
      ),
    )

Carrier-send : IsSend Carrier.the_field.row
Carrier-send =
    let ts = Teller-here-send in
    let ty = Teller-here-sync in
    enum_send (shape Carrier.the_type) (
      (search (crosses, sendable) depth 120 fits 100000, tt),
      (
        (
          search (Rotation-send, answers.crosses, begun.crosses, closed.crosses, crosses, sendable) depth 120 fits 100000,
          (search (crosses, sendable) depth 60 fits 20000, tt),
        ),
        tt,
      ),
    )

module _ (D A : RattleType) (d : dir.Ghosts D.Denot) (a : alloc.Ghosts A.Denot) where
  FlushThreads-send : IsSend D → IsSend A → IsSync A → Frees a a.dealloc_token → IsSend (FlushThreads.the_field D A d a).row
  FlushThreads-send sd sa ya f =
      let s = Shared-send D A d a sd sa f in
      let y = Shared-sync D A d a sd sa ya f in
      search (crosses, over.crosses, sendable) depth 60 fits 20000

pub Pool-send : IsSend Pool.the_field.row
Pool-send = let c = Carrier-send in let ts = Teller-here-send in let ty = Teller-here-sync in search (FlushThreads-send, either.the_field_send, real.the_field_send, opened_file.the_field_send, maps.crosses, crosses, past.crosses, sendable) depth 60 fits 20000
