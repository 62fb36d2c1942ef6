-- A shared buffer, and what is known of its failed chunks, may be used by several threads.
use denote.RattleType.{RattleType}
use denote.Param.Send.{IsSend, IsSync, Frees, sendable}
use Rattle.std.proofs.Crossing.{crosses}
use Rattle.std.proofs.CrossingOver as over
use Rattle.std.proofs.MapsCrossingOver as maps
use Rattle.std.specs.declared.alloc.Allocator as alloc
use Rattle.disk_files.specs.declared.dir.Dir as dir
use Rattle.buffer_state.specs.contracts.content.Content as Content
use Rattle.buffer_state.specs.contracts.chunk.Chunk as Chunk
use Rattle.buffer_state.specs.contracts.chunks.Chunks as Chunks
use Rattle.book_audit.specs.contracts.pages.OpenLines as OpenLines
use Rattle.chunk_journal.specs.contracts.places.Extents as Extents
use Rattle.chunk_journal.specs.contracts.places.Places as Places
use Rattle.journal_files.specs.contracts.journal.Journal as Journal
use Rattle.buffer_store.specs.contracts.log.Log as Log
use Rattle.buffer_store.specs.contracts.buffer.Buffer as Buffer
use Rattle.ack_receipt.specs.contracts.past.Past as Past
use Rattle.ack_receipt.specs.contracts.booked.Booked as Booked
use Rattle.ack_receipt.specs.contracts.locked.LockedBuffer as Locked
use Rattle.ack_receipt.specs.contracts.locked.terms.Terms as Terms
use Rattle.ack_receipt.specs.contracts.shared.SharedBuffer as Shared
use Rattle.relay_notices.proofs.Sharing as told
use Rattle.retry_waits.specs.contracts.failures.Failures as Failures
use Rattle.flush_pool.specs.contracts.retries.Retries as Retries
use Rattle.flush_pool.specs.contracts.retries.known.Known as Known

module _ (A : RattleType) (a : alloc.Ghosts A.Denot) where
  Content-send : IsSend (Content.the_field A a).row
  Content-send = search (crosses, sendable) depth 20

  Chunk-send : IsSend A → Frees a a.dealloc_token → IsSend (Chunk.the_field A a).row
  Chunk-send sa f = let c = Content-send in search (over.crosses, sendable) depth 20

  Chunks-send : IsSend A → Frees a a.dealloc_token → IsSend (Chunks.the_field A a).row
  Chunks-send sa f = let c = Chunk-send sa f in search (maps.crosses, over.crosses, sendable) depth 30

  Extents-send : IsSend A → Frees a a.dealloc_token → IsSend (Extents.the_field A a).row
  Extents-send sa f = search (over.crosses, sendable) depth 20

  Places-send : IsSend A → Frees a a.dealloc_token → IsSend (Places.the_field A a).row
  Places-send sa f = let e = Extents-send sa f in search (maps.crosses, over.crosses, sendable) depth 30

  Journal-send : IsSend A → Frees a a.dealloc_token → IsSend (Journal.the_field A a).row
  Journal-send sa f = let p = Places-send sa f in search (crosses, over.crosses, sendable) depth 20

  Lines-send : IsSend A → Frees a a.dealloc_token → IsSend (OpenLines.the_field A a).row
  Lines-send sa f = search (maps.crosses, crosses, over.crosses, sendable) depth 20

  Terms-send : IsSend A → Frees a a.dealloc_token → IsSend (Terms.the_field A a).row
  Terms-send sa f = search (over.crosses, sendable) depth 20

  Terms-sync : IsSend A → IsSync A → Frees a a.dealloc_token → IsSync (Terms.the_field A a).row
  Terms-sync sa ya f = search (over.crosses, sendable) depth 20

  Failures-send : IsSend A → Frees a a.dealloc_token → IsSend (Failures.the_field A a).row
  Failures-send sa f = search (maps.crosses, crosses, over.crosses, sendable) depth 20

  Known-send : IsSend A → Frees a a.dealloc_token → IsSend (Known.the_field A a).row
  Known-send sa f = let u = Failures-send sa f in search (maps.crosses, crosses, over.crosses, sendable) depth 20

  pub Retries-sync : IsSend A → IsSync A → Frees a a.dealloc_token → IsSync (Retries.the_field A a).row
  Retries-sync sa ya f =
      let k = Known-send sa f in
      let t = told.Teller-sync A a sa ya f in
      search (maps.crosses, crosses, over.crosses, sendable) depth 20

module _ (D A : RattleType) (d : dir.Ghosts D.Denot) (a : alloc.Ghosts A.Denot) where
  Log-send : IsSend D → IsSend A → Frees a a.dealloc_token → IsSend (Log.the_field D A d a).row
  Log-send sd sa f = let j = Journal-send A a sa f in search (crosses, over.crosses, maps.crosses, sendable) depth 20

  Buffer-send : IsSend D → IsSend A → Frees a a.dealloc_token → IsSend (Buffer.the_field D A d a).row
  Buffer-send sd sa f = let l = Log-send sd sa f in let c = Chunks-send A a sa f in search sendable depth 20

  Past-send : IsSend (Past.the_field D A d a).row
  Past-send = search (crosses, sendable) depth 20

  Booked-send : IsSend D → IsSend A → Frees a a.dealloc_token → IsSend (Booked.the_field D A d a).row
  Booked-send sd sa f =
      let b = Buffer-send sd sa f in
      let l = Lines-send A a sa f in
      let p = Past-send in
      search (maps.crosses, sendable) depth 20

  Locked-send : IsSend D → IsSend A → Frees a a.dealloc_token → IsSend (Locked.the_field D A d a).row
  Locked-send sd sa f = let b = Booked-send sd sa f in search sendable depth 20

  pub Shared-send : IsSend D → IsSend A → Frees a a.dealloc_token → IsSend (Shared.the_field D A d a).row
  Shared-send sd sa f =
      let t = Terms-send A a sa f in
      let l = Locked-send sd sa f in
      search (crosses, over.crosses, maps.crosses, sendable) depth 20

  pub Shared-sync : IsSend D → IsSend A → IsSync A → Frees a a.dealloc_token → IsSync (Shared.the_field D A d a).row
  Shared-sync sd sa ya f =
      let t = Terms-sync A a sa ya f in
      let l = Locked-send sd sa f in
      search (crosses, over.crosses, maps.crosses, sendable) depth 20
