use Rattle.std.proofs.Common.{sym}
use Rattle.relay_net.specs.Addresses.{Address}
use Rattle.custody_store.specs.Branches.{buffers_of}
use Rattle.custody_store.proofs.Leaves.{leaves_iff}
use Rattle.custody_store.proofs.branch.Seen.each_keeps.Goals as goal

pub returns : goal.returns
returns g c =
    let s = c.args.self.now in
    let to : Address = record { host = c.args.host.now; port = c.args.port } in
    let way = rw c.in-Leaves.is at c.in_ok-way.ensures.way in
    let are = rw c.in-Leaves.is at c.in_ok-way.ensures.leaves in
    let limit = c.as_bytes.ensures.limit in
    leaves_iff s.net.now to c.args.tag.now c.in-Some.at (sym c.in-Some.ensures) c.in-Ok.borne c.in-Ok.ensures.tag limit c.in-Leaves.leaves.items way.0 are
    (buffers_of s.places.now) s.book.now.messages s.entry.now c.args.kept.now c.leaves_keep.result (rw (c.deref.ensures.value, c.as_bytes.ensures.bytes) at c.leaves_keep.ensures)
