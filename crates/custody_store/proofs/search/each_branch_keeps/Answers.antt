use Rattle.std.proofs.Common.{◌↔◌, IsTrue}
use Rattle.std.proofs.lemmas.Result.{IfOk-weaker}
use Rattle.relay_net.specs.Addresses.{Address}
use Rattle.custody_store.specs.Branches.{buffers_of, EachKeeps}
use Rattle.custody_store.specs.Searches.{EachSoFar}
use Rattle.custody_store.proofs.Settling.{each_kept, each_known}
use Rattle.custody_store.proofs.search.each_branch_keeps.Goals as goal

pub returns : goal.returns
returns g c =
    let net = c.args.net.now in
    let buffers = buffers_of c.args.places.now in
    let messages = c.args.book.now.messages in
    let entry = c.args.entry.now in
    let kept = c.in_ok-kept.kept.items in
    let to : Address = record { host = c.args.host.now; port = c.args.port } in
    IfOk-weaker c.each_keeps.result
    (λ answer. IsTrue answer ↔ EachSoFar net buffers messages entry kept to c.args.tag.now)
    (λ answer. IsTrue answer ↔ EachKeeps net buffers messages to c.args.tag.now entry)
    (λ answer h. (
      λ t. each_kept net buffers messages entry kept c.in_ok-kept.ensures.settled to c.args.tag.now (h.0 t),
      λ e. h.1 (each_known net buffers messages entry kept c.in_ok-kept.ensures.all to c.args.tag.now e),
    ))
    (rw c.deref.ensures.value at c.each_keeps.ensures)
