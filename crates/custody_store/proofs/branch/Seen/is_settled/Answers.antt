use Rattle.std.proofs.Common.{◌↔◌, IsTrue, refl, sym}
use Rattle.std.proofs.lemmas.Result.{IfOk-weaker}
use Rattle.custody_store.specs.Branches.{buffers_of}
use Rattle.custody_store.specs.Searches.{EachSoFar, IsSettled}
use Rattle.custody_store.proofs.branch.Seen.is_settled.Goals as goal

pub returns : goal.returns
returns g c =
    let s = c.args.self.now in
    let m = c.args.message.now in
    let inside = rw c.entries.ensures at (c.if-not-has_text.ensures.0 refl) in
    IfOk-weaker c.each_keeps.result
    (λ answer. IsTrue answer ↔ EachSoFar s.net.now (buffers_of s.places.now) s.book.now.messages s.entry.now c.args.kept.now m.address m.tag)
    (λ answer. IsTrue answer ↔ IsSettled s.net.now (buffers_of s.places.now) s.book.now.messages s.entry.now c.args.kept.now m)
    (λ answer h. (λ t. record { answered = sym c.if-not-is_acknowledged.ensures; inside = inside; each = h.0 t }, λ settled. h.1 settled.each))
    (rw (c.host.ensures, c.port.ensures, c.address-address.ensures, c.as_bytes.ensures.bytes, c.tag.ensures) at c.each_keeps.ensures)
