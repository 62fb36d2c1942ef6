use Rattle.std.proofs.Common.{rules, ◌≡◌, ℕ, sym, arith}
use Rattle.std.specs.declared.vec.Vec.{Vec}
use Rattle.std.proofs.lemmas.Grind.{common_steps}
use Rattle.custody_store.proofs.Members.{contains_shown}
use Rattle.custody_store.proofs.chunk.tag_in.Goals as goal

pub returns-then-eq : goal.returns-then-eq
returns-then-eq g c = λ now.
    let at = rw c.deref.ensures.value at c.in_ok-get.ensures.lookup in
    let entry = c.in_ok-get.field-0.now in
    let same : entry.items ≡ c.args.entry.now = first_of (search rules, grind (arith, common_steps)) in
    rw c.in-Some.is (record {
      tag = sym c.as_bytes.ensures.bytes;
      entry = contains_shown (λ (x : Vec ℕ g.row.A.Denot). x.items) c.in-Some.chunk.entries.items c.args.index entry c.args.entry.now at.3.0 at.1 same;
    })
