use Rattle.std.proofs.Common.{rules, ◌≡◌, arith}
use Rattle.std.proofs.lemmas.Grind.{common_steps}
use Rattle.custody_store.specs.Contents.{event_of}
use Rattle.custody_store.proofs.Members.{contains_shown}
use Rattle.custody_store.proofs.event.tag_among.Goals as goal

pub returns-then-eq : goal.returns-then-eq
returns-then-eq g c =
    let at = c.in_ok-event.ensures.lookup in
    let event = c.in_ok-event.event.now in
    let same : event.entry.items ≡ c.args.entry.now = first_of (search rules, grind (arith, common_steps)) in
    let tag : event.tag.items ≡ c.as_slice-then-eq.result.now = first_of (search rules, grind (arith, common_steps)) in
    contains_shown event_of c.args.events.now c.args.index event (record { tag = c.as_slice-then-eq.result.now; entry = c.args.entry.now }) at.3.0 at.1 (λ i. record { tag = tag i; entry = same i })
