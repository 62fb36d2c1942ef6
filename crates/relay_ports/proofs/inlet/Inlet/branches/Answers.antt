use Rattle.std.proofs.Common.{ℕ, ◌≡◌, ◌∙◌, List, Option, Result, ap, sym, subst, map}
use Rattle.std.specs.Prelude.{IfSome}
use Rattle.ack_receipt.specs.Reservations.{asked_of}
use Rattle.event_modes.specs.Reading.{meaning}
use Rattle.tag_pattern.specs.Prefixes.{entered_tag}
use Rattle.route_graph.specs.declared.way.Way.{Way}
use Rattle.route_graph.specs.Table.{Table}
use Rattle.route_graph.specs.Listing.{IsWay, AreFirstReached, numbers_of}
use Rattle.route_graph.specs.Ways.{IsLoop}
use Rattle.relay_ports.specs.Leaves.{Entry}
use Rattle.relay_ports.proofs.Leading.{found_too, some_entries, leaves_for}
use Rattle.relay_ports.proofs.inlet.Inlet.branches.Goals as goal

pub returns-in-Leaves-clause-leaves : goal.returns-in-Leaves-clause-leaves
returns-in-Leaves-clause-leaves g c =
    let entry = c.args.self.now in
    let asked = asked_of (meaning c.args.message.now) in
    let tag = c.in-Some.tag in
    let buffers = c.in-Leaves.buffers.items in
    let scope = c.self.inside.scope.0 in
    let found = subst (λ (o : Option (List ℕ)). IfSome o (λ t. t ≡ entered_tag entry.prefix c.deref.result.now)) c.in-Some.is c.in_ok-tag.ensures in
    let way = subst (λ (w : Way _). IsWay c.deref-2.result.now tag scope w) c.in-Leaves.is c.in_ok-way.ensures.way in
    let there = subst (λ (t : Table). (IsLoop t tag scope → ⊥) × AreFirstReached t tag scope (numbers_of buffers)) c.deref-2.ensures way in
    let is = subst (λ (x : Entry). (IsLoop x.table tag x.scope → ⊥) × AreFirstReached x.table tag x.scope (numbers_of buffers)) c.self.view_is there in
    found_too _ _ c.branches_to.result
    (λ branches p. leaves_for entry asked tag buffers branches.tag branches.leaves.items
    (some_entries c.count.result asked.count c.count.ensures c.if-count-eq0.false)
    (found ∙ ap (entered_tag entry.prefix) c.deref.ensures.value) is p.0 p.1)
    c.branches_to.ensures
