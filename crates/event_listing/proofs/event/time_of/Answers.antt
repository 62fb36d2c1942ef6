use Rattle.std.proofs.Common.{ℕ, List, FitsSigned, to_z, of_z, subst, sym}
use Rattle.std.specs.Int.{w128}
use Rattle.std.proofs.lemmas.Int.{to_z-of_z}
use Rattle.event_modes.specs.Entry.{IsTime}
use Rattle.event_listing.specs.Events.{IsNanoseconds}
use Rattle.event_listing.proofs.Stored.{two_items, first_is}
use Rattle.event_listing.proofs.event.time_of.Goals as goal

pub first_item-requires-clause-items : goal.first_item-requires-clause-items
first_item-requires-clause-items c = two_items c.args.entry.now c.split_at.result.1.now c.split_at.ensures.back c.requires

pub nanoseconds_of-requires-clause-time : goal.nanoseconds_of-requires-clause-time
nanoseconds_of-requires-clause-time c =
    let item = first_is c.args.entry.now c.split_at.result.1.now c.first_item.result.item.now _ c.split_at.ensures.back c.requires c.first_item.ensures.first in
    subst IsTime (sym item.0) c.requires.kept.is_time

pub returns : goal.returns
returns c =
    let item = first_is c.args.entry.now c.split_at.result.1.now c.first_item.result.item.now _ c.split_at.ensures.back c.requires c.first_item.ensures.first in
    let fits : FitsSigned w128 c.nanoseconds_of.result = record { sfits = c.nanoseconds_of.type_inv } in
    let is = subst (IsNanoseconds c.first_item.result.item.now) (sym (to_z-of_z w128 c.nanoseconds_of.result fits)) c.nanoseconds_of.ensures in
    record { entry_is = c.requires.kept; is = subst (λ (z : List ℕ). IsNanoseconds z (to_z w128 (of_z w128 c.nanoseconds_of.result))) item.0 is }
