use Rattle.std.proofs.Common.{Vec, inl, inr, refl, rules}
use Rattle.ack_receipt.specs.Deliveries.{Pended}
use Rattle.loop_core.proofs.Redeeming.{begins_fresh, empty_waits, gets_none, have_receipts, lost_unless, none_wait, wait_on}
use Rattle.loop_core.proofs.lane.Lane.redeem.Goals as goal

pub returns-then-is_empty-clause-ok : goal.returns-then-is_empty-clause-ok
returns-then-is_empty-clause-ok g c =
    let none = empty_waits c.args.self.now c.keep.new.self _ c.new.result.items c.is_empty.result c.self-2.inside.pendings.len c.keep.ensures c.new.ensures.items c.self-2.view_is
    c.is_empty.ensures c.if-is_empty.true c.self-2.inside.pendings.ok.0 in
    inl (none_wait c.args.self.now _ refl none.0 none.1 none.2)

pub returns-in-Ok-clause-ok : goal.returns-in-Ok-clause-ok
returns-in-Ok-clause-ok g c =
    inl (have_receipts (λ (v : Vec Pended g.row.A.Denot). v.items) c.args.self.now _ c.keep-in-Ok.new.self c.replace-list.result c.self-3.inside.pendings c.replace-list.new.dest c.new-2.result c.in-Ok.receipts.items
    (begins_fresh c.args.self.now c.keep.new.self _ c.note_room.new.self _ c.new.result.items c.keep.ensures c.new.ensures.items c.self-2.view_is c.note_room.ensures c.self-3.view_is)
    c.keep-in-Ok.ensures c.replace-list.ensures.after c.new-2.ensures.items c.replace-list.ensures.value refl c.deref.result.now c.deref.ensures c.in-Ok.ensures.ok)

pub returns-in-Err-Buffer-Memory-default-clause-ok : goal.returns-in-Err-Buffer-Memory-default-clause-ok
returns-in-Err-Buffer-Memory-default-clause-ok g c =
    let wait = wait_on (λ (v : Vec Pended g.row.A.Denot). v.items) c.args.self.now _ c.replace.new.dest c.in-Err-Buffer-Memory-default.list c.replace-list.result c.self-3.inside.pendings
    (begins_fresh c.args.self.now c.keep.new.self _ c.note_room.new.self _ c.new.result.items c.keep.ensures c.new.ensures.items c.self-2.view_is c.note_room.ensures c.self-3.view_is)
    c.replace.ensures.after c.in-Err-Buffer-Memory-default.ensures.back c.replace-list.ensures.value refl in
    inr (record { later = refl; waiting = wait.0; receipts = wait.1 })

pub returns-in-Err-Buffer-default-clause-terms : goal.returns-in-Err-Buffer-default-clause-terms
returns-in-Err-Buffer-default-clause-terms g c =
    (gets_none (λ (v : Vec Pended g.row.A.Denot). v.items) c.args.self.now _ _ c.replace-list.new.dest c.new-2.result
    (begins_fresh c.args.self.now c.keep.new.self _ c.note_room.new.self _ c.new.result.items c.keep.ensures c.new.ensures.items c.self-2.view_is c.note_room.ensures c.self-3.view_is)
    refl c.replace-list.ensures.after c.new-2.ensures.items).0

pub returns-in-Err-Buffer-default-clause-plan : goal.returns-in-Err-Buffer-default-clause-plan
returns-in-Err-Buffer-default-clause-plan g c =
    (gets_none (λ (v : Vec Pended g.row.A.Denot). v.items) c.args.self.now _ _ c.replace-list.new.dest c.new-2.result
    (begins_fresh c.args.self.now c.keep.new.self _ c.note_room.new.self _ c.new.result.items c.keep.ensures c.new.ensures.items c.self-2.view_is c.note_room.ensures c.self-3.view_is)
    refl c.replace-list.ensures.after c.new-2.ensures.items).1

pub returns-in-Err-Buffer-default-clause-err : goal.returns-in-Err-Buffer-default-clause-err
returns-in-Err-Buffer-default-clause-err g c =
    (gets_none (λ (v : Vec Pended g.row.A.Denot). v.items) c.args.self.now _ _ c.replace-list.new.dest c.new-2.result
    (begins_fresh c.args.self.now c.keep.new.self _ c.note_room.new.self _ c.new.result.items c.keep.ensures c.new.ensures.items c.self-2.view_is c.note_room.ensures c.self-3.view_is)
    refl c.replace-list.ensures.after c.new-2.ensures.items).2

pub returns-in-Err-Buffer-default-clause-told : goal.returns-in-Err-Buffer-default-clause-told
returns-in-Err-Buffer-default-clause-told g c =
    lost_unless c.in-Err-Buffer-default.field-0-0 c.in-Err-Buffer-default.fault c.in-Err-Buffer-default.ensures.only c.in-Err-Buffer-default.field-0-0-is (search rules)
