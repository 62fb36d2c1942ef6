use Rattle.std.proofs.Common.{◌≡◌, ◌∙◌, ◌∷◌, List, ap, refl, subst, sym}
use Rattle.relay_conf.specs.declared.output.BufferNo.{BufferNo}
use Rattle.ack_receipt.specs.Deliveries.{Pended}
use Rattle.loop_core.specs.Lanes.{AreAppended, EndsWith, LanesState, listed_at}
use Rattle.loop_core.proofs.Appending.{each_ends, ends_here, still_ends, undone_at}
use Rattle.loop_core.proofs.lanes.Lanes.+append_each.Goals as goal

pub returns-then-append_each-clause-appended : goal.returns-then-append_each-clause-appended
returns-then-append_each-clause-appended g t c =
    λ yes buffer within.
    let first = c.in-Some.first.now in
    let whole : c.args.buffers.now ≡ first ∷ c.in-Some.others.now = c.in-Some.ensures.cases.0 in
    each_ends c.args.delivery.now.number c.args.buffers.now c.in-Some.others.now first buffer c.append_each.new.self.waiting whole
    (c.append_each.ensures.last first (ends_here first first c.args.delivery.now.number _ _ _ c.in-Ok.ensures.appended refl)) (c.append_each.ensures.appended c.if-append_each.true) within

pub returns-then-append_each-clause-each : goal.returns-then-append_each-clause-each
returns-then-append_each-clause-each g t c =
    λ yes.
    let first = c.in-Some.first.now in
    let whole : c.args.buffers.now ≡ first ∷ c.in-Some.others.now = c.in-Some.ensures.cases.0 in
    subst (λ (l : List BufferNo). AreAppended c.args.delivery.now.number l c.args.self.now.waiting c.append_each.new.self.waiting) (sym whole)
    (_, _, c.in-Ok.ensures.appended, c.append_each.ensures.each c.if-append_each.true)

pub returns-then-append_each-clause-last : goal.returns-then-append_each-clause-last
returns-then-append_each-clause-last g t c =
    λ buffer was. c.append_each.ensures.last buffer (still_ends c.in-Some.first.now buffer c.args.delivery.now.number _ _ _ c.in-Ok.ensures.appended was)

pub returns-clause-undone : goal.returns-clause-undone
returns-clause-undone g t c =
    λ no.
    ap (λ (s : LanesState _). s.waiting) c.undo_at.ensures
    ∙ undone_at c.in-Some.first.now c.args.delivery.now.number _ c.args.self.now.waiting _ c.append_each.new.self.waiting c.in-Ok.ensures.appended (c.append_each.ensures.undone c.if-append_each.false)

pub returns-clause-last : goal.returns-clause-last
returns-clause-last g t c =
    λ buffer was.
    subst (λ (w : List (List Pended)). EndsWith c.args.delivery.now.number (listed_at w buffer))
    (sym (ap (λ (s : LanesState _). s.waiting) c.undo_at.ensures
    ∙ undone_at c.in-Some.first.now c.args.delivery.now.number _ c.args.self.now.waiting _ c.append_each.new.self.waiting c.in-Ok.ensures.appended (c.append_each.ensures.undone c.if-append_each.false))) was
