use Rattle.std.proofs.Common.{◌≡◌, refl, subst, length, List}
use Rattle.tag_pattern.specs.Grammar.{Slot, expansions}
use Rattle.tag_pattern.proofs.Expansions.{ahead_slot, left_less, in_pieces, left_step}
use Rattle.tag_pattern.proofs.SlotCuts.{slots_unique}
use Rattle.tag_pattern.proofs.expansion.expansion.Goals as goal

pub loop-rest-init : goal.loop-rest-init
loop-rest-init g c slots h =
    let same = slots_unique c.requires.0 slots c.args.text.now c.requires.1 h in
    let count : c.args.plains ≡ length (expansions slots) = subst (λ (x : List Slot). c.args.plains ≡ length (expansions x)) same c.requires.2 in
    (slots, h, record { count = count; below = c.requires.3; read = rw c.new-items.ensures.items refl })

pub nonzero_div-number : goal.nonzero_div-number
nonzero_div-number g c =
    let held = rw c.in-Some.is at (c.loop-rest.invariant c.requires.0 c.requires.1) in
    let found = ahead_slot c.requires.0 held.0 _ _ _ _ _ _ _ c.in-Some-first_slot.ensures held.1 held.2 in
    rw (left_less found.0 found.1 c.in-Some-first_slot.body.now _ _ found.2 c.piece_count-left.ensures found.5.count) found.4

pub nonzero_rem-number : goal.nonzero_rem-number
nonzero_rem-number g c =
    let held = rw c.in-Some.is at (c.loop-rest.invariant c.requires.0 c.requires.1) in
    let found = ahead_slot c.requires.0 held.0 _ _ _ _ _ _ _ c.in-Some-first_slot.ensures held.1 held.2 in
    rw (left_less found.0 found.1 c.in-Some-first_slot.body.now _ _ found.2 c.piece_count-left.ensures found.5.count) found.4

pub nth_piece-alternative-requires : goal.nth_piece-alternative-requires
nth_piece-alternative-requires g c =
    let held = rw c.in-Some.is at (c.loop-rest.invariant c.requires.0 c.requires.1) in
    let found = ahead_slot c.requires.0 held.0 _ _ _ _ _ _ _ c.in-Some-first_slot.ensures held.1 held.2 in
    in_pieces found.0 found.1 c.in-Some-first_slot.body.now c.loop-rest.number _ _ found.2 c.piece_count-left.ensures found.5.count found.4 found.5.below

pub loop-rest-preserved : goal.loop-rest-preserved
loop-rest-preserved g c slots h =
    let held = rw c.in-Some.is at (c.loop-rest.invariant slots h) in
    let found = ahead_slot slots held.0 _ _ _ _ _ _ _ c.in-Some-first_slot.ensures held.1 held.2 in
    (found.1, found.3, left_step slots found.1 found.0 c.in-Some-first_slot.body.now c.nth_piece-alternative.result.now c.args.number c.loop-rest.number _ _ _ _ found.2 c.piece_count-left.ensures found.4 c.nth_piece-alternative.ensures c.in_ok-push_parts-in-Some-first_slot.ensures found.5)
