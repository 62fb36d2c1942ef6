use Rattle.std.proofs.Common.{◌≡◌, ◌+◌, ◌++◌, ◌≤◌, ◌∙◌, ap, arith, drop, length, rules, subst, sym}
use Rattle.std.proofs.lemmas.List.{length-drop}
use Rattle.folder_counts.specs.Tallies.{Adds, HeldView, IsHeldAfter}
use Rattle.folder_counts.proofs.Tallied.{held_more}
use Rattle.folder_counts.proofs.events.Held.take.Goals as goal

pub returns : goal.returns
returns g c = λ seen on.
    let form = g.S.Spelling.form in
    let front = c.in_ok-front.front in
    let held : HeldView = record { tally = c.self.inside.tally; taken = c.self.inside.taken; bytes = c.self.inside.bytes.items } in
    let new : HeldView = record { tally = front.tally; taken = c.in_ok-self-inside.field-0; bytes = c.drop_front.new.bytes.items } in
    let bytes = c.self.inside.bytes.items ++ c.args.piece.now in
    let grown : c.extend_from_slice.new.self.items ≡ bytes = search rules in
    let all : c.deref.result.now ≡ bytes = search rules in
    let left : c.drop_front.new.bytes.items ≡ drop front.used bytes = c.drop_front.ensures ∙ ap (drop front.used) grown in
    let fits = subst (λ b. front.used ≤ length b) all c.in_ok-front.ensures.used in
    let adds = subst (Adds form held.tally bytes front.tally) (sym left) (subst (λ b. Adds form held.tally b front.tally (drop front.used b)) all c.in_ok-front.ensures.all) in
    let taken : new.taken + length new.bytes ≡ held.taken + length bytes = omega (arith, c.in_ok-self-inside.ensures, fits, ap length left, length-drop front.used bytes) in
    held_more form held new c.args.piece.now seen (subst (λ h. IsHeldAfter form h seen) (sym c.self.view_is) on) adds taken
