use Rattle.std.proofs.Common.{ℕ, List, [], None, refl, subst, sym}
use Rattle.folder_counts.specs.Tallies.{HeldView, IsHeldAfter}
use Rattle.folder_counts.specs.declared.events.Tally.{Tally}
use Rattle.folder_counts.proofs.Tallied.{held_start}
use Rattle.folder_counts.proofs.events.Held.new.Goals as goal

pub returns : goal.returns
returns g c =
    let none : Tally = record { events = 0; oldest = None; newest = None } in
    let holds : List ℕ → HeldView = λ bytes. record { tally = none; taken = 0; bytes = bytes } in
    subst (λ bytes. IsHeldAfter (g.S.Spelling.form) (holds bytes) []) (sym c.new.ensures.items) (held_start (g.S.Spelling.form) none refl)
