use Rattle.std.proofs.Common.{◌∷◌, ◌++◌, [], List, ℕ, ap, ◌∙◌}
use Rattle.event_modes.proofs.Stored.{one_stored}
use Rattle.event_modes.proofs.message.Entries.of_event.Goals as goal

pub invariant_of-result : goal.invariant_of-result
invariant_of-result g c =
    (one_stored c.extend_from_slice.new.self.items (0x92 ∷ c.args.event.now) (c.in_ok-extend_from_slice.ensures.items ∙ ap (λ (z : List ℕ). z ++ c.args.event.now) (c.push_reserved.ensures.items ∙ ap (λ (z : List ℕ). z ++ 0x92 ∷ []) c.in_ok-bytes.ensures.items)) c.requires).0

pub returns : goal.returns
returns g c =
    (one_stored c.extend_from_slice.new.self.items (0x92 ∷ c.args.event.now) (c.in_ok-extend_from_slice.ensures.items ∙ ap (λ (z : List ℕ). z ++ c.args.event.now) (c.push_reserved.ensures.items ∙ ap (λ (z : List ℕ). z ++ 0x92 ∷ []) c.in_ok-bytes.ensures.items)) c.requires).1
