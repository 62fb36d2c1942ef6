use Rattle.std.proofs.Common.{ℕ, ◌∷◌, ◌++◌, [], List, ap, subst, sym, ◌∙◌, ◌+◌, arith}
use Rattle.event_modes.specs.Rows.{items_of, AreStored}
use Rattle.event_modes.proofs.Stored.{Pushed, push_stored, count_fits}
use Rattle.event_modes.proofs.message.Entries.push_stored.Goals as goal

pub overflow_add-self : goal.overflow_add-self
overflow_add-self g c = let h = count_fits c.self.inside.count c.self.inside.bytes.items c.self.invariant in omega arith

pushed : (g : _) (c : goal.After-self-1 g) → Pushed c.self.inside.count c.self.inside.bytes.items c.args.entry.now
pushed g c = push_stored c.self.inside.count c.self.inside.bytes.items c.args.entry.now c.self.invariant c.requires

pub invariant_of-self-2 : goal.invariant_of-self-2
invariant_of-self-2 g c = subst (AreStored (c.self.inside.count + 1)) (sym c.in_ok-extend_from_slice.ensures.items) (pushed g c).stored

pub returns-clause-ok : goal.returns-clause-ok
returns-clause-ok g c =
    ap (items_of (c.self.inside.count + 1)) c.in_ok-extend_from_slice.ensures.items ∙ (pushed g c).last ∙ ap (λ (xs : List (List ℕ)). xs ++ c.args.entry.now ∷ []) c.self.view_is
