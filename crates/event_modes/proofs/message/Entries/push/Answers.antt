use Rattle.std.proofs.Common.{ℕ, ◌+◌, ◌≡◌, ◌∷◌, ◌++◌, List, [], subst, sym, ap, ◌∙◌, arith, append_assoc}
use Rattle.event_modes.specs.Entry.{stored_entry}
use Rattle.event_modes.specs.Rows.{items_of, AreStored}
use Rattle.event_modes.proofs.Stored.{Pushed, push_stored, count_fits}
use Rattle.event_modes.proofs.message.Entries.push.Goals as goal

pub overflow_add-self : goal.overflow_add-self
overflow_add-self g c = let h = count_fits c.self.inside.count c.self.inside.bytes.items c.self.invariant in omega arith

appended : (old a b d e time fields : List ℕ) → a ≡ old → b ≡ a ++ 0x92 ∷ [] → d ≡ b ++ time → e ≡ d ++ fields → e ≡ old ++ stored_entry time fields
appended old a b d e time fields p q r s =
    s ∙ ap (λ (z : List ℕ). z ++ fields) (r ∙ ap (λ (z : List ℕ). z ++ time) (q ∙ ap (λ (z : List ℕ). z ++ 0x92 ∷ []) p))
    ∙ append_assoc (old ++ 0x92 ∷ []) time fields ∙ append_assoc old (0x92 ∷ []) (time ++ fields)

whole : (g : _) (c : goal.After-self-1 g) → c.extend_from_slice-2.new.self.items ≡ c.self.inside.bytes.items ++ stored_entry c.args.time.now c.args.fields.now
whole g c = appended c.self.inside.bytes.items c.reserve.new.self.items c.push_reserved.new.self.items c.extend_from_slice.new.self.items c.extend_from_slice-2.new.self.items c.args.time.now c.args.fields.now
    c.in_ok-reserve.ensures.items c.push_reserved.ensures.items c.in_ok-extend_from_slice.ensures.items c.in_ok-extend_from_slice-2.ensures.items

pushed : (g : _) (c : goal.After-self-1 g) → Pushed c.self.inside.count c.self.inside.bytes.items (stored_entry c.args.time.now c.args.fields.now)
pushed g c = push_stored c.self.inside.count c.self.inside.bytes.items (stored_entry c.args.time.now c.args.fields.now) c.self.invariant c.requires

pub invariant_of-self-2 : goal.invariant_of-self-2
invariant_of-self-2 g c = subst (AreStored (c.self.inside.count + 1)) (sym (whole g c)) (pushed g c).stored

pub returns-clause-ok : goal.returns-clause-ok
returns-clause-ok g c =
    ap (items_of (c.self.inside.count + 1)) (whole g c) ∙ (pushed g c).last ∙ ap (λ (xs : List (List ℕ)). xs ++ stored_entry c.args.time.now c.args.fields.now ∷ []) c.self.view_is
