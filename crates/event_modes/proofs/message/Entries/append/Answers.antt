use Rattle.std.proofs.Common.{ℕ, ◌+◌, ◌≡◌, ◌++◌, List, length, subst, sym, ap, ap₂, ◌∙◌, arith}
use Rattle.std.proofs.lemmas.List.{length-append}
use Rattle.event_modes.specs.Rows.{items_of, AreStored}
use Rattle.event_modes.proofs.Stored.{Joined, join_stored, count_fits}
use Rattle.event_modes.proofs.message.Entries.append.Goals as goal

whole : (old new more others : List ℕ) → new ≡ old ++ more → more ≡ others → new ≡ old ++ others
whole old new more others e f = e ∙ ap (λ (z : List ℕ). old ++ z) f

joined : (g : _) (c : goal.After-self-1 g) → Joined c.self.inside.count c.others.inside.count c.self.inside.bytes.items c.others.inside.bytes.items
joined g c = join_stored c.self.inside.count c.others.inside.count c.self.inside.bytes.items c.others.inside.bytes.items c.self.invariant c.others.invariant

pub overflow_add-self : goal.overflow_add-self
overflow_add-self g c =
    let a = count_fits c.self.inside.count c.self.inside.bytes.items c.self.invariant in
    let b = count_fits c.others.inside.count c.others.inside.bytes.items c.others.invariant in
    let w = whole c.self.inside.bytes.items c.extend_from_slice.new.self.items c.deref.result.now c.others.inside.bytes.items c.in_ok-extend_from_slice.ensures.items c.deref.ensures.value in
    let l = ap length w in
    omega (arith, length-append c.self.inside.bytes.items c.others.inside.bytes.items)

pub invariant_of-self-2 : goal.invariant_of-self-2
invariant_of-self-2 g c =
    subst (AreStored (c.self.inside.count + c.others.inside.count))
    (sym (whole c.self.inside.bytes.items c.extend_from_slice.new.self.items c.deref.result.now c.others.inside.bytes.items c.in_ok-extend_from_slice.ensures.items c.deref.ensures.value)) (joined g c).stored

pub returns-clause-ok : goal.returns-clause-ok
returns-clause-ok g c =
    ap (items_of (c.self.inside.count + c.others.inside.count))
    (whole c.self.inside.bytes.items c.extend_from_slice.new.self.items c.deref.result.now c.others.inside.bytes.items c.in_ok-extend_from_slice.ensures.items c.deref.ensures.value)
    ∙ (joined g c).list ∙ ap₂ (λ (x y : List (List ℕ)). x ++ y) c.self.view_is c.others.view_is
