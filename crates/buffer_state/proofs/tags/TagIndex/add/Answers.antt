use Rattle.std.proofs.Common.{◌≡◌, ℕ, List, Option, ◌++◌, ◌∷◌, [], sym, ap, subst, ◌∙◌}
use Rattle.std.specs.Prelude.{Vec}
use Rattle.std.specs.Ordering.{nat_cmp}
use Rattle.std.specs.Cmp.Lexicographic.{slice_cmp}
use Rattle.std.specs.BTreeMap.{BTreeMap, insert_entry}
use Rattle.std.specs.BTreeSet.{BTreeSet, insert_key}
use Rattle.std.specs.Option.{option_map_or}
use Rattle.buffer_state.specs.Slots.{AreBelow}
use Rattle.buffer_state.proofs.Serials.{on_err, key_last}
use Rattle.buffer_state.proofs.Named.{set_serials, inserted_serials, same_serials, serials}
use Rattle.buffer_state.proofs.tags.TagIndex.add.Goals as goal

pub returns-in_err-insert-clause-err : goal.returns-in_err-insert-clause-err
returns-in_err-insert-clause-err g c =
    let h = c.get_mut.follows.holds c.insert.new.self in
    on_err {P = (other : List ℕ) → serials (c.get_mut.follows.lender c.insert.new.self).entries other ≡ serials c.args.self.now.sets.entries other} _ (λ other. same_serials _ _ c.args.tag.now other _ _ (sym c.in-Some.ensures.value) h.0 c.in_err-insert.ensures.err)

pub returns-in-Some-clause-ok : goal.returns-in-Some-clause-ok
returns-in-Some-clause-ok g c = λ other.
    let h = c.get_mut.follows.holds c.insert.new.self in
    let last : AreBelow c.args.serial c.in-Some.serials.now.keys = subst (AreBelow c.args.serial) (ap (λ (o : Option (BTreeSet ℕ)). option_map_or (λ v. v.keys) o []) (sym c.in-Some.ensures.value)) c.requires.last in
    set_serials _ _ c.args.tag.now other _ _ (λ xs. xs ++ c.args.serial ∷ []) (sym c.in-Some.ensures.value) h.0 (c.in_ok-insert.ensures.keys ∙ key_last _ c.args.serial last)

pub returns-clause-ok : goal.returns-clause-ok
returns-clause-ok g c = λ other.
    let l = c.get_mut.follows.holds-at-none in
    inserted_serials _ _ c.in_ok-key.key c.args.tag.now other c.insert-2.new.self c.args.serial c.in_ok-key.ensures.items (sym c.in_default.ensures.value)
    (c.in_ok-insert-3.ensures.entries ∙ ap (λ (m : BTreeMap (Vec ℕ g.row.A.Denot) (BTreeSet ℕ)). insert_entry (λ x y. slice_cmp nat_cmp x.items y.items) m.entries c.in_ok-key.key c.insert-2.new.self) l)
    (c.in_ok-insert-2.ensures.keys ∙ ap (λ xs. insert_key nat_cmp xs c.args.serial) c.new-serials.ensures.empty)
