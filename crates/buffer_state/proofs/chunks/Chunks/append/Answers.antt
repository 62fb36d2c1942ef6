use Rattle.std.proofs.Common.{◌≡◌, ◌≤◌, ◌+◌, ◌∷◌, [], ℕ, List, refl, sym, ap, subst, ◌∙◌, arith, inl, inr}
use Rattle.std.specs.Prelude.{IsSomeAnd}
use Rattle.buffer_state.specs.declared.chunk.Stage.TheVariants.{Staged}
use Rattle.buffer_state.specs.State.{State, chunk_at}
use Rattle.buffer_state.specs.Steps.{appended}
use Rattle.buffer_state.specs.Slots.{Slot, fresh}
use Rattle.buffer_state.specs.Views.{state_of}
use Rattle.std.specs.Map.{keys_of}
use Rattle.std.proofs.lemmas.List.{map-append}
use Rattle.buffer_state.proofs.Steps.{slot_there, below_at, below_more, rising_last, sound_add, added_view}
use Rattle.buffer_state.proofs.chunks.Chunks.append.Goals as goal

pub overflow_add-self : goal.overflow_add-self
overflow_add-self g c = elim c.requires.place [
  | inl h ↦ (
      let found = slot_there _ c.args.serial (λ chunk. (chunk.stage ≡ Staged) × (chunk.tag ≡ c.args.tag.now)) (subst (λ (state : State). IsSomeAnd (chunk_at state c.args.serial) (λ chunk. (chunk.stage ≡ Staged) × (chunk.tag ≡ c.args.tag.now))) (sym c.self.view_is) h) in
      let lt = below_at _ c.self.inside.next c.args.serial found.0 c.self.invariant.below found.1 in
      let le = c.if-serial-self.false in
      omega (arith, lt, le)
      )
  | inr h ↦ (let lt = h.1 in omega (arith, lt))
]

pub invariant_of-self-2 : goal.invariant_of-self-2
invariant_of-self-2 g c =
    let le : c.self.inside.next ≤ c.args.serial = c.if-serial-self.false in
    let w : Slot = fresh c.args.tag.now c.args.entries.now in
    rw c.in_ok-add.ensures.ok (sound_add c.self.inside.table c.self.inside.waiting c.self.inside.queue c.self.inside.next c.self.invariant c.args.serial w le refl
    (rw (map-append (λ (e : ℕ × Slot). e.0) c.self.inside.table ((c.args.serial, w) ∷ [])) (rising_last (keys_of c.self.inside.table) c.args.serial c.self.invariant.rising (below_more c.self.inside.next c.args.serial _ le c.self.invariant.below))))

pub returns-clause-ok : goal.returns-clause-ok
returns-clause-ok g c =
    let le : c.self.inside.next ≤ c.args.serial = c.if-serial-self.false in
    ap (λ (t : List (ℕ × Slot)). state_of t c.self.inside.queue.items (c.args.serial + 1)) c.in_ok-add.ensures.ok
    ∙ added_view c.self.inside.table c.self.inside.next c.args.serial c.args.tag.now c.args.entries.now c.self.inside.queue.items (below_more c.self.inside.next c.args.serial _ le c.self.invariant.below)
    ∙ ap (appended c.args.serial c.args.tag.now c.args.entries.now) c.self.view_is
