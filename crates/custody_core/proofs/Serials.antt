-- Events, options of which something holds, and what stands at a serial.
use Rattle.std.proofs.Common.{◌≡◌, ◌≢◌, ℕ, ◌==◌, true, false, cond, List, Option, Some, None, refl, sym, ◌∙◌, ◌⊎◌, inl, inr, IsSomeAnd}
use Rattle.std.proofs.lemmas.Option.{same_Some}
use Rattle.std.proofs.lemmas.Bool.{eqb-true, eq-eqb}
use Rattle.custody_store.specs.Buffers.{Event, Chunk, BufferState, with_chunk}

-- an entry under a tag
abbrev pub event_of : List ℕ → List ℕ → Event
event_of tag entry = record { tag = tag; entry = entry }

-- an option with a value of which something holds
pub and_some : {X : Type 0} (o : Option X) (P : X → Type 0) (x : X) → o ≡ Some x → P x → IsSomeAnd o P
and_some None P x e h = absurd (cc)
and_some (Some y) P x e h = rw (same_Some y x e) h

-- what stands at a serial after another value was put at one
pub at_serial : (state : BufferState) (serial other : ℕ) (new : Option Chunk) → ((other ≡ serial) × ((with_chunk serial new state).chunks other ≡ new)) ⊎ ((other ≢ serial) × ((with_chunk serial new state).chunks other ≡ state.chunks other))
at_serial state serial other new =
    elim (other == serial) as (λ b. (other == serial) ≡ b → ((other ≡ serial) × (cond b new (state.chunks other) ≡ new)) ⊎ ((other ≢ serial) × (cond b new (state.chunks other) ≡ state.chunks other))) [
      | true ↦ λ e. inl (eqb-true other serial e, refl)
      | false ↦ λ e. inr (λ same. (let f = eq-eqb other serial same in let g : true ≡ false = sym f ∙ e in cc), refl)
    ] refl
