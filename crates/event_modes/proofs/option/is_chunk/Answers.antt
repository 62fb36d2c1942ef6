use Rattle.std.proofs.Common.{◌≡◌, ℕ, List, IsTrue, Option, Some, None, MatchOption, Bool, false, Bor, sym, subst, inl, inr}
use Rattle.std.specs.Option.{is_some}
use Rattle.msgpack_bytes.specs.Kinds.{IsNil, IsText}
use Rattle.event_modes.specs.Options.{IsChunk}
use Rattle.event_modes.proofs.option.is_chunk.Goals as goal

-- no text is no chunk, where it is not nil
no_chunk : (value : List ℕ) (o : Option (Bor (List ℕ))) → (IsNil value → ⊥) → MatchOption o ((content : List ℕ) → IsText value content → ⊥) (λ content. IsText value content.now)
    → is_some o ≡ false → (IsTrue false → IsChunk value) × (IsChunk value → IsTrue false)
no_chunk value None n m e = (λ f. absurd cc, λ c. absurd (elim c [ inl i ↦ n i | inr t ↦ m t.0 t.1 ]))
no_chunk value (Some x) n m e = absurd cc

pub returns-else-is_some : goal.returns-else-is_some
returns-else-is_some c =
    subst (λ (b : Bool). (IsTrue b → IsChunk c.args.value.now) × (IsChunk c.args.value.now → IsTrue b)) (sym c.if-is_some.false)
    (no_chunk c.args.value.now c.str_or_bin.result (λ n. let f = c.if-is_nil.ensures.1 n in absurd cc) c.str_or_bin.ensures.right (sym c.if-is_some.ensures))
