use Rattle.std.proofs.Common.{refl, ℕ, List, Option, Some, None, IsTrue, ◌↔◌, MatchOption, subst, sym, Bool}
use Rattle.std.specs.Option.{is_some}
use Rattle.msgpack_bytes.specs.Containers.{Pair, IsMap}
use Rattle.event_modes.specs.Entry.{IsRecord}
use Rattle.event_modes.proofs.item.is_record.Goals as goal

some_map : {X : Type 0} (o : Option X) (item : List ℕ) (Q : X → Type 0) → ((x : X) → Q x → IsRecord item) → MatchOption o ((pairs : List Pair) → IsMap pairs item → ⊥) Q → IsTrue (is_some o) ↔ IsRecord item
some_map None item Q f p = (λ t. absurd cc, λ r. absurd (p r.0 r.1))
some_map (Some x) item Q f p = (λ _. f x p, λ _. refl)

pub returns : goal.returns
returns c =
    subst (λ (b : Bool). IsTrue b ↔ IsRecord c.args.item.now) (sym c.is_some.ensures) (some_map c.map_of.result c.args.item.now _ (λ x q. (q.0, q.1)) c.map_of.ensures)
