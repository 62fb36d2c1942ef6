-- The last pair of a name is one.
use Rattle.std.proofs.Common.{ℕ, ◌≡◌, List, [], ◌∷◌, ◌++◌, refl, ap, sym, subst, ◌∙◌, inl, inr, Option, Some, None}
use Rattle.std.specs.Prelude.{codes}
use Rattle.msgpack_bytes.specs.Kinds.{IsNil}
use Rattle.msgpack_bytes.specs.Containers.{Pair}
use Rattle.msgpack_bytes.specs.Names.{IsNamed, HasNoKey, IsLastValue}
use Rattle.msgpack_bytes.proofs.Walk.{lacks_at, lasts_one, last_one}
use Rattle.event_modes.specs.Options.{AsksFor, IsOption}
use Rattle.event_modes.specs.Pairs.{pair_of}
use Rattle.event_modes.proofs.Begins.{map_one, no_map_nil}

pub lacks_last : (name : List ℕ) (pairs : List Pair) (value : List ℕ) → HasNoKey name pairs → IsLastValue name pairs value → ⊥
lacks_last name pairs value l last =
    lacks_at name last.before (pair_of last.key value) last.after (subst (HasNoKey name) last.whole l) last.named

afters_one : (name : List ℕ) (b c : List Pair) (p q : Pair) (d e : List Pair) → IsNamed name p → IsNamed name q → HasNoKey name d → HasNoKey name e → b ++ p ∷ d ≡ c ++ q ∷ e → d ≡ e
afters_one name [] [] p q d e h k l m eq = cc
afters_one name [] (x ∷ c) p q d e h k l m eq =
    let t : d ≡ c ++ q ∷ e = cc in
    absurd (lacks_at name c q e (subst (HasNoKey name) t l) k)
afters_one name (x ∷ b) [] p q d e h k l m eq =
    let t : b ++ p ∷ d ≡ e = cc in
    absurd (lacks_at name b p d (subst (HasNoKey name) (sym t) m) h)
afters_one name (x ∷ b) (y ∷ c) p q d e h k l m eq = afters_one name b c p q d e h k l m (cc)

-- the last of a name, and what is behind it, are one
pub same_last : (name : List ℕ) (ps qs : List Pair) (v w : List ℕ) → ps ≡ qs → (l : IsLastValue name ps v) (m : IsLastValue name qs w) → (v ≡ w) × (l.after ≡ m.after)
same_last name ps qs v w e l m =
    let whole = sym l.whole ∙ e ∙ m.whole in (
      ap (λ (p : Pair). p.value) (lasts_one name l.before m.before (pair_of l.key v) (pair_of m.key w) l.after m.after l.named m.named l.last m.last whole),
      afters_one name l.before m.before (pair_of l.key v) (pair_of m.key w) l.after m.after l.named m.named l.last m.last whole,
    )

pub asks_one : (pairs : List Pair) (a b : Option (List ℕ)) → AsksFor pairs a → AsksFor pairs b → a ≡ b
asks_one pairs None None p q = refl
asks_one pairs None (Some v) (inl l) q = absurd (lacks_last (codes "chunk") pairs v l q.0)
asks_one pairs None (Some v) (inr l) q = absurd (q.1 (subst IsNil (last_one (codes "chunk") pairs l.0 v l.1 q.0) l.2))
asks_one pairs (Some v) None p (inl l) = absurd (lacks_last (codes "chunk") pairs v l p.0)
asks_one pairs (Some v) None p (inr l) = absurd (p.1 (subst IsNil (last_one (codes "chunk") pairs l.0 v l.1 p.0) l.2))
asks_one pairs (Some v) (Some w) p q = ap (λ (x : List ℕ). Some x) (last_one (codes "chunk") pairs v w p.0 q.0)

pub option_one : (o a b : Option (List ℕ)) → IsOption o a → IsOption o b → a ≡ b
option_one None a b p q = p ∙ sym q
option_one (Some bytes) a b (inl p) (inl q) = p.1 ∙ sym q.1
option_one (Some bytes) a b (inl p) (inr q) = absurd (no_map_nil q.0 bytes q.1 p.0)
option_one (Some bytes) a b (inr p) (inl q) = absurd (no_map_nil p.0 bytes p.1 q.0)
option_one (Some bytes) a b (inr p) (inr q) =
    asks_one q.0 a b (subst (λ (ps : List Pair). AsksFor ps a) (map_one p.0 q.0 bytes p.1 q.1) p.3) q.3
