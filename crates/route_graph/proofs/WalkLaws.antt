-- What a walk says of the leaves and of loops.
use Rattle.std.proofs.Common.{◌≡◌, ℕ, List, refl, sym, subst, inl, inr, arith, Contains, ◌↔◌}
use Rattle.std.proofs.lemmas.List.Elements.{Contains-append_left, Contains-append_right, Contains-append_cases}
use Rattle.relay_conf.specs.declared.relay.ScopeNo.{ScopeNo}
use Rattle.route_graph.specs.Chains.{Chain, here, onward}
use Rattle.route_graph.specs.Table.{Table}
use Rattle.route_graph.specs.Ways.{IsHandedTo, IsRelabelled, IsLeaf, own, further, IsLoop}
use Rattle.route_graph.specs.Walks.{AreHopsFrom, IsWalk, ended, stored, relabelled, IsWalkFrom}
use Rattle.route_graph.specs.declared.hop.Hop.{Hop}
use Rattle.route_graph.specs.declared.hop.Hop.TheVariants.{Buffer, Scope}
use Rattle.route_graph.proofs.Members.{cons-cases, cons-head, cons-tail, nil-none}
use Rattle.route_graph.proofs.Takers.{hops-handed, handed-hops}

-- the hop leads to this buffer
abbrev pub HopLeads : Table → List ℕ → Hop → ℕ → Type 0
HopLeads table tag (Buffer number) buffer = number.0 ≡ buffer
HopLeads table tag (Scope target) buffer = IsLeaf table tag target.0 buffer

hop-leaf : (table : Table) (tag : List ℕ) (scope : ℕ) (hops : List Hop) → AreHopsFrom table tag scope hops → (hop : Hop) → Contains hops hop → (buffer : ℕ) → HopLeads table tag hop buffer → IsLeaf table tag scope buffer
hop-leaf table tag scope hops from (Buffer number) c buffer e =
    own (subst (λ (x : ℕ). IsHandedTo table tag scope (Buffer (record { 0 = x }))) e (hops-handed table tag scope hops from (Buffer number) c))
hop-leaf table tag scope hops from (Scope target) c buffer h = further (hops-handed table tag scope hops from (Scope target) c) h

-- what a walk reaches, one of its hops leads to
pub walk-leaf : {table : Table} {tag : List ℕ} {hops : List Hop} {reached : List ℕ} → IsWalk table tag hops reached → (buffer : ℕ) → Contains reached buffer → (hop : Hop) × Contains hops hop × HopLeads table tag hop buffer
walk-leaf ended buffer c = absurd (nil-none buffer c)
walk-leaf (stored {buffer = number} {hops = hops} {rest = rest} w) buffer c =
    elim (cons-cases number.0 rest buffer c) [
      | inl e ↦ (Buffer number, cons-head (Buffer number) hops, e)
      | inr k ↦ let r = walk-leaf w buffer k in (r.0, cons-tail (Buffer number) hops r.0 r.1, r.2)
    ]
walk-leaf {table} {tag} (relabelled {target = target} {within = within} {hops = hops} {there = there} {rest = rest} from w v) buffer c =
    elim (Contains-append_cases there rest buffer c) [
      | inl k ↦ let r = walk-leaf w buffer k in (Scope target, cons-head (Scope target) hops, hop-leaf _ _ target.0 within from r.0 r.1 buffer r.2)
      | inr k ↦ let r = walk-leaf v buffer k in (r.0, cons-tail (Scope target) hops r.0 r.1, r.2)
    ]

scope-reached : {table : Table} {tag : List ℕ} (there : List ℕ) {scope : ℕ} (hops : List Hop) → AreHopsFrom table tag scope hops → ((hop : Hop) → Contains hops hop → (buffer : ℕ) → HopLeads table tag hop buffer → Contains there buffer) → (buffer : ℕ) → IsLeaf table tag scope buffer → Contains there buffer
scope-reached {table} {tag} there {scope} hops from reach buffer (own h) = reach (Buffer (record { 0 = buffer })) (handed-hops table tag scope hops from (Buffer (record { 0 = buffer })) h) buffer refl
scope-reached {table} {tag} there {scope} hops from reach buffer (further {target = target} r h) = reach (Scope (record { 0 = target })) (handed-hops table tag scope hops from (Scope (record { 0 = target })) r) buffer h

-- what one of its hops leads to, a walk reaches
pub leaf-walk : {table : Table} {tag : List ℕ} {hops : List Hop} {reached : List ℕ} → IsWalk table tag hops reached → (hop : Hop) → Contains hops hop → (buffer : ℕ) → HopLeads table tag hop buffer → Contains reached buffer
leaf-walk ended hop c buffer h = absurd (nil-none hop c)
leaf-walk {table} {tag} (stored {buffer = number} {hops = hops} {rest = rest} w) hop c buffer h =
    elim (cons-cases (Buffer number) hops hop c) [
      | inl e ↦ let same : number.0 ≡ buffer = subst (λ (x : Hop). HopLeads table tag x buffer) (sym e) h in (0, omega arith, same)
      | inr k ↦ cons-tail number.0 rest buffer (leaf-walk w hop k buffer h)
    ]
leaf-walk {table} {tag} (relabelled {target = target} {within = within} {hops = hops} {there = there} {rest = rest} from w v) hop c buffer h =
    elim (cons-cases (Scope target) hops hop c) [
      | inl e ↦ Contains-append_left there rest buffer (scope-reached there within from (leaf-walk w) buffer (subst (λ (x : Hop). HopLeads table tag x buffer) (sym e) h))
      | inr k ↦ Contains-append_right there rest buffer (leaf-walk v hop k buffer h)
    ]

-- a walk from a scope reaches its leaves, and nothing else
pub walk-leaves : (table : Table) (tag : List ℕ) (scope : ℕ) (walk : List ℕ) → IsWalkFrom table tag scope walk → (buffer : ℕ) → Contains walk buffer ↔ IsLeaf table tag scope buffer
walk-leaves table tag scope walk (hops, from, w) buffer =
    (λ c. (let r = walk-leaf w buffer c in hop-leaf table tag scope hops from r.0 r.1 buffer r.2), scope-reached walk hops from (leaf-walk w) buffer)

-- Every chain of relabels from the scope ends.
data Ends (table : Table) (tag : List ℕ) : ℕ → Type 0 where
  ends : {scope : ℕ} → ((target : ℕ) → IsRelabelled table tag scope target → Ends table tag target) → Ends table tag scope

walk-ends : {table : Table} {tag : List ℕ} {hops : List Hop} {reached : List ℕ} → IsWalk table tag hops reached → (target : ScopeNo) → Contains hops (Scope target) → Ends table tag target.0
walk-ends ended target c = absurd (nil-none (Scope target) c)
walk-ends (stored {buffer = number} {hops = hops} w) target c =
    elim (cons-cases (Buffer number) hops (Scope target) c) [
      | inl e ↦ absurd (cc)
      | inr k ↦ walk-ends w target k
    ]
walk-ends {table} {tag} (relabelled {target = first} {within = within} {hops = hops} from w v) target c =
    elim (cons-cases (Scope first) hops (Scope target) c) [
      | inl e ↦ let same : first ≡ target = cc in subst (λ (x : ScopeNo). Ends table tag x.0) same (ends (λ next r. walk-ends w (record { 0 = next }) (handed-hops table tag first.0 within from (Scope (record { 0 = next })) r)))
      | inr k ↦ walk-ends v target k
    ]

ends-further : {table : Table} {tag : List ℕ} {scope last : ℕ} → Ends table tag scope → Chain (IsRelabelled table tag) scope last → Ends table tag last
ends-further e here = e
ends-further (ends less) (onward r l) = ends-further (less _ r) l

pub leads-on : {A : Type 0} {IsFollowed : A → A → Type 0} {start middle last : A} → Chain IsFollowed start middle → Chain IsFollowed middle last → Chain IsFollowed start last
leads-on here k = k
leads-on (onward r l) k = onward r (leads-on l k)

-- a chain from one to itself goes on from the next to that one itself
turned : {A : Type 0} {IsFollowed : A → A → Type 0} {start next : A} → IsFollowed start next → Chain IsFollowed next start → (after : A) × IsFollowed next after × Chain IsFollowed after next
turned {start = start} r here = (start, r, here)
turned r (onward {next = after} s l) = (after, s, leads-on l (onward r here))

no_return : {table : Table} {tag : List ℕ} {scope : ℕ} → Ends table tag scope → (next : ℕ) → IsRelabelled table tag scope next → Chain (IsRelabelled table tag) next scope → ⊥
no_return {table} {tag} (ends less) next r back = let t = turned {IsFollowed = IsRelabelled table tag} r back in no_return (less next r) t.0 t.1 t.2

-- where there is a walk, there is no loop
pub walk-no_loop : (table : Table) (tag : List ℕ) (scope : ℕ) (walk : List ℕ) → IsWalkFrom table tag scope walk → IsLoop table tag scope → ⊥
walk-no_loop table tag scope walk (hops, from, w) loop =
    let e : Ends table tag scope = ends (λ next r. walk-ends w (record { 0 = next }) (handed-hops table tag scope hops from (Scope (record { 0 = next })) r)) in
    no_return (ends-further e loop.reached) loop.next loop.left loop.back
