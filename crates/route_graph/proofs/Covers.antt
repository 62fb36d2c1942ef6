-- What is found so far, with the walk of the hops to come, is the walk from the start, as far as
-- first places go.
use Rattle.std.proofs.Common.{◌≡◌, ℕ, List, [], ◌∷◌, ◌++◌, map, refl, sym, ap, subst, ◌∙◌, Contains, append_assoc}
use Rattle.std.proofs.lemmas.List.{append-nil}
use Rattle.relay_conf.specs.declared.relay.ScopeNo.{ScopeNo}
use Rattle.route_graph.specs.Table.{Table}
use Rattle.route_graph.specs.Walks.{AreHopsFrom, IsWalk, ended, stored, relabelled, IsWalkFrom, firsts}
use Rattle.route_graph.specs.declared.hop.Hop.{Hop}
use Rattle.route_graph.specs.declared.hop.Hop.TheVariants.{Buffer, Scope}
use Rattle.route_graph.specs.declared.visit.Step.{Step}
use Rattle.route_graph.specs.declared.visit.Step.TheVariants.{Take, Leave}
use Rattle.route_graph.proofs.Firsts.{firsts-contained, contained-firsts}
use Rattle.route_graph.proofs.Takers.{hops-unique}

-- ---- walks of two lists of hops

pub walk-append : {table : Table} {tag : List ℕ} {hops others : List Hop} {reached more : List ℕ} → IsWalk table tag hops reached → IsWalk table tag others more → IsWalk table tag (hops ++ others) (reached ++ more)
walk-append ended v = v
walk-append (stored w) v = stored (walk-append w v)
walk-append {table} {tag} {others = others} {more = more} (relabelled {target = target} {hops = hops} {there = there} {rest = rest} from w u) v =
    subst (λ (x : List ℕ). IsWalk table tag (Scope target ∷ (hops ++ others)) x) (sym (append_assoc there rest more)) (relabelled from w (walk-append u v))

-- a walk by its first hop
abbrev IsWalkOf : Table → List ℕ → List Hop → List ℕ → Type 0
IsWalkOf table tag [] reached = reached ≡ []
IsWalkOf table tag (Buffer buffer ∷ hops) reached = (rest : List ℕ) × IsWalk table tag hops rest × (reached ≡ buffer.0 ∷ rest)
IsWalkOf table tag (Scope target ∷ hops) reached = (within : List Hop) × (there : List ℕ) × (rest : List ℕ) × AreHopsFrom table tag target.0 within × IsWalk table tag within there × IsWalk table tag hops rest × (reached ≡ there ++ rest)

walk-cases : {table : Table} {tag : List ℕ} {hops : List Hop} {reached : List ℕ} → IsWalk table tag hops reached → IsWalkOf table tag hops reached
walk-cases ended = refl
walk-cases (stored {rest = rest} w) = (rest, w, refl)
walk-cases (relabelled {within = within} {there = there} {rest = rest} from w v) = (within, there, rest, from, w, v, refl)

pub walk-split : (table : Table) (tag : List ℕ) (hops others : List Hop) (all : List ℕ) → IsWalk table tag (hops ++ others) all → (reached : List ℕ) × (more : List ℕ) × IsWalk table tag hops reached × IsWalk table tag others more × (all ≡ reached ++ more)
walk-split table tag [] others all w = ([], all, ended, w, refl)
walk-split table tag (Buffer buffer ∷ hops) others all w =
    let first = walk-cases w in
    let less = walk-split table tag hops others first.0 first.1 in
    (buffer.0 ∷ less.0, less.1, stored less.2, less.3, first.2 ∙ ap (λ (x : List ℕ). buffer.0 ∷ x) less.4)
walk-split table tag (Scope target ∷ hops) others all w =
    let first = walk-cases w in
    let less = walk-split table tag hops others first.2 first.5 in
    (first.1 ++ less.0, less.1, relabelled first.3 first.4 less.2, less.3, first.6 ∙ ap (λ (x : List ℕ). first.1 ++ x) less.4 ∙ sym (append_assoc first.1 less.0 less.1))

-- these hops have one walk at most
pub walk-unique : {table : Table} {tag : List ℕ} {hops : List Hop} {reached : List ℕ} → IsWalk table tag hops reached → (other : List ℕ) → IsWalk table tag hops other → reached ≡ other
walk-unique ended other v = sym (walk-cases v)
walk-unique (stored {buffer = buffer} w) other v =
    let first = walk-cases v in
    ap (λ (x : List ℕ). buffer.0 ∷ x) (walk-unique w first.0 first.1) ∙ sym first.2
walk-unique {table} {tag} (relabelled {target = target} {within = within} {hops = hops} {there = there} {rest = rest} from w u) other v =
    let first = walk-cases v in
    let same : first.0 ≡ within = hops-unique table tag target.0 first.0 within first.3 from in
    let inner = walk-unique w first.1 (subst (λ (x : List Hop). IsWalk table tag x first.1) same first.4) in
    let outer = walk-unique u first.2 first.5 in
    ap (λ (x : List ℕ). x ++ rest) inner ∙ ap (λ (x : List ℕ). first.1 ++ x) outer ∙ sym first.6

pub walk-from_unique : (table : Table) (tag : List ℕ) (scope : ℕ) (walk other : List ℕ) → IsWalkFrom table tag scope walk → IsWalkFrom table tag scope other → walk ≡ other
walk-from_unique table tag scope walk other (hops, from, w) (others, came, v) =
    let same : others ≡ hops = hops-unique table tag scope others hops came from in
    walk-unique w other (subst (λ (x : List Hop). IsWalk table tag x other) same v)

-- the walk of a scope alone
pub walk-scope : (table : Table) (tag : List ℕ) (scope : ScopeNo) (reached : List ℕ) → IsWalk table tag (Scope scope ∷ []) reached → IsWalkFrom table tag scope.0 reached
walk-scope table tag scope reached w =
    let first = walk-cases w in
    let none : first.2 ≡ [] = walk-cases first.5 in
    let same : first.1 ≡ reached = sym (append-nil first.1) ∙ ap (λ (x : List ℕ). first.1 ++ x) (sym none) ∙ sym first.6 in
    (first.0, first.3, subst (λ (x : List ℕ). IsWalk table tag first.0 x) same first.4)

-- ---- what is covered

-- The scope has a walk, all of which is found.
abbrev pub IsCovered : Table → List ℕ → List ℕ → ℕ → Type 0
IsCovered table tag found scope = (walk : List ℕ) × IsWalkFrom table tag scope walk × ((number : ℕ) → Contains walk number → Contains found number)

-- If the hops above it have a walk, each scope to be left has one, which is found by then; and so
-- has the start, in the same order.
abbrev pub Covers : Table → List ℕ → ℕ → List ℕ → List Hop → List Step → Type 0
Covers table tag start found hops [] = (rest : List ℕ) → IsWalk table tag hops rest → (walk : List ℕ) × IsWalkFrom table tag start walk × (firsts walk ≡ firsts (found ++ rest))
Covers table tag start found hops (Take hop ∷ steps) = Covers table tag start found (hops ++ hop ∷ []) steps
Covers table tag start found hops (Leave scope ∷ steps) = ((rest : List ℕ) → IsWalk table tag hops rest → IsCovered table tag (found ++ rest) scope.0) × Covers table tag start found hops steps

-- a walk of these hops with what is found comes to the same as one of those others with what was
-- found
abbrev pub Replaces : Table → List ℕ → List ℕ → List Hop → List ℕ → List Hop → Type 0
Replaces table tag found hops before others = (more : List Hop) (rest : List ℕ) → IsWalk table tag (hops ++ more) rest → (old : List ℕ) × IsWalk table tag (others ++ more) old × (firsts (before ++ old) ≡ firsts (found ++ rest))

at-end : (table : Table) (tag : List ℕ) (found : List ℕ) (hops : List Hop) (before : List ℕ) (others : List Hop) → Replaces table tag found hops before others → (rest : List ℕ) → IsWalk table tag hops rest → (old : List ℕ) × IsWalk table tag others old × (firsts (before ++ old) ≡ firsts (found ++ rest))
at-end table tag found hops before others turn rest w =
    let r = turn [] rest (subst (λ (x : List Hop). IsWalk table tag x rest) (sym (append-nil hops)) w) in
    (r.0, subst (λ (x : List Hop). IsWalk table tag x r.0) (append-nil others) r.1, r.2)

further-on : (table : Table) (tag : List ℕ) (found : List ℕ) (hops : List Hop) (before : List ℕ) (others : List Hop) → Replaces table tag found hops before others → (hop : Hop) → Replaces table tag found (hops ++ hop ∷ []) before (others ++ hop ∷ [])
further-on table tag found hops before others turn hop more rest w =
    let r = turn (hop ∷ more) rest (subst (λ (x : List Hop). IsWalk table tag x rest) (append_assoc hops (hop ∷ []) more) w) in
    (r.0, subst (λ (x : List Hop). IsWalk table tag x r.0) (sym (append_assoc others (hop ∷ []) more)) r.1, r.2)

pub covers-replaced : (table : Table) (tag : List ℕ) (start : ℕ) (found : List ℕ) (hops : List Hop) (before : List ℕ) (others : List Hop) (steps : List Step) → Replaces table tag found hops before others → Covers table tag start before others steps → Covers table tag start found hops steps
covers-replaced table tag start found hops before others [] turn c = λ rest w.
    let r = at-end table tag found hops before others turn rest w in
    let k = c r.0 r.1 in
    (k.0, k.1, k.2 ∙ r.2)
covers-replaced table tag start found hops before others (Take hop ∷ steps) turn c =
    covers-replaced table tag start found (hops ++ hop ∷ []) before (others ++ hop ∷ []) steps (further-on table tag found hops before others turn hop) c
covers-replaced table tag start found hops before others (Leave scope ∷ steps) turn c = (
  λ rest w. (
      let r = at-end table tag found hops before others turn rest w in
      let k = c.0 r.0 r.1 in
      (k.0, k.1, λ number m. firsts-contained (found ++ rest) number (subst (λ (x : List ℕ). Contains x number) r.2 (contained-firsts (before ++ r.0) number (k.2 number m))))),
  covers-replaced table tag start found hops before others steps turn c.1,
)

-- the hops that are steps to come stand behind those that are counted already
pub covers-taken : (table : Table) (tag : List ℕ) (start : ℕ) (found : List ℕ) (hops more : List Hop) (steps : List Step) → Covers table tag start found (hops ++ more) steps → Covers table tag start found hops (map Take more ++ steps)
covers-taken table tag start found hops [] steps c = subst (λ (x : List Hop). Covers table tag start found x steps) (append-nil hops) c
covers-taken table tag start found hops (hop ∷ more) steps c =
    covers-taken table tag start found (hops ++ hop ∷ []) more steps (subst (λ (x : List Hop). Covers table tag start found x steps) (sym (append_assoc hops (hop ∷ []) more)) c)
