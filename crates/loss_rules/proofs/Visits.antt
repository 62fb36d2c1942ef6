-- What holds while it is looked for what a scope leads to.
use Rattle.std.proofs.Common.{◌≡◌, ◌≢◌, ◌∙◌, ℕ, ◌+◌, ◌<◌, Bool, true, false, List, [], ◌∷◌, ◌++◌, length, map, take, get_or, replicate, slice_set, sym, ap, subst, ◌⊎◌, inl, inr, arith, Contains, ◌↔◌}
use Rattle.std.proofs.lemmas.Bool.{cases_eq, cases_lt}
use Rattle.std.proofs.lemmas.List.{append_assoc, map_more, length-set, length-replicate, get_or-replicate, get_or_past, get_or-set_other, get_or-set_same}
use Rattle.std.proofs.lemmas.List.Elements.{Contains-append_left, Contains-append_right, Contains-append_cases, Contains-push_cases}
use Rattle.loss_rules.specs.Graphs.{relabels_at, HasRelabel, Leads}
use Rattle.loss_rules.specs.Visits.{mark_at}
use Rattle.loss_rules.specs.declared.relabel.Relabel.{Relabel}
use Rattle.loss_rules.proofs.Chains.{leads-within}
use Rattle.route_graph.specs.Chains.{Chain, here, onward}
use Rattle.route_graph.proofs.Members.{cons-cases, cons-head, nil-none}
use Rattle.route_graph.proofs.WalkLaws.{leads-on}
use Rattle.loss_rules.proofs.Members.{contains-map, map-contains}

-- What is marked and what is to come fits the graph: all of it is led to, and what is marked leads
-- no further.
pub record IsVisit (graph : List (List Relabel)) (start : ℕ) (marks : List Bool) (ahead : List ℕ) : Type 0 where
  pub sized : length marks ≡ length graph
  pub marked : (scope : ℕ) → scope < length graph → mark_at marks scope ≡ true → Chain (Leads graph) start scope
  pub coming : (scope : ℕ) → Contains ahead scope → Chain (Leads graph) start scope
  pub closed : (scope target : ℕ) → mark_at marks scope ≡ true → Leads graph scope target → (mark_at marks target ≡ true) ⊎ Contains ahead target
  pub begun : (mark_at marks start ≡ true) ⊎ Contains ahead start

-- The target of one relabel more is to come.
pub followed : (old ahead new : List ℕ) (relabels : List Relabel) (i : ℕ) (d : Relabel) → i < length relabels → ahead ≡ old ++ map (λ relabel. relabel.target) (take i relabels) → new ≡ ahead ++ (get_or relabels i d).target ∷ []
    → new ≡ old ++ map (λ relabel. relabel.target) (take (i + 1) relabels)
followed old ahead new relabels i d less before put =
    let target : Relabel → ℕ = λ relabel. relabel.target in
    put
    ∙ ap (λ (l : List ℕ). l ++ (get_or relabels i d).target ∷ []) before
    ∙ append_assoc old (map target (take i relabels)) ((get_or relabels i d).target ∷ [])
    ∙ ap (λ (l : List ℕ). old ++ l) (sym (map_more target relabels i d less))

-- ---- marks

unmarked-within : (marks : List Bool) (scope : ℕ) → mark_at marks scope ≡ false → scope < length marks
unmarked-within marks scope e = elim (cases_lt scope (length marks)) [
  | inl less ↦ less
  | inr past ↦ absurd (let f = get_or_past marks scope true past in let g : true ≡ false = sym f ∙ e in cc)
]

marked-itself : (marks : List Bool) (scope : ℕ) → mark_at (slice_set marks scope true) scope ≡ true
marked-itself marks scope = elim (cases_lt scope (length marks)) [
  | inl less ↦ get_or-set_same marks scope true true less
  | inr past ↦ get_or_past (slice_set marks scope true) scope true (omega (arith, length-set marks scope true))
]

marked-other : (marks : List Bool) (scope other : ℕ) → other ≢ scope → mark_at (slice_set marks scope true) other ≡ mark_at marks other
marked-other marks scope other apart = get_or-set_other marks scope other true true apart

marked-more : (marks : List Bool) (scope other : ℕ) → mark_at marks other ≡ true → mark_at (slice_set marks scope true) other ≡ true
marked-more marks scope other e = elim (cases_eq other scope) [
  | inl same ↦ subst (λ (x : ℕ). mark_at (slice_set marks scope true) x ≡ true) (sym same) (marked-itself marks scope)
  | inr apart ↦ marked-other marks scope other apart ∙ e
]

none-marked : (count scope : ℕ) → scope < count → mark_at (replicate count false) scope ≡ true → ⊥
none-marked count scope less e = let f = get_or-replicate count scope false true less in let g : true ≡ false = sym e ∙ f in cc

-- ---- the steps

-- a visit begins
pub visit-begun : (graph : List (List Relabel)) (start : ℕ) → IsVisit graph start (replicate (length graph) false) (start ∷ [])
visit-begun graph start = record {
  sized = length-replicate (length graph) false;
  marked = λ scope less e. absurd (none-marked (length graph) scope less e);
  coming = λ scope c. elim (cons-cases start [] scope c) [
    | inl same ↦ subst (λ (x : ℕ). Chain (Leads graph) start x) same here
    | inr k ↦ absurd (nil-none scope k)
  ];
  closed = λ scope target e h. absurd (none-marked (length graph) scope (leads-within graph scope target h.0 h.1) e);
  begun = inr (cons-head start []);
}

-- a scope that is marked comes again
pub visit-passed : (graph : List (List Relabel)) (start : ℕ) (marks : List Bool) (rest : List ℕ) (scope : ℕ) → mark_at marks scope ≡ true → IsVisit graph start marks (rest ++ scope ∷ []) → IsVisit graph start marks rest
visit-passed graph start marks rest scope e visit =
    let less : (other : ℕ) → (mark_at marks other ≡ true) ⊎ Contains (rest ++ scope ∷ []) other → (mark_at marks other ≡ true) ⊎ Contains rest other = λ other h. elim h [
      | inl m ↦ inl m
      | inr c ↦ elim (Contains-push_cases rest scope other c) [
        | inl k ↦ inr k
        | inr same ↦ inl (subst (λ (x : ℕ). mark_at marks x ≡ true) same e)
      ]
    ] in
    record {
      sized = visit.sized;
      marked = visit.marked;
      coming = λ other c. visit.coming other (Contains-append_left rest (scope ∷ []) other c);
      closed = λ from target m h. less target (visit.closed from target m h);
      begun = less start visit.begun;
    }

-- a new scope is marked, and the targets of its relabels come
pub visit-entered : (graph : List (List Relabel)) (start : ℕ) (marks : List Bool) (rest : List ℕ) (scope : ℕ) → mark_at marks scope ≡ false → IsVisit graph start marks (rest ++ scope ∷ []) → IsVisit graph start (slice_set marks scope true) (rest ++ map (λ relabel. relabel.target) (relabels_at graph scope))
visit-entered graph start marks rest scope e visit =
    let targets = map (λ (relabel : Relabel). relabel.target) (relabels_at graph scope) in
    let less : (other : ℕ) → (mark_at marks other ≡ true) ⊎ Contains (rest ++ scope ∷ []) other → (mark_at (slice_set marks scope true) other ≡ true) ⊎ Contains (rest ++ targets) other = λ other h. elim h [
      | inl m ↦ inl (marked-more marks scope other m)
      | inr c ↦ elim (Contains-push_cases rest scope other c) [
        | inl k ↦ inr (Contains-append_left rest targets other k)
        | inr same ↦ inl (subst (λ (x : ℕ). mark_at (slice_set marks scope true) x ≡ true) same (marked-itself marks scope))
      ]
    ] in
    let there : Chain (Leads graph) start scope = visit.coming scope (Contains-append_right rest (scope ∷ []) scope (cons-head scope [])) in
    record {
      sized = length-set marks scope true ∙ visit.sized;
      marked = λ other within m. elim (cases_eq other scope) [
        | inl same ↦ subst (λ (x : ℕ). Chain (Leads graph) start x) (sym same) there
        | inr apart ↦ visit.marked other within (sym (marked-other marks scope other apart) ∙ m)
      ];
      coming = λ other c. elim (Contains-append_cases rest targets other c) [
        | inl k ↦ visit.coming other (Contains-append_left rest (scope ∷ []) other k)
        | inr k ↦ (
            let r = map-contains (λ (relabel : Relabel). relabel.target) (relabels_at graph scope) other k in
            subst (λ (x : ℕ). Chain (Leads graph) start x) r.2 (leads-on there (onward (r.0.line, r.1) here)))
      ];
      closed = λ from target m h. elim (cases_eq from scope) [
        | inl same ↦ inr (Contains-append_right rest targets target (contains-map (λ (relabel : Relabel). relabel.target) (relabels_at graph scope) (record { target = target; line = h.0 }) (subst (λ (x : ℕ). HasRelabel graph x target h.0) same h.1)))
        | inr apart ↦ less target (visit.closed from target (sym (marked-other marks scope from apart) ∙ m) h)
      ];
      begun = less start visit.begun;
    }

onward-marked : (graph : List (List Relabel)) (marks : List Bool) → ((scope target : ℕ) → mark_at marks scope ≡ true → Leads graph scope target → mark_at marks target ≡ true) → {scope last : ℕ} → Chain (Leads graph) scope last → mark_at marks scope ≡ true → mark_at marks last ≡ true
onward-marked graph marks closed here e = e
onward-marked graph marks closed (onward {start = scope} {next = target} h k) e = onward-marked graph marks closed k (closed scope target e h)

-- nothing is to come
pub visit-ended : (graph : List (List Relabel)) (start : ℕ) (marks : List Bool) (ahead : List ℕ) (last : ℕ) → IsVisit graph start marks ahead → ahead ≡ [] → last < length graph → (mark_at marks last ≡ true) ↔ Chain (Leads graph) start last
visit-ended graph start marks ahead last visit none less =
    let only : (scope : ℕ) → (mark_at marks scope ≡ true) ⊎ Contains ahead scope → mark_at marks scope ≡ true = λ scope h. elim h [
      | inl e ↦ e
      | inr c ↦ absurd (nil-none scope (subst (λ (x : List ℕ). Contains x scope) none c))
    ] in
    (λ e. visit.marked last less e, λ k. onward-marked graph marks (λ scope target e h. only target (visit.closed scope target e h)) k (only start visit.begun))

-- what is known, by its parts
pub visit-parts : (graph : List (List Relabel)) (start : ℕ) (marks others : List Bool) (ahead coming : List ℕ) → others ≡ marks → coming ≡ ahead → IsVisit graph start marks ahead → IsVisit graph start others coming
visit-parts graph start marks others ahead coming e f visit =
    subst (λ (x : List Bool). IsVisit graph start x coming) (sym e) (subst (λ (x : List ℕ). IsVisit graph start marks x) (sym f) visit)
