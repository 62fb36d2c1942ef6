-- How much of a graph is still to be gone through.
use Rattle.std.proofs.Common.{◌≡◌, ℕ, zero, suc, ◌+◌, ◌<◌, Bool, true, false, List, [], ◌∷◌, ◌++◌, length, map, slice_set, arith}
use Rattle.std.proofs.lemmas.List.{length-append, length-map}
use Rattle.loss_rules.specs.Graphs.{relabels_at}
use Rattle.loss_rules.specs.Visits.{mark_at}
use Rattle.loss_rules.specs.declared.relabel.Relabel.{Relabel}

-- the scopes that aren't marked, and their relabels
abbrev pub weight : List Bool → List (List Relabel) → ℕ
weight [] graph = 0
weight (mark ∷ marks) [] = 0
weight (true ∷ marks) (relabels ∷ graph) = weight marks graph
weight (false ∷ marks) (relabels ∷ graph) = length relabels + 1 + weight marks graph

weight-marked : (marks : List Bool) (graph : List (List Relabel)) (scope : ℕ) → length marks ≡ length graph → mark_at marks scope ≡ false → weight (slice_set marks scope true) graph + (length (relabels_at graph scope) + 1) ≡ weight marks graph
weight-marked [] graph scope sized e = absurd (cc)
weight-marked (mark ∷ marks) [] scope sized e = absurd (omega arith)
weight-marked (true ∷ marks) (relabels ∷ graph) zero sized e = absurd (cc)
weight-marked (false ∷ marks) (relabels ∷ graph) zero sized e = omega arith
weight-marked (true ∷ marks) (relabels ∷ graph) (suc scope) sized e = weight-marked marks graph scope (omega arith) e
weight-marked (false ∷ marks) (relabels ∷ graph) (suc scope) sized e = let less = weight-marked marks graph scope (omega arith) e in omega arith

-- a scope that is marked weighs more than the targets that it brings
pub entered-smaller : (marks : List Bool) (graph : List (List Relabel)) (rest : List ℕ) (scope : ℕ) → length marks ≡ length graph → mark_at marks scope ≡ false → length (rest ++ map (λ relabel. relabel.target) (relabels_at graph scope)) + weight (slice_set marks scope true) graph < length (rest ++ scope ∷ []) + weight marks graph
entered-smaller marks graph rest scope sized e =
    let less = weight-marked marks graph scope sized e in
    simp (length-append, length-map) (omega arith)

-- one that is marked already weighs no more
pub passed-smaller : (marks : List Bool) (graph : List (List Relabel)) (rest : List ℕ) (scope : ℕ) → length rest + weight marks graph < length (rest ++ scope ∷ []) + weight marks graph
passed-smaller marks graph rest scope = simp (length-append) (omega arith)

-- the same of the search as it was
pub passed-less : (graph : List (List Relabel)) (marks old : List Bool) (rest before : List ℕ) (scope : ℕ) → marks ≡ old → before ≡ rest ++ scope ∷ [] → length rest + weight marks graph < length before + weight old graph
passed-less graph marks old rest before scope m b = let less = passed-smaller marks graph rest scope in rw (← m, b) less
