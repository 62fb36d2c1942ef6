-- From what a relay's parts are made of to what runs.
use Rattle.std.proofs.Common.{ℕ, ◌≡◌, ◌∙◌, ◌<◌, ◌≤◌, ◌+◌, List, [], ◌∷◌, length, drop, get_or, ap, subst, sym, refl, Option, None, Some}
use Rattle.std.specs.Option.{option_or}
use Rattle.std.proofs.Math.ListN.{drop_of_length-le}
use Rattle.std.proofs.lemmas.List.{drop_more}
use Rattle.std.proofs.lemmas.List.Elements.{All-cons, All-head, All-map, All-nil, All-same, All-tail}
use Rattle.std.specs.Prelude.{map}
use Rattle.std.specs.List.{All}
use Rattle.std.specs.contracts.alloc.Global as heap
use Rattle.relay_conf.specs.declared.relay.Relay.{Relay}
use Rattle.loop_core.specs.declared.fault.LoopFault.{LoopFault}
use Rattle.mio_relay.specs.Connections.{ArePortsOf, Served}
use Rattle.mio_relay.specs.Loops.{BoundState}
use Rattle.loop_core.specs.Buffers.{AreBuffersOf, ArePlaced}
use Rattle.loop_core.specs.Folders.{path_for}
use Rattle.loop_core.specs.Owners.{Owned}
use Rattle.relay_ports.specs.declared.buffered.BufferedOutput.{BufferedOutput}
use Rattle.relay_ports.specs.Outputs.{settings_of, outputs_in}
use Rattle.relay_ports.specs.Setups.{setup_of}
use Rattle.relay_run.specs.Loops.{Continues, IsCarried, IsOpened, Placed, placed_as, placed_in}
use Rattle.relay_run.specs.Running.{PoolEnded, PoolState, RelayState, Runs, fault_of, first_fault}

map_map : {X Y Z : Type 0} (f : X → Y) (g : Y → Z) (xs : List X) → map g (map f xs) ≡ map (λ (x : X). g (f x)) xs
map_map f g [] = refl
map_map f g (x ∷ xs) = ap (λ r. g (f x) ∷ r) (map_map f g xs)

unmap : {X Y : Type 0} (P : Y → Type 0) (f : X → Y) (xs : List X) → All P (map f xs) → All (λ (x : X). P (f x)) xs
unmap {X} P f [] h = All-nil (λ (x : X). P (f x))
unmap {X} P f (x ∷ xs) h = All-cons (λ (x : X). P (f x)) x xs (All-head P (f x) (map f xs) h) (unmap P f xs (All-tail P (f x) (map f xs) h))

-- what is asked of pools is what is asked of the jobs that they are made of
asked : {X : Type 0} (h : Placed → X) (pools : List PoolState) (jobs : List (Owned heap.the_row.Denot)) → map placed_in pools ≡ map placed_as jobs
    → map (λ (p : PoolState). h (placed_in p)) pools ≡ map (λ (j : Owned heap.the_row.Denot). h (placed_as j)) jobs
asked h pools jobs made = sym (map_map placed_in h pools) ∙ ap (map h) made ∙ map_map placed_as h jobs

-- a relay that listens goes on to run, with a pool for each of the jobs that it was opened with
pub goes_on : (folder : List ℕ) (bound : BoundState heap.the_row.Denot) (relay : RelayState) (jobs : List (Owned heap.the_row.Denot))
    → (relay.sources ≡ bound.sources) × (relay.bound ≡ bound.bound) → ArePortsOf bound.sources relay.ports
    → AreBuffersOf bound.number bound.outputs relay.buffers
    → (map (λ job. job.output) jobs ≡ bound.outputs) × (map (λ job. job.terms) jobs ≡ relay.buffers)
    → ArePlaced (path_for folder) jobs → map placed_in relay.pools ≡ map placed_as jobs → All (IsCarried folder) relay.pools → Continues folder bound relay
goes_on folder bound relay jobs same ports buffers own placed made carried =
    let Q : Placed → Type 0 = λ p. p.2 ≡ path_for folder (settings_of p.0).kind in
    let at = unmap Q placed_in relay.pools (All-same Q (map placed_in relay.pools) (map placed_as jobs) made (All-map Q placed_as jobs placed)) in
    record {
      sources = same.0;
      listens = same.1;
      ports = ports;
      buffers = buffers;
      outputs = asked (λ p. p.0) relay.pools jobs made ∙ own.0;
      shared = asked (λ p. p.1) relay.pools jobs made ∙ own.1;
      pools = λ k d lt. (at k d lt, carried k d lt);
    }

-- what listens as a relay's setup says, and goes on so, runs as the relay says
pub runs_as : {folder : List ℕ} {number : ℕ} {relay : Relay heap.the_row.Denot} {state : RelayState} → IsOpened folder (setup_of number relay) state → Runs folder number relay state
runs_as {folder} {number} {relay} {state} opened =
    let on = opened.continues in
    let is = opened.is in
    record {
      sources = on.sources ∙ is.sources;
      listens = on.listens ∙ (is.listens ∙ ap (map (λ (s : Served). s.endpoint)) (sym on.sources));
      ports = subst (λ (s : List Served). ArePortsOf s state.ports) (sym on.sources) on.ports;
      buffers = subst (λ (n : ℕ). AreBuffersOf n (outputs_in relay.scopes.items) state.buffers) is.number
          (subst (λ (os : List (BufferedOutput heap.the_row.Denot)). AreBuffersOf opened.bound.number os state.buffers) is.outputs on.buffers);
      outputs = on.outputs ∙ is.outputs;
      shared = on.shared;
      pools = on.pools;
    }

-- a fault counts before that of the next pool
counts : (first : Option LoopFault) (end : PoolEnded) (more : List PoolEnded) → first_fault (option_or first (fault_of end.done)) more ≡ first_fault first (end ∷ more)
counts (Some fault) end more = refl
counts None end more = refl

-- the first fault of a pool more
pub fault_more : (first next fault : Option LoopFault) (end : PoolEnded) (pools : List PoolEnded) (i : ℕ) (start : Option LoopFault) → next ≡ option_or first fault
    → fault ≡ fault_of end.done → i < length pools → end ≡ get_or pools i end → first_fault first (drop i pools) ≡ first_fault start pools
    → first_fault next (drop (i + 1) pools) ≡ first_fault start pools
fault_more first next fault end pools i start n f lt at whole =
    ap (λ (x : Option LoopFault). first_fault x (drop (i + 1) pools)) (n ∙ ap (option_or first) f) ∙ counts first end (drop (i + 1) pools)
    ∙ ap (λ (x : PoolEnded). first_fault first (x ∷ drop (i + 1) pools)) at ∙ ap (first_fault first) (sym (drop_more pools i end lt)) ∙ whole

-- behind the last pool
ends : (first : Option LoopFault) → first ≡ first_fault first []
ends (Some fault) = refl
ends None = refl

-- it is the first fault of all
pub no_more : (first : Option LoopFault) (pools : List PoolEnded) (i : ℕ) (start : Option LoopFault) → length pools ≤ i → first_fault first (drop i pools) ≡ first_fault start pools
    → first ≡ first_fault start pools
no_more first pools i start past whole = ends first ∙ ap (first_fault first) (sym (drop_of_length-le pools past)) ∙ whole
