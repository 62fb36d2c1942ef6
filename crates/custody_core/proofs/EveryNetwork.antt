-- After every list of steps nothing is lost in a network whose messages all lead to outputs that
-- keep.
use Rattle.std.proofs.Common.{◌≡◌, ℕ, suc, ◌+◌, ◌≤◌, true, List, [], ◌∷◌, length, Some, get_or, slice_get, refl, sym, subst, ◌∙◌, arith}
use Rattle.std.proofs.lemmas.Option.{same_Some}
use Rattle.std.proofs.lemmas.List.Elements.{All-contains_itself}
use Rattle.relay_net.specs.Network.{Network, address_of_client, place_of}
use Rattle.custody_steps.specs.Held.{HeldAs}
use Rattle.custody_steps.specs.World.{World, initial_world}
use Rattle.custody_steps.specs.Rules.{Allowed, effect}
use Rattle.custody_steps.specs.Steps.{Steps}
use Rattle.step_lines.specs.declared.step.ChunkName.{ChunkName}
use Rattle.step_lines.specs.declared.step.Step.{Step}
use Rattle.step_lines.specs.declared.step.Step.TheVariants as step
use Rattle.custody_store.proofs.Lists.{some_and}
use Rattle.custody_core.specs.Custody.{NothingIsLost}
use Rattle.custody_core.proofs.Serials.{and_some}
use Rattle.custody_core.proofs.Safe.{Ranking, KeepsAt, safe_held}
use Rattle.custody_core.proofs.Ranked.{Labelling, LeadOn, IsRanked}
use Rattle.custody_core.proofs.Going.{time_goes}
use Rattle.custody_core.proofs.QueueMoves.{IsDue}
use Rattle.custody_core.proofs.Timing.{queues, enqueues_it, queues_so, rank_in, rank_least, rank_queues}
use Rattle.custody_core.proofs.Sendings.{sent, begun, appended, acknowledged, abandoned, never_foreign}
use Rattle.custody_core.proofs.NamedMoves.{enqueued, claimed, given_back, seen, parted, purged, done, discarded}
use Rattle.custody_core.proofs.Deliverings.{forwarded, written, oldest_gone, restarted}

-- The ranks of chunks of buffers that keep are the times at which steps queue them first, as far as
-- this step tells, which is taken at this time.
pub record IsTimed {A : Type 0} (net : Network A) (ranks : Ranking) (clock : ℕ) (next : Step A) : Type 0 where
  pub now : (place buffer serial : ℕ) → KeepsAt net place buffer → ranks place buffer serial ≡ clock → queues net next place buffer serial ≡ true
  pub by_now : (place buffer serial : ℕ) → KeepsAt net place buffer → queues net next place buffer serial ≡ true → ranks place buffer serial ≤ clock

-- so it is with each of these steps, the first of which is taken at this time
abbrev pub AreTimed : {A : Type 0} → Network A → Ranking → ℕ → List (Step A) → Type 0
AreTimed {A} net ranks clock steps = (k at : ℕ) (next : Step A) → slice_get steps k ≡ Some next → at ≡ clock + k → IsTimed net ranks at next

-- the ranks of a list's own steps are so
pub are_timed : {A : Type 0} (net : Network A) (steps : List (Step A)) → AreTimed net (rank_in net steps) 0 steps
are_timed net steps k at next there is = record {
  now = λ place buffer serial keeps e. rank_queues net place buffer serial steps k next there (omega (arith, e, is));
  by_now = λ place buffer serial keeps q. (let le = rank_least net place buffer serial steps k next there q in omega (arith, le, is));
}

module _ {A : Type 0} (net : Network A) (ranks : Ranking) where
  -- a step that queues this chunk alone
  pub is_due : (clock : ℕ) (name : ChunkName) → IsTimed net ranks clock (step.Enqueue name) → (place : ℕ) → place_of net name.relay ≡ Some place → IsDue net ranks clock place name.buffer name.serial
  is_due clock name timed place is_place = record {
    alone = λ p b s keeps e. (let it = enqueues_it net name p b s (timed.now p b s keeps e) in (same_Some p place (sym it.0 ∙ is_place), sym it.1, sym it.2));
    by_now = λ keeps. timed.by_now place name.buffer name.serial keeps (queues_so net name place name.buffer name.serial is_place refl refl);
  }

module _ {A : Type 0} (net : Network A) (labelled : Labelling) (leads : LeadOn net labelled) (ranks : Ranking) where
  -- a step that queues no chunk
  idle : (clock : ℕ) (next : Step A) (after : World) → IsTimed net ranks clock next → ((place buffer serial : ℕ) → queues net next place buffer serial ≡ true → ⊥) → IsRanked net labelled ranks clock after → IsRanked net labelled ranks (clock + 1) after
  idle clock next after timed none ranked = time_goes net labelled ranks clock after ranked (λ place buffer serial keeps e. none place buffer serial (timed.now place buffer serial keeps e))

  pub step_keeps : (clock : ℕ) (w : World) (next : Step A) → IsTimed net ranks clock next → IsRanked net labelled ranks clock w → Allowed net w next → IsRanked net labelled ranks (clock + 1) (effect net w next)
  step_keeps clock w (step.Foreign message) timed is h = absurd (never_foreign net labelled leads ranks clock w is message h)
  step_keeps clock w (step.Enqueue name) timed is h = enqueued net labelled ranks clock w is name h (is_due net ranks clock name timed)
  step_keeps clock w (step.Send client tag entries) timed is h = idle clock (step.Send client tag entries) _ timed (λ p b s e. cc) (sent net labelled leads ranks clock w is client tag entries h)
  step_keeps clock w (step.Begin message) timed is h = idle clock (step.Begin message) _ timed (λ p b s e. cc) (begun net labelled leads ranks clock w is message h)
  step_keeps clock w (step.Append delivery buffer serial) timed is h = idle clock (step.Append delivery buffer serial) _ timed (λ p b s e. cc) (appended net labelled leads ranks clock w is delivery buffer serial h)
  step_keeps clock w (step.Ack delivery) timed is h = idle clock (step.Ack delivery) _ timed (λ p b s e. cc) (acknowledged net labelled leads ranks clock w is delivery h)
  step_keeps clock w (step.Abandon delivery) timed is h = idle clock (step.Abandon delivery) _ timed (λ p b s e. cc) (abandoned net labelled leads ranks clock w is delivery h)
  step_keeps clock w (step.Claim name) timed is h = idle clock (step.Claim name) _ timed (λ p b s e. cc) (claimed net labelled ranks clock w is name h)
  step_keeps clock w (step.Back name) timed is h = idle clock (step.Back name) _ timed (λ p b s e. cc) (given_back net labelled ranks clock w is name h)
  step_keeps clock w (step.Forward name server) timed is h = idle clock (step.Forward name server) _ timed (λ p b s e. cc) (forwarded net labelled ranks clock w is name server h)
  step_keeps clock w (step.Seen name) timed is h = idle clock (step.Seen name) _ timed (λ p b s e. cc) (seen net labelled ranks clock w is name h)
  step_keeps clock w (step.Write name) timed is h = idle clock (step.Write name) _ timed (λ p b s e. cc) (written net labelled ranks clock w is name h)
  step_keeps clock w (step.Part name count) timed is h = idle clock (step.Part name count) _ timed (λ p b s e. cc) (parted net labelled ranks clock w is name count h)
  step_keeps clock w (step.Purge name) timed is h = idle clock (step.Purge name) _ timed (λ p b s e. cc) (purged net labelled ranks clock w is name h)
  step_keeps clock w (step.Done name) timed is h = idle clock (step.Done name) _ timed (λ p b s e. cc) (done net labelled ranks clock w is name h)
  step_keeps clock w (step.Discard name) timed is h = idle clock (step.Discard name) _ timed (λ p b s e. cc) (discarded net labelled ranks clock w is name h)
  step_keeps clock w (step.Oldest relay buffer) timed is h = idle clock (step.Oldest relay buffer) _ timed (λ p b s e. cc) (oldest_gone net labelled ranks clock w is relay buffer h)
  step_keeps clock w (step.Restart relay) timed is h = idle clock (step.Restart relay) _ timed (λ p b s e. cc) (restarted net labelled ranks clock w is relay)

  pub run_keeps : (steps : List (Step A)) (clock : ℕ) (before after : World) → AreTimed net ranks clock steps → IsRanked net labelled ranks clock before → Steps net before steps after → (end : ℕ) × (end ≡ clock + length steps) × IsRanked net labelled ranks end after
  run_keeps [] clock before after timed kept is = (clock, omega arith, rw is kept)
  run_keeps (next ∷ steps) clock before after timed kept run =
      let kept = run_keeps steps (clock + 1) (effect net before next) after (λ k at other there e. timed (suc k) at other there (omega (arith, e)))
      (step_keeps clock before next (timed 0 clock next refl (omega arith)) kept run.1) run.2 in
      (kept.0, (let e = kept.1 in omega (arith, e)), kept.2)

  pub opening_kept : IsRanked net labelled ranks 0 initial_world
  opening_kept = record {
    below = λ place buffer serial le. refl;
    chunks = λ place buffer serial chunk at. absurd (cc);
    queued = λ place buffer serial keeps less. absurd (omega (arith, less));
    messages = λ number message at. absurd (cc);
    deliveries = λ number delivery at. absurd (cc);
    acknowledged = λ told inside. absurd (let less = inside.1 in omega arith);
  }

module _ {A : Type 0} (net : Network A) (labelled : Labelling) (leads : LeadOn net labelled) where
  -- What every list of steps keeps, with the ranks of its own steps.
  pub all_kept : (steps : List (Step A)) (w : World) → Steps net initial_world steps w → IsRanked net labelled (rank_in net steps) (length steps) w
  all_kept steps w run =
      let ranks = rank_in net steps in
      let kept = run_keeps net labelled leads ranks steps 0 initial_world w (are_timed net steps) (opening_kept net labelled leads ranks) run in
      let end_is : kept.0 ≡ length steps = (let e = kept.1 in omega (arith, e)) in
      subst (λ end. IsRanked net labelled ranks end w) end_is kept.2

  -- Every event that was acknowledged to a client is held after every list of steps.
  pub nothing_lost : (steps : List (Step A)) (w : World) → Steps net initial_world steps w → NothingIsLost net w
  nothing_lost steps w run k d less =
      let kept = all_kept steps w run in
      let told = get_or w.acknowledged k d in
      let safe = some_and (slice_get net.clients told.client) _ (kept.acknowledged told (All-contains_itself w.acknowledged k d less)) in
      and_some (slice_get net.clients told.client) (λ client. HeldAs net w (address_of_client net client) told.event) safe.0 safe.1 (safe_held net (rank_in net steps) w 0 _ safe.2)
