-- When the steps of a list queue chunks: the rank of each, as a function.
use Rattle.std.proofs.Common.{◌≡◌, ℕ, zero, suc, ◌+◌, ◌<◌, ◌≤◌, ◌==◌, ◌&&◌, Bool, true, false, cond, List, [], ◌∷◌, length, Option, Some, None, slice_get, refl, ◌∙◌, arith}
use Rattle.std.proofs.lemmas.Bool.{and_parts, eqb-true, eq-eqb}
use Rattle.std.proofs.lemmas.Option.{same_Some}
use Rattle.std.specs.Option.{option_map_or}
use Rattle.relay_net.specs.Network.{Network, place_of}
use Rattle.step_lines.specs.declared.step.ChunkName.{ChunkName}
use Rattle.step_lines.specs.declared.step.Step.{Step}
use Rattle.step_lines.specs.declared.step.Step.TheVariants as step
use Rattle.custody_core.specs.Onward.{IsQueuedAt, IsRank}

module _ (place buffer serial : ℕ) where
  -- a chunk of the relay at this place, if there is one, is the chunk
  abbrev is_it : ChunkName → Option ℕ → Bool
  is_it name o = option_map_or (λ p. (p == place) && ((name.buffer == buffer) && (name.serial == serial))) o false

  it_is : (name : ChunkName) (o : Option ℕ) → is_it name o ≡ true → (o ≡ Some place) × (name.buffer ≡ buffer) × (name.serial ≡ serial)
  it_is name None e = absurd (cc)
  it_is name (Some p) e =
      let first = and_parts (p == place) ((name.buffer == buffer) && (name.serial == serial)) e in
      let second = and_parts (name.buffer == buffer) (name.serial == serial) first.1 in
      (rw (eqb-true p place first.0) refl, eqb-true name.buffer buffer second.0, eqb-true name.serial serial second.1)

  is_it_so : (name : ChunkName) (o : Option ℕ) → o ≡ Some place → name.buffer ≡ buffer → name.serial ≡ serial → is_it name o ≡ true
  is_it_so name o at b s = rw at (rw (eq-eqb place place refl, eq-eqb name.buffer buffer b, eq-eqb name.serial serial s) refl)

module _ {A : Type 0} (net : Network A) where
  -- whether the step queues the chunk
  abbrev pub queues : Step A → ℕ → ℕ → ℕ → Bool
  queues (step.Enqueue name) p b s = is_it p b s name (place_of net name.relay)
  queues (step.Send client tag entries) p b s = false
  queues (step.Begin message) p b s = false
  queues (step.Append delivery buffer serial) p b s = false
  queues (step.Ack delivery) p b s = false
  queues (step.Abandon delivery) p b s = false
  queues (step.Foreign message) p b s = false
  queues (step.Claim name) p b s = false
  queues (step.Back name) p b s = false
  queues (step.Forward name server) p b s = false
  queues (step.Seen name) p b s = false
  queues (step.Write name) p b s = false
  queues (step.Part name count) p b s = false
  queues (step.Purge name) p b s = false
  queues (step.Done name) p b s = false
  queues (step.Discard name) p b s = false
  queues (step.Oldest relay buffer) p b s = false
  queues (step.Restart relay) p b s = false

  -- a step that queues the chunk names it
  pub enqueues_it : (name : ChunkName) (p b s : ℕ) → queues (step.Enqueue name) p b s ≡ true → (place_of net name.relay ≡ Some p) × (name.buffer ≡ b) × (name.serial ≡ s)
  enqueues_it name p b s e = it_is p b s name (place_of net name.relay) e

  pub queues_it : (next : Step A) (p b s : ℕ) → queues next p b s ≡ true → (name : ChunkName) × (next ≡ step.Enqueue name) × (place_of net name.relay ≡ Some p) × (name.buffer ≡ b) × (name.serial ≡ s)
  queues_it (step.Enqueue name) p b s e = let it = it_is p b s name (place_of net name.relay) e in (name, refl, it.0, it.1, it.2)
  queues_it (step.Send client tag entries) p b s e = absurd (cc)
  queues_it (step.Begin message) p b s e = absurd (cc)
  queues_it (step.Append delivery buffer serial) p b s e = absurd (cc)
  queues_it (step.Ack delivery) p b s e = absurd (cc)
  queues_it (step.Abandon delivery) p b s e = absurd (cc)
  queues_it (step.Foreign message) p b s e = absurd (cc)
  queues_it (step.Claim name) p b s e = absurd (cc)
  queues_it (step.Back name) p b s e = absurd (cc)
  queues_it (step.Forward name server) p b s e = absurd (cc)
  queues_it (step.Seen name) p b s e = absurd (cc)
  queues_it (step.Write name) p b s e = absurd (cc)
  queues_it (step.Part name count) p b s e = absurd (cc)
  queues_it (step.Purge name) p b s e = absurd (cc)
  queues_it (step.Done name) p b s e = absurd (cc)
  queues_it (step.Discard name) p b s e = absurd (cc)
  queues_it (step.Oldest relay buffer) p b s e = absurd (cc)
  queues_it (step.Restart relay) p b s e = absurd (cc)

  pub queues_so : (name : ChunkName) (p b s : ℕ) → place_of net name.relay ≡ Some p → name.buffer ≡ b → name.serial ≡ s → queues (step.Enqueue name) p b s ≡ true
  queues_so name p b s at buffer serial = is_it_so p b s name (place_of net name.relay) at buffer serial

  -- the place of the first step that queues the chunk; none does, and it is the length of the list
  abbrev pub rank_in : List (Step A) → ℕ → ℕ → ℕ → ℕ
  rank_in [] p b s = 0
  rank_in (next ∷ steps) p b s = cond (queues next p b s) 0 (rank_in steps p b s + 1)

  module _ (p b s : ℕ) where
    -- the first step, which queues the chunk or doesn't
    abbrev rank_by : Bool → List (Step A) → ℕ
    rank_by first steps = cond first 0 (rank_in steps p b s + 1)

    -- a step that queues the chunk has its rank or a later place
    pub rank_least : (steps : List (Step A)) (k : ℕ) (next : Step A) → slice_get steps k ≡ Some next → queues next p b s ≡ true → rank_in steps p b s ≤ k
    rank_least [] k next at is = absurd (cc)
    rank_least (x ∷ steps) zero next at is = rw (same_Some x next at, is) (omega arith)
    rank_least (x ∷ steps) (suc k) next at is = by (queues x p b s) (rank_least steps k next at is)
      where
        by : (first : Bool) → rank_in steps p b s ≤ k → rank_by first steps ≤ suc k
        by true le = omega arith
        by false le = omega (arith, le)

    -- the step at the place of its rank queues the chunk
    pub rank_queues : (steps : List (Step A)) (k : ℕ) (next : Step A) → slice_get steps k ≡ Some next → rank_in steps p b s ≡ k → queues next p b s ≡ true
    rank_queues [] k next at is = absurd (cc)
    rank_queues (x ∷ steps) zero next at is = by (queues x p b s) refl is
      where
        by : (first : Bool) → queues x p b s ≡ first → rank_by first steps ≡ 0 → queues next p b s ≡ true
        by true e is = rw (← same_Some x next at) e
        by false e is = absurd (omega (arith, is))
    rank_queues (x ∷ steps) (suc k) next at is = by (queues x p b s) is (λ e. rank_queues steps k next at e)
      where
        by : (first : Bool) → rank_by first steps ≡ suc k → (rank_in steps p b s ≡ k → queues next p b s ≡ true) → queues next p b s ≡ true
        by true is behind = absurd (omega (arith, is))
        by false is behind = behind (omega (arith, is))

    -- there is a step at the place of its rank
    rank_there : (steps : List (Step A)) → rank_in steps p b s < length steps → (next : Step A) × (slice_get steps (rank_in steps p b s) ≡ Some next)
    rank_there [] less = absurd (omega (arith, less))
    rank_there (x ∷ steps) less = by (queues x p b s) less (λ l. rank_there steps l)
      where
        by : (first : Bool) → rank_by first steps < length (x ∷ steps) → (rank_in steps p b s < length steps → (next : Step A) × (slice_get steps (rank_in steps p b s) ≡ Some next)) → (next : Step A) × (slice_get (x ∷ steps) (rank_by first steps) ≡ Some next)
        by true less behind = (x, refl)
        by false less behind = let more : rank_in steps p b s + 1 ≡ suc (rank_in steps p b s) = omega arith in rw more (behind (omega (arith, less)))

    -- a step that names the chunk queues it
    queued_at : (steps : List (Step A)) (at : ℕ) (name : ChunkName) → slice_get steps at ≡ Some (step.Enqueue name) → place_of net name.relay ≡ Some p → name.buffer ≡ b → name.serial ≡ s → IsQueuedAt net steps p b s at
    queued_at steps at name there place buffer serial = record {
      relay = name.relay;
      place_is = place;
      there = there ∙ (λ i. Some (step.Enqueue (record { relay = name.relay; buffer = buffer i; serial = serial i })));
    }

    -- where a step queues the chunk, it has its rank
    pub rank_so : (steps : List (Step A)) → rank_in steps p b s < length steps → IsRank net steps p b s (rank_in steps p b s)
    rank_so steps less =
        let there = rank_there steps less in
        let it = queues_it there.0 p b s (rank_queues steps (rank_in steps p b s) there.0 there.1 refl) in
        record {
          queued = queued_at steps (rank_in steps p b s) it.0 (rw (← it.1) there.1) it.2 it.3 it.4;
          first = λ at early q. (let le = rank_least steps at _ q.there (queues_so (record { relay = q.relay; buffer = b; serial = s }) p b s q.place_is refl refl) in omega (arith, early, le));
        }
