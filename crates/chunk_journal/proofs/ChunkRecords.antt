-- The records that tell live chunks lead to these chunks again.
use Rattle.std.proofs.Common.{◌≡◌, ℕ, ◌+◌, ◌^◌, ◌<◌, ◌≤◌, List, [], ◌∷◌, ◌++◌, Option, Some, None, refl, sym, ap, subst, ◌∙◌, append_assoc, arith, inr}
use Rattle.std.specs.Prelude.{IsSomeAnd}
use Rattle.std.specs.Option.{option_map_or}
use Rattle.std.specs.List.{AllByRecursion, flat_map}
use Rattle.std.specs.Map.{lookup, set_value}
use Rattle.std.specs.Ordering.{nat_cmp}
use Rattle.std.specs.BTreeMap.{is_at}
use Rattle.std.proofs.lemmas.List.{append-nil}
use Rattle.buffer_state.specs.declared.chunk.Stage.{Stage}
use Rattle.buffer_state.specs.declared.chunk.Stage.TheVariants.{Staged, Queued, Claimed}
use Rattle.buffer_state.specs.State.{Chunk, Numbered, State, empty, size, size_at, IsAt}
use Rattle.buffer_state.specs.Steps.{with_chunk, added, appended, queued_last, greatest_size, last_serial, unclaimed, unclaimed_chunks, settled, reopened}
use Rattle.buffer_state.proofs.Serials.{at_itself, at_below}
use Rattle.chunk_journal.specs.Records.{Record, Seal, Append, Queue}
use Rattle.chunk_journal.specs.Meaning.{Tells, after, after_all, Each, IsGeneration, chunk_records, beginning, AreTold}
use Rattle.chunk_journal.proofs.Standing.{after_more, each_more}

-- ---- chunks by serial

-- all serials are below this
abbrev Below : ℕ → List Numbered → Type 0
Below n chunks = AllByRecursion (λ numbered. numbered.0 < n) chunks

below_more : (n m : ℕ) (chunks : List Numbered) → n ≤ m → Below n chunks → Below m chunks
below_more n m [] le b = tt
below_more n m (x ∷ chunks) le b = (omega (arith, b.0), below_more n m chunks le b.1)

below_last : (n : ℕ) (chunks : List Numbered) (x : Numbered) → Below n chunks → x.0 < n → Below n (chunks ++ x ∷ [])
below_last n [] x b lt = (lt, tt)
below_last n (y ∷ chunks) x b lt = (b.0, below_last n chunks x b.1 lt)

none_there : (s : ℕ) (chunks : List Numbered) → Below s chunks → lookup (is_at (nat_cmp s)) chunks ≡ None
none_there s [] b = refl
none_there s (x ∷ chunks) b = rw (at_below s x.0 b.0) (none_there s chunks b.1)

last_there : (s : ℕ) (chunks : List Numbered) (c : Chunk) → Below s chunks → lookup (is_at (nat_cmp s)) (chunks ++ (s, c) ∷ []) ≡ Some c
last_there s [] c b = rw (at_itself s) refl
last_there s (x ∷ chunks) c b = rw (at_below s x.0 b.0) (last_there s chunks c b.1)

last_set : (s : ℕ) (chunks : List Numbered) (c d : Chunk) → Below s chunks → set_value (is_at (nat_cmp s)) (chunks ++ (s, c) ∷ []) d ≡ chunks ++ (s, d) ∷ []
last_set s [] c d b = rw (at_itself s) refl
last_set s (x ∷ chunks) c d b = rw (at_below s x.0 b.0) (ap (λ (z : List Numbered). x ∷ z) (last_set s chunks c d b.1))

-- ---- one chunk

abbrev state_of : List Numbered → ℕ → List ℕ → State
state_of chunks next queue = record { chunks = chunks; next = next; queue = queue }

abbrev chunk_of : List ℕ → List (List ℕ) → Stage → Chunk
chunk_of tag entries stage = record { tag = tag; entries = entries; stage = stage }

-- the records tell, and lead to these chunks
record ToldAs (state : State) (items : List Record) (chunks : List Numbered) (next : ℕ) : Type 0 where
  each : Each Tells state items
  queue : List ℕ
  leads : after_all state items ≡ state_of chunks next queue

can_tell : (chunks : List Numbered) (n : ℕ) (queue : List ℕ) (s : ℕ) (tag : List ℕ) (entries : List (List ℕ)) → Below n chunks → n ≤ s → s < last_serial → size entries ≤ greatest_size
    → Tells (state_of chunks n queue) (Append s tag entries)
can_tell chunks n queue s tag entries b le lt small =
    let e : size_at (state_of chunks n queue) s ≡ 0 = ap (λ (z : Option Chunk). option_map_or (λ chunk. size chunk.entries) z 0) (none_there s chunks (below_more n s chunks le b)) in
    (record { place = inr (le, lt); small = omega (arith, e, small) }, le)

append_told : (chunks : List Numbered) (n : ℕ) (queue : List ℕ) (s : ℕ) (tag : List ℕ) (entries : List (List ℕ)) → Below n chunks → n ≤ s
    → appended s tag entries (state_of chunks n queue) ≡ state_of (chunks ++ (s, chunk_of tag entries Staged) ∷ []) (s + 1) queue
append_told chunks n queue s tag entries b le =
    ap (λ (z : Option Chunk). option_map_or (λ chunk. with_chunk s (record chunk { entries = chunk.entries ++ entries }) (state_of chunks n queue)) z (added s tag entries (state_of chunks n queue)))
    (none_there s chunks (below_more n s chunks le b))

queue_told : (chunks : List Numbered) (queue : List ℕ) (s : ℕ) (tag : List ℕ) (entries : List (List ℕ)) → Below s chunks
    → queued_last s (state_of (chunks ++ (s, chunk_of tag entries Staged) ∷ []) (s + 1) queue) ≡ state_of (chunks ++ (s, chunk_of tag entries Queued) ∷ []) (s + 1) (queue ++ s ∷ [])
queue_told chunks queue s tag entries b =
    let t = state_of (chunks ++ (s, chunk_of tag entries Staged) ∷ []) (s + 1) queue in
    ap (λ (z : Option Chunk). record (option_map_or (λ chunk. with_chunk s (record chunk { stage = Queued }) t) z t) { queue = queue ++ s ∷ [] }) (last_there s chunks (chunk_of tag entries Staged) b)
    ∙ ap (λ (z : List Numbered). state_of z (s + 1) (queue ++ s ∷ [])) (last_set s chunks (chunk_of tag entries Staged) (chunk_of tag entries Queued) b)

is_staged_there : (chunks : List Numbered) (queue : List ℕ) (s : ℕ) (tag : List ℕ) (entries : List (List ℕ)) → Below s chunks → IsAt Staged (state_of (chunks ++ (s, chunk_of tag entries Staged) ∷ []) (s + 1) queue) s
is_staged_there chunks queue s tag entries b =
    subst (λ (z : Option Chunk). IsSomeAnd z (λ chunk. chunk.stage ≡ Staged)) (sym (last_there s chunks (chunk_of tag entries Staged) b)) refl

append_only : (chunks : List Numbered) (n : ℕ) (queue : List ℕ) (s : ℕ) (tag : List ℕ) (entries : List (List ℕ)) → Below n chunks → n ≤ s → s < last_serial → size entries ≤ greatest_size
    → ToldAs (state_of chunks n queue) (Append s tag entries ∷ []) (chunks ++ (s, chunk_of tag entries Staged) ∷ []) (s + 1)
append_only chunks n queue s tag entries b le lt small = record {
  each = (can_tell chunks n queue s tag entries b le lt small, tt);
  queue = queue;
  leads = append_told chunks n queue s tag entries b le;
}

append_queued : (chunks : List Numbered) (n : ℕ) (queue : List ℕ) (s : ℕ) (tag : List ℕ) (entries : List (List ℕ)) → Below n chunks → n ≤ s → s < last_serial → size entries ≤ greatest_size
    → ToldAs (state_of chunks n queue) (Append s tag entries ∷ Queue s ∷ []) (chunks ++ (s, chunk_of tag entries Queued) ∷ []) (s + 1)
append_queued chunks n queue s tag entries b le lt small =
    let m = below_more n s chunks le b in
    let e = append_told chunks n queue s tag entries b le in
    let q : Tells (state_of (chunks ++ (s, chunk_of tag entries Staged) ∷ []) (s + 1) queue) (Queue s) = (is_staged_there chunks queue s tag entries m, refl) in
    record {
      each = (can_tell chunks n queue s tag entries b le lt small, (subst (λ (z : State). Tells z (Queue s)) (sym e) q, tt));
      queue = queue ++ s ∷ [];
      leads = ap (queued_last s) e ∙ queue_told chunks queue s tag entries m;
    }

tell_one : (chunks : List Numbered) (n : ℕ) (queue : List ℕ) (s : ℕ) (tag : List ℕ) (entries : List (List ℕ)) (stage : Stage) → Below n chunks → n ≤ s → s < last_serial → size entries ≤ greatest_size
    → ToldAs (state_of chunks n queue) (chunk_records (s, chunk_of tag entries stage)) (chunks ++ (s, chunk_of tag entries (unclaimed stage)) ∷ []) (s + 1)
tell_one chunks n queue s tag entries Staged b le lt small = append_only chunks n queue s tag entries b le lt small
tell_one chunks n queue s tag entries Queued b le lt small = append_queued chunks n queue s tag entries b le lt small
tell_one chunks n queue s tag entries Claimed b le lt small = append_queued chunks n queue s tag entries b le lt small

-- ---- all of them

told_within : (n : ℕ) (chunks : List Numbered) (next : ℕ) → AreTold n chunks next → n ≤ next
told_within n [] next t = t
told_within n (x ∷ chunks) next t = omega (arith, t.0, told_within (x.0 + 1) chunks next t.2)

tell_all : (before : List Numbered) (n : ℕ) (queue : List ℕ) (chunks : List Numbered) (next : ℕ) → Below n before → AreTold n chunks next → next < 2 ^ 64
    → (last : ℕ) × (last ≤ next) × ToldAs (state_of before n queue) (flat_map chunk_records chunks) (before ++ unclaimed_chunks chunks) last
tell_all before n queue [] next b t fits =
    (n, t, record { each = tt; queue = queue; leads = ap (λ (z : List Numbered). state_of z n queue) (sym (append-nil before)) })
tell_all before n queue (x ∷ chunks) next b t fits =
    let w = told_within (x.0 + 1) chunks next t.2 in
    let y : Numbered = (x.0, chunk_of x.1.tag x.1.entries (unclaimed x.1.stage)) in
    let one = tell_one before n queue x.0 x.1.tag x.1.entries x.1.stage b t.0 (omega arith) t.1 in
    let c : Below (x.0 + 1) (before ++ y ∷ []) = below_last (x.0 + 1) before y (below_more n (x.0 + 1) before (omega (arith, t.0)) b) (omega arith) in
    let r = tell_all (before ++ y ∷ []) (x.0 + 1) one.queue chunks next c t.2 fits in (
      r.0,
      r.1,
      record {
        each = each_more Tells (state_of before n queue) (chunk_records x) (flat_map chunk_records chunks) one.each (subst (λ (z : State). Each Tells z (flat_map chunk_records chunks)) (sym one.leads) r.2.each);
        queue = r.2.queue;
        leads = after_more (state_of before n queue) (chunk_records x) (flat_map chunk_records chunks) ∙ ap (λ (z : State). after_all z (flat_map chunk_records chunks)) one.leads ∙ r.2.leads
            ∙ ap (λ (z : List Numbered). state_of z r.0 r.2.queue) (append_assoc before (y ∷ []) (unclaimed_chunks chunks));
      },
    )

-- a generation that begins with live chunks means them
pub tells_chunks : (chunks : List Numbered) (next : ℕ) → AreTold 0 chunks next → next < 2 ^ 64 → IsGeneration (beginning chunks next) (reopened (record { chunks = chunks; next = next; queue = [] }))
tells_chunks chunks next t fits =
    let r = tell_all [] 0 [] chunks next tt t fits in
    record {
      last = after (after_all empty (flat_map chunk_records chunks)) (Seal next);
      leads = record {
        told = flat_map chunk_records chunks;
        next = next;
        steps = [];
        tells = r.2.each;
        greater = subst (λ (z : State). z.next ≤ next) (sym r.2.leads) r.1;
        allowed = tt;
        whole = refl;
        here = refl;
      };
      means = sym (ap (λ (z : State). settled (after z (Seal next))) r.2.leads);
    }

-- the records that tell live chunks do so in an empty buffer, and with the Seal behind them lead to
-- these chunks
pub record AreToldBy (chunks : List Numbered) (next : ℕ) : Type 0 where
  pub each : Each Tells empty (flat_map chunk_records chunks)
  pub within : (after_all empty (flat_map chunk_records chunks)).next ≤ next
  pub leads : settled (after (after_all empty (flat_map chunk_records chunks)) (Seal next)) ≡ reopened (record { chunks = chunks; next = next; queue = [] })

pub told_so : (chunks : List Numbered) (next : ℕ) → AreTold 0 chunks next → next < 2 ^ 64 → AreToldBy chunks next
told_so chunks next t fits =
    let r = tell_all [] 0 [] chunks next tt t fits in
    record {
      each = r.2.each;
      within = subst (λ (z : State). z.next ≤ next) (sym r.2.leads) r.1;
      leads = ap (λ (z : State). settled (after z (Seal next))) r.2.leads;
    }
