-- Events that are safe above a rank: in a sink, or in a chunk of a buffer that keeps which was
-- queued later.
use Rattle.std.proofs.Common.{◌≡◌, ℕ, ◌≤◌, ◌==◌, ◌&&◌, true, false, cond, List, Some, refl, sym, ◌∙◌, ◌⊎◌, inl, inr, arith, Contains, IsSomeAnd}
use Rattle.std.proofs.lemmas.Bool.{and_parts, eqb-true, eq-eqb}
use Rattle.custody_store.specs.declared.chunk.Stage.{Stage}
use Rattle.custody_store.specs.declared.chunk.Stage.TheVariants.{Staged}
use Rattle.custody_store.specs.Buffers.{Event, Chunk, BufferState, IsInChunk}
use Rattle.relay_net.specs.Network.{Network, output_at}
use Rattle.relay_net.specs.Outputs.{Keeps}
use Rattle.custody_steps.specs.Held.{HeldAs}
use Rattle.custody_steps.specs.World.{World}
use Rattle.custody_core.proofs.Borne.{Origin, Bears, borne_routed}
use Rattle.custody_core.proofs.Serials.{event_of, and_some}

-- the buffers of all relays, by the place of the relay and the buffer in it
abbrev pub Buffers : Type 0
Buffers = ℕ → ℕ → BufferState

-- when each chunk is queued first, by place, buffer and serial
abbrev pub Ranking : Type 0
Ranking = ℕ → ℕ → ℕ → ℕ

-- the output of this buffer lets go of nothing before it is delivered
abbrev pub KeepsAt : {A : Type 0} → Network A → ℕ → ℕ → Type 0
KeepsAt net place buffer = IsSomeAnd (output_at net place buffer) Keeps

-- A chunk at this stage that was queued at this time ranks so high: a staged one ranks above all.
abbrev pub RanksFrom : Stage → ℕ → ℕ → Type 0
RanksFrom stage queued rank = (stage ≡ Staged) ⊎ (rank ≤ queued)

-- A live chunk of the buffer has the event, and ranks so high.
pub record IsHeldFrom (ranks : ℕ → ℕ) (rank : ℕ) (state : BufferState) (event : Event) : Type 0 where
  pub serial : ℕ
  pub chunk : Chunk
  pub there : state.chunks serial ≡ Some chunk
  pub inside : IsInChunk chunk event
  pub ranked : RanksFrom chunk.stage (ranks serial) rank

-- The origin's event is in a sink, or in a live chunk of a buffer that keeps which ranks so high,
-- under a tag that it may bear there.
pub record IsSafe {A : Type 0} (net : Network A) (ranks : Ranking) (buffers : Buffers) (rank : ℕ) (origin : Origin) : Type 0 where
  pub place : ℕ
  pub buffer : ℕ
  pub tag : List ℕ
  pub borne : Bears net origin place buffer tag
  pub held : Contains (buffers place buffer).sink (event_of tag origin.entry) ⊎ (KeepsAt net place buffer × IsHeldFrom (ranks place buffer) rank (buffers place buffer) (event_of tag origin.entry))

pub lower : (level : Stage) (queued rank less : ℕ) → less ≤ rank → RanksFrom level queued rank → RanksFrom level queued less
lower level queued rank less le ranked = elim ranked [
  | inl staged ↦ inl staged
  | inr high ↦ inr (omega arith)
]

-- what is safe above a rank is safe above each lesser one
pub safe_below : {A : Type 0} (net : Network A) (ranks : Ranking) (buffers : Buffers) (rank less : ℕ) (origin : Origin) → less ≤ rank → IsSafe net ranks buffers rank origin → IsSafe net ranks buffers less origin
safe_below net ranks buffers rank less origin le safe = record {
  place = safe.place;
  buffer = safe.buffer;
  tag = safe.tag;
  borne = safe.borne;
  held = elim safe.held [
    | inl stored ↦ inl stored
    | inr in_chunk ↦ (let h = in_chunk.1 in inr (in_chunk.0, record { serial = h.serial; chunk = h.chunk; there = h.there; inside = h.inside; ranked = lower h.chunk.stage (ranks safe.place safe.buffer h.serial) rank less le h.ranked }))
  ];
}

-- what is safe is held
pub safe_held : {A : Type 0} (net : Network A) (ranks : Ranking) (w : World) (rank : ℕ) (origin : Origin) → IsSafe net ranks w.buffers rank origin → HeldAs net w origin.address (event_of origin.tag origin.entry)
safe_held net ranks w rank origin safe = (
  safe.tag,
  borne_routed net origin.address origin.tag safe.place safe.buffer safe.tag safe.borne,
  (
    safe.place,
    safe.buffer,
    elim safe.held [
      | inl stored ↦ inr stored
      | inr in_chunk ↦ inl (in_chunk.1.serial, and_some _ (λ c. IsInChunk c (event_of safe.tag origin.entry)) in_chunk.1.chunk in_chunk.1.there in_chunk.1.inside)
    ],
  ),
)

-- the buffers after this one changed
abbrev pub changed : Buffers → ℕ → ℕ → (BufferState → BufferState) → Buffers
changed old place buffer change = λ p b. cond ((p == place) && (b == buffer)) (change (old p b)) (old p b)

-- it is this buffer, or another
abbrev pub IsOther : ℕ → ℕ → ℕ → ℕ → Type 0
IsOther place buffer p b = (p ≡ place) → (b ≡ buffer) → ⊥

-- a buffer is the one that changed, or is as it was
pub at_buffer : (old : Buffers) (place buffer : ℕ) (change : BufferState → BufferState) (p b : ℕ)
    → ((p ≡ place) × (b ≡ buffer) × (changed old place buffer change p b ≡ change (old place buffer))) ⊎ (IsOther place buffer p b × (changed old place buffer change p b ≡ old p b))
at_buffer old place buffer change p b =
    elim ((p == place) && (b == buffer)) as (λ c. ((p == place) && (b == buffer)) ≡ c
    → ((p ≡ place) × (b ≡ buffer) × (cond c (change (old p b)) (old p b) ≡ change (old place buffer))) ⊎ (IsOther place buffer p b × (cond c (change (old p b)) (old p b) ≡ old p b))) [
      | true ↦ λ e. (
          let parts = and_parts (p == place) (b == buffer) e in
          let same_place = eqb-true p place parts.0 in
          let same_buffer = eqb-true b buffer parts.1 in
          inl (same_place, same_buffer, λ i. change (old (same_place i) (same_buffer i)))
          )
      | false ↦ λ e. inr (λ same_place same_buffer. (let f : ((p == place) && (b == buffer)) ≡ true = rw (eq-eqb p place same_place, eq-eqb b buffer same_buffer) refl in let g : true ≡ false = sym f ∙ e in cc), refl)
    ] refl

-- One buffer changed: what was safe is safe if it is where it was held there.
pub safe_changed : {A : Type 0} (net : Network A) (ranks later : Ranking) (old : Buffers) (place buffer : ℕ) (change : BufferState → BufferState) (rank : ℕ) (origin : Origin)
    → ((p b : ℕ) → IsOther place buffer p b → (s : ℕ) → later p b s ≡ ranks p b s)
    → ((event : Event) → Contains (old place buffer).sink event → Contains (change (old place buffer)).sink event)
    → ((tag : List ℕ) → Bears net origin place buffer tag → KeepsAt net place buffer → IsHeldFrom (ranks place buffer) rank (old place buffer) (event_of tag origin.entry) → IsSafe net later (changed old place buffer change) rank origin)
    → IsSafe net ranks old rank origin → IsSafe net later (changed old place buffer change) rank origin
safe_changed net ranks later old place buffer change rank origin elsewhere sink held safe =
    elim (at_buffer old place buffer change safe.place safe.buffer) [
      | inl here ↦ elim safe.held [
        | inl stored ↦ record { place = safe.place; buffer = safe.buffer; tag = safe.tag; borne = safe.borne; held = inl (rw here.2 (sink (event_of safe.tag origin.entry) (rw (here.0, here.1) at stored))) }
        | inr in_chunk ↦ held safe.tag (rw (here.0, here.1) at safe.borne) (rw (here.0, here.1) at in_chunk.0) (rw (here.0, here.1) at in_chunk.1)
      ]
      | inr there ↦ record {
        place = safe.place;
        buffer = safe.buffer;
        tag = safe.tag;
        borne = safe.borne;
        held = elim safe.held [
          | inl stored ↦ inl (rw there.1 stored)
          | inr in_chunk ↦ (let h = in_chunk.1 in inr (
            in_chunk.0,
            record {
              serial = h.serial;
              chunk = h.chunk;
              there = rw there.1 h.there;
              inside = h.inside;
              ranked = rw (elsewhere safe.place safe.buffer there.0 h.serial) h.ranked;
            },
          ))
        ];
      }
    ]

-- held in a chunk of the changed buffer, so high
pub safe_here : {A : Type 0} (net : Network A) (later : Ranking) (old : Buffers) (place buffer : ℕ) (change : BufferState → BufferState) (rank : ℕ) (origin : Origin) (tag : List ℕ)
    → Bears net origin place buffer tag → KeepsAt net place buffer → IsHeldFrom (later place buffer) rank (change (old place buffer)) (event_of tag origin.entry) → IsSafe net later (changed old place buffer change) rank origin
safe_here net later old place buffer change rank origin tag borne keeps held =
    elim (at_buffer old place buffer change place buffer) [
      | inl here ↦ record { place = place; buffer = buffer; tag = tag; borne = borne; held = inr (keeps, rw here.2 held) }
      | inr there ↦ absurd (there.0 refl refl)
    ]
