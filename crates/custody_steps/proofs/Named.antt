-- What a step asks of the chunk of a name is asked of the chunk that was found.
use Rattle.std.proofs.Common.{◌≡◌, length, Option, Some, None, Err, refl, sym, ap, ◌∙◌, IsSome, IsSomeAnd}
use Rattle.custody_store.specs.Buffers.{Chunk}
use Rattle.custody_store.specs.declared.chunk.Look.{Look}
use Rattle.custody_store.specs.declared.chunk.Stage.{Stage}
use Rattle.relay_conf.specs.declared.output.Output.{Output}
use Rattle.relay_net.specs.Network.{Network, output_at}
use Rattle.step_lines.specs.declared.step.ChunkName.{ChunkName}
use Rattle.custody_steps.specs.Found.{IsFound, chunk_of}
use Rattle.custody_steps.specs.Steps.{OfChunk, Refuses, Answer, chunk_named, output_named}
use Rattle.custody_steps.specs.World.{World}
use Rattle.custody_steps.specs.declared.fault.StepFault.{StepFault}
use Rattle.custody_steps.specs.declared.fault.StepFault.TheVariants as fault
use Rattle.custody_steps.specs.declared.found.Found.{Found}

pub some_first : {X : Type 0} (o : Option X) (P Q : X → Type 0) → IsSomeAnd o (λ x. P x × Q x) → IsSomeAnd o P
some_first None P Q h = h
some_first (Some x) P Q h = h.0

-- A step that asks for a stage and more is refused where the chunk isn't at the stage.
pub not_at_stage : {A : Type 0} (net : Network A) (w : World) (name : ChunkName) (stage : Stage) (P : Chunk → Type 0) (fault : StepFault) (effect : World)
    → Refuses (IsSome (chunk_named net w name)) (IsSomeAnd (chunk_named net w name) (λ chunk. chunk.stage ≡ stage)) fault
    → Answer (IsSome (chunk_named net w name)) (OfChunk net w name stage P) (OfChunk net w name stage P) w w effect (Err fault)
not_at_stage net w name stage P fault.NoSuch effect h = (h, refl)
not_at_stage net w name stage P fault.NotAllowed effect h = (h.0, λ all. h.1 (some_first (chunk_named net w name) (λ chunk. chunk.stage ≡ stage) P all), refl)
not_at_stage net w name stage P fault.Memory effect h = absurd h

module _ {A : Type 0} (net : Network A) (w : World) (name : ChunkName) (found : Found) (f : IsFound net w name found) where
  pub named_is : chunk_named net w name ≡ Some f.chunk
  named_is = rw (f.place_is, f.buffer_is, f.serial_is) f.chunk_is

  pub there : IsSome (chunk_named net w name)
  there = rw named_is refl

  pub output_is : output_named net name ≡ output_at net found.place found.buffer
  output_is = rw (f.place_is, f.buffer_is) refl

  stage_is : (stage : Stage) → found.look.stage ≡ stage → f.chunk.stage ≡ stage
  stage_is stage e = ap (λ (l : Look). l.stage) (sym f.look_is) ∙ e

  -- the chunk of the name is at this stage, and so is what was found
  pub found_stage : (stage : Stage) (P : Chunk → Type 0) → OfChunk net w name stage P → found.look.stage ≡ stage
  found_stage stage P h = ap (λ (l : Look). l.stage) f.look_is ∙ (rw named_is at h).0

  -- the chunk that was found, and what holds of it
  pub live : IsSome (chunk_of w found)
  live = rw f.chunk_is refl

  pub live_at : (stage : Stage) → found.look.stage ≡ stage → IsSomeAnd (chunk_of w found) (λ chunk. chunk.stage ≡ stage)
  live_at stage e = rw f.chunk_is (stage_is stage e)

  pub at_stage : (stage : Stage) (P : Chunk → Type 0) → found.look.stage ≡ stage → P f.chunk → OfChunk net w name stage P
  at_stage stage P e p = rw named_is (stage_is stage e, p)

  -- what a step asks of the chunk besides its stage
  pub of_chunk : (stage : Stage) (P : Chunk → Type 0) → OfChunk net w name stage P → P f.chunk
  of_chunk stage P h = (rw named_is at h).1

  -- the same of the output of its buffer
  pub of_output : (Q : Output A → Type 0) → IsSomeAnd (output_at net found.place found.buffer) Q → IsSomeAnd (output_named net name) Q
  of_output Q h = rw output_is h

  pub of_named_output : (Q : Output A → Type 0) → IsSomeAnd (output_named net name) Q → IsSomeAnd (output_at net found.place found.buffer) Q
  of_named_output Q h = rw output_is at h

  pub evidence_is : f.chunk.evidence ≡ found.look.evidence
  evidence_is = ap (λ (l : Look). l.evidence) (sym f.look_is)

  pub forwarded_is : f.chunk.forwarded ≡ found.look.forwarded
  forwarded_is = ap (λ (l : Look). l.forwarded) (sym f.look_is)

  pub count_is : length f.chunk.entries ≡ found.look.count
  count_is = ap (λ (l : Look). l.count) (sym f.look_is)
