-- What is shown of live chunks.
use Rattle.std.specs.Prelude.{ℕ, List, length}
use Rattle.buffer_state.specs.declared.chunk.Stage.{Stage}
use Rattle.buffer_state.specs.declared.live.ChunkFacts.{ChunkFacts}
use Rattle.buffer_state.specs.State.{Chunk, Numbered, size}

-- all of a live chunk but its entries: how many they are, and how many bytes they have
pub record Facts : Type 0 where
  pub serial : ℕ
  pub tag : List ℕ
  pub count : ℕ
  pub size : ℕ
  pub stage : Stage

-- what is shown of the chunk of this serial
abbrev pub facts_of : ℕ → Chunk → Facts
facts_of serial chunk = record {
  serial = serial;
  tag = chunk.tag;
  count = length chunk.entries;
  size = size chunk.entries;
  stage = chunk.stage;
}

-- what is shown of a chunk under its serial
abbrev pub numbered_facts : Numbered → Facts
numbered_facts numbered = facts_of numbered.0 numbered.1

-- the facts, without where they lie in memory
abbrev pub seen : ChunkFacts → Facts
seen facts = record {
  serial = facts.serial;
  tag = facts.tag.now;
  count = facts.count;
  size = facts.size;
  stage = facts.stage;
}
