-- Copies of chunks.
use Rattle.step_lines.specs.Texts.{texts_of}
use Rattle.custody_store.specs.Contents.{Parts}
use Rattle.custody_store.specs.declared.chunk.Copied.{Copied}

-- what the copy has
abbrev pub copied_parts : {A : Type 0} → Copied A → Parts
copied_parts copied = record { tag = copied.tag; entries = texts_of copied.entries.items }
