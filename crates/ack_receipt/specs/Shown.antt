-- What shows that a step was taken under a shared buffer's lock.
use Rattle.std.specs.Prelude.{ℕ}
use Rattle.book_audit.specs.declared.line.Leaf.{Leaf}

-- the chunk of this serial in the buffer of this name
pub record ChunkOf : Type 0 where
  pub leaf : Leaf
  pub serial : ℕ
