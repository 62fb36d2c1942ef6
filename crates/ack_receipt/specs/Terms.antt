-- What contracts see of a shared buffer.
use Rattle.book_audit.specs.declared.line.Leaf.{Leaf}
use Rattle.ack_receipt.specs.declared.takes.Takes.{Takes}

-- the name of a buffer, and what lets its chunks go
pub record Terms (A : Type 0) : Type 0 where
  pub leaf : Leaf
  pub takes : Takes A
