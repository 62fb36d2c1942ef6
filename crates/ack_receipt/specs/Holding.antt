-- What an open delivery keeps of its receipts.
use Rattle.std.specs.Prelude.{ℕ, ◌≡◌, ◌≢◌, List, All, AllPairs, Contains, map}
use Rattle.book_audit.specs.declared.line.Leaf.{Leaf}
use Rattle.ack_receipt.specs.Deliveries.{Appended}

-- the buffers that the receipts are of
abbrev pub leaves_of : List Appended → List Leaf
leaves_of receipts = map (λ receipt. receipt.leaf) receipts

-- the receipts are of this delivery and of its buffers, no two of one buffer
pub record IsHeld (number : ℕ) (leaves : List Leaf) (receipts : List Appended) : Type 0 where
  pub own : All (λ receipt. receipt.delivery ≡ number) receipts
  pub there : All (Contains leaves) (leaves_of receipts)
  pub apart : AllPairs (λ first second. first ≢ second) (leaves_of receipts)
