-- Appends that wait for their receipts.
use Rattle.std.specs.Prelude.{ℕ, ◌≡◌, ◌≢◌, ◌<◌, ◌+◌, ◌⊎◌, ◌++◌, List, [], ◌∷◌, length, map, All, AllPairs}
use Rattle.book_audit.specs.declared.line.Leaf.{Leaf}
use Rattle.book_audit.specs.declared.line.Line.{Line}
use Rattle.ack_receipt.specs.Books.{IsWaiting}
use Rattle.ack_receipt.specs.declared.past.Written.{Written}
use Rattle.buffer_store.specs.declared.fault.BufferFault.TheVariants.{Failed, Fault, Memory}
use Rattle.ack_receipt.specs.Deliveries.{Appended, Pended}
use Rattle.ack_receipt.specs.declared.fault.RedeemFault.{RedeemFault}
use Rattle.ack_receipt.specs.declared.fault.RedeemFault.TheVariants.{Buffer, Stranger}

-- what the book says of the append
abbrev pub line_of : Pended → Line
line_of pending = record {
  delivery = pending.delivery;
  serial = pending.serial;
  count = pending.count;
}

-- the append is of the buffer of this name, and waits for a receipt in its book
pub record IsRedeemable (leaf : Leaf) (waiting : List (ℕ × Line)) (pending : Pended) : Type 0 where
  pub own : pending.leaf ≡ leaf
  pub waits : IsWaiting waiting pending.place (line_of pending)

-- no two of them are one append
abbrev pub AreApart : List Pended → Type 0
AreApart pendings = AllPairs (λ one other. one.place ≢ other.place) pendings

-- receipts can be made of all of them
abbrev pub CanRedeem : Leaf → List (ℕ × Line) → List Pended → Type 0
CanRedeem leaf waiting pendings = All (IsRedeemable leaf waiting) pendings × AreApart pendings

-- their appends are among the first so many
abbrev pub AreBefore : ℕ → List Pended → Type 0
AreBefore count pendings = All (λ pending. pending.place < count) pendings

-- what a receipt and its pending have in common: the delivery, the buffer and the chunk
pub record Origin : Type 0 where
  pub delivery : ℕ
  pub leaf : Leaf
  pub serial : ℕ

-- of a receipt
abbrev pub origin_of : Appended → Origin
origin_of receipt = record {
  delivery = receipt.delivery;
  leaf = receipt.leaf;
  serial = receipt.serial;
}

-- of an append that waits for one
abbrev pub origin_of_pending : Pended → Origin
origin_of_pending pending =
    record { delivery = pending.delivery; leaf = pending.leaf; serial = pending.serial }

-- the receipts are of the buffer of this name, and those of the pendings, in order
pub record AreReceiptsOf (leaf : Leaf) (pendings : List Pended)
    (receipts : List Appended) : Type 0 where
  pub same : map origin_of receipts ≡ map origin_of_pending pendings
  pub own : All (λ pending. pending.leaf ≡ leaf) pendings

-- the line that the book writes for the append
abbrev pub written_of : Pended → Written
written_of pending = record { place = pending.place; line = line_of pending }

-- a number for each of the appends, from this one on
unfoldable pub numbers_from : ℕ → List Pended → List ℕ
numbers_from number [] = []
numbers_from number (pending ∷ pendings) = number ∷ numbers_from (number + 1) pendings

-- The book has a line for each of the appends behind those that it had, in order, and each receipt
-- names its own.
pub record AreWritten (pendings : List Pended) (receipts : List Appended)
    (old new : List Written) : Type 0 where
  pub lines : new ≡ old ++ map written_of pendings
  pub named : map (λ receipt. receipt.line) receipts ≡ numbers_from (length old) pendings

-- Why they get none: one of them is of another buffer, the device fails the buffer or did so
-- before, or there is no memory.
abbrev pub IsUnredeemed : RedeemFault → Type 0
IsUnredeemed fault = (fault ≡ Stranger)
    ⊎ ((fault ≡ Buffer Failed) ⊎ ((fault ≡ Buffer Memory) ⊎ (fault ≡ Buffer Fault)))
