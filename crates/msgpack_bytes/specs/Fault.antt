-- Why bytes have no continuation to an item within the limits.
use Rattle.std.specs.Prelude.{ℕ, ◌≡◌, List, ◌∷◌, ◌++◌, codes}
use Rattle.msgpack_bytes.specs.declared.answers.MsgFault.{MsgFault}
use Rattle.msgpack_bytes.specs.declared.answers.MsgFault.TheVariants.{Reserved, TooDeep, TooLong}
use Rattle.msgpack_bytes.specs.Item.{Item, deepest, IsItemWithin, IsOpen}

-- what is wrong with bytes that no bytes make an item within the limits: too long, if some make one
-- that is longer; too deep, if some make one that nests deeper; and else no item begins so at all,
-- since a c1 stands in the place of one
abbrev pub EndsIn : MsgFault → List ℕ → Type 0
EndsIn TooLong bytes = (more : List ℕ) × Item deepest (bytes ++ more)
EndsIn TooDeep bytes = ((more : List ℕ) → Item deepest (bytes ++ more) → ⊥)
    × ((depth : ℕ) × (more : List ℕ) × Item depth (bytes ++ more))
EndsIn Reserved bytes = (depth : ℕ) (more : List ℕ) → Item depth (bytes ++ more) → ⊥

-- the shortest beginning of the bytes that has no continuation, and what is wrong with it:
-- no bytes make it an item within the limits, and each shorter beginning is open
pub record IsFaulty (fault : MsgFault) (bytes : List ℕ) : Type 0 where
  pub shortest : List ℕ
  pub rest : List ℕ
  pub whole : bytes ≡ shortest ++ rest
  pub closed : (more : List ℕ) → IsItemWithin (shortest ++ more) → ⊥
  pub before : (front more : List ℕ) (byte : ℕ) → shortest ≡ front ++ byte ∷ more → IsOpen front
  pub ends : EndsIn fault shortest

-- the code that is printed for a fault
abbrev pub fault_code : MsgFault → List ℕ
fault_code Reserved = codes "M1"
fault_code TooDeep = codes "M2"
fault_code TooLong = codes "M3"
