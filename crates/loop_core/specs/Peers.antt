-- A client's connection.
use Rattle.std.specs.Prelude.{ℕ, ◌≡◌, ◌++◌, ◌∷◌, [], ◌⊎◌, Bool, true, false, List, All, Contains, Some, IsSomeAnd, map}
use Rattle.ack_receipt.specs.Reservations.{Answer, Asked, Reservation}
use Rattle.forward_core.specs.Demands.{Wanted, Delivers, Closes}
use Rattle.forward_core.specs.Server.{Outcome, ServerReads, ServerState, after}
use Rattle.relay_ports.specs.Leaves.{Entry, IsRoutedTo}
use Rattle.loop_core.specs.Waits.{Awaited, Waits}
use Rattle.book_audit.specs.Stubs.{Left}
use Rattle.loop_core.specs.Collecting.{IsAbandoned, IsAnswerTo}

-- the connection's source, its session, the deliveries that wait, and whether nothing more is read
pub record PeerState : Type 0 where
  pub entry : Entry
  pub session : ServerState
  pub waits : List Waits
  pub closing : Bool

-- The session read the piece behind what it held unread: what both come to is what the session is
-- then.
pub record IsRead (piece : List ℕ) (old new : ServerState) : Type 0 where
  pub out : Outcome
  pub reads : ServerReads old.phase (old.held ++ piece) out
  pub is : new ≡ after old out

-- whether the connection is to be closed
abbrev pub wants_close : List Wanted → Bool
wants_close [] = false
wants_close (Delivers parts ∷ more) = wants_close more
wants_close (Closes fault ∷ more) = true

-- these deliveries wait on, and any others behind them
pub record GoOnWaiting (old new : List Waits) : Type 0 where
  pub more : List Waits
  pub is : new ≡ old ++ more

-- one more delivery waits, behind them
pub record OneMoreWaits (old new : List Waits) : Type 0 where
  pub one : Waits
  pub is : new ≡ old ++ one ∷ []

-- The session took the answer: its bytes are to be sent behind the others.
pub record IsTaken (reserved : Reservation) (old new : ServerState) : Type 0 where
  pub answer : Answer
  pub filled : reserved.filled ≡ Some answer
  pub is : new ≡ record old {
    outgoing = old.outgoing ++ answer.bytes;
    taken = old.taken ++ reserved ∷ [];
  }

-- the delivery is of a message that was demanded, and goes where that has to go
pub record IsOwed (entry : Entry) (asked : List Asked) (waits : Waits) : Type 0 where
  pub demanded : Contains asked waits.awaited.asked
  pub goes : IsRoutedTo entry waits.awaited.asked waits.awaited.tag waits.awaited.leaves

-- the answer names the tag and the buffers that its message had to be stored under and in
pub record IsEarned (entry : Entry) (reserved : Reservation) : Type 0 where
  pub goes : IsSomeAnd reserved.filled
      (λ answer. IsRoutedTo entry reserved.asked answer.tag answer.leaves)

-- what a connection keeps of the messages that were demanded, the answers that were taken and the
-- deliveries that wait
pub record IsFaithful (entry : Entry) (asked : List Asked) (taken : List Reservation)
    (waits : List Waits) : Type 0 where
  pub owed : All (IsOwed entry asked) waits
  pub earned : All (IsEarned entry) taken

-- what these deliveries wait for
abbrev pub awaited_in : List Waits → List Awaited
awaited_in waits = map (λ w. w.awaited) waits

-- each of these deliveries is among those
abbrev pub AreAmong : List Awaited → List Waits → Type 0
AreAmong before waits = All (λ w. Contains before w.awaited) waits

-- where the settling of a connection's deliveries stands: those that wait on so far, the session,
-- and whether nothing more is read
pub record Standing : Type 0 where
  pub left : List Waits
  pub session : ServerState
  pub closing : Bool

-- The session took the delivery's answer. It can, since none waits on before it.
pub record IsAnswered (waits : Waits) (old new : Standing) : Type 0 where
  pub first : old.left ≡ []
  pub left : new.left ≡ []
  pub reserved : Reservation
  pub answer : IsAnswerTo waits.awaited reserved
  pub taken : IsTaken reserved old.session new.session
  pub closing : new.closing ≡ old.closing

-- the delivery waits on behind the others
pub record WaitsOn (waits : Waits) (old new : Standing) : Type 0 where
  pub on : Waits
  pub same : on.awaited ≡ waits.awaited
  pub left : new.left ≡ old.left ++ on ∷ []
  pub session : new.session ≡ old.session
  pub closing : new.closing ≡ old.closing

-- one of the delivery's buffers gave no receipt, so it ends without an answer
pub record IsRefused (waits : Waits) (old new : Standing) : Type 0 where
  pub stub : Left
  pub missing : IsAbandoned waits.awaited stub
  pub same : new ≡ old

-- There was no memory for its answer, or for it to wait on: it ends without one, and nothing more
-- is read.
abbrev pub IsShutOut : Standing → Standing → Type 0
IsShutOut old new = new ≡ record old { closing = true }

-- what becomes of a delivery: it is answered, or waits on, or ends without an answer
abbrev pub Becomes : Waits → Standing → Standing → Type 0
Becomes waits old new = IsAnswered waits old new
    ⊎ (WaitsOn waits old new ⊎ (IsRefused waits old new ⊎ IsShutOut old new))

-- what becomes of these, in their order
abbrev pub BecomeInOrder : List Waits → Standing → Standing → Type 0
BecomeInOrder [] old new = new ≡ old
BecomeInOrder (waits ∷ more) old new = (between : Standing) × Becomes waits old between
    × BecomeInOrder more between new
