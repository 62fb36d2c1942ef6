-- What a network never loses, and where what it holds came from.
use Rattle.std.specs.Prelude.{◌≡◌, ℕ, All, Any, Contains}
use Rattle.custody_store.specs.Buffers.{Event}
use Rattle.loss_rules.specs.declared.label.Duty.{Duty}
use Rattle.loss_rules.specs.declared.label.Duty.TheVariants as duty
use Rattle.custody_store.specs.Book.{Message, Told}
use Rattle.custody_store.specs.declared.sender.Sender.TheVariants as sender
use Rattle.relay_net.specs.Network.{Network}
use Rattle.relay_net.specs.Routed.{IsRoutedTag}
use Rattle.custody_steps.specs.Branches.{IsKeptEvery}
use Rattle.custody_steps.specs.Held.{IsKept}
use Rattle.custody_steps.specs.World.{World}

-- The message has this event's entry, a client sent it, and the event's tag is one that it may
-- bear.
pub record IsOriginOf {A : Type 0} (net : Network A) (event : Event)
    (message : Message) : Type 0 where
  pub client : (number : ℕ) × (message.sender ≡ sender.Client number)
  pub tag : IsRoutedTag net message.address message.tag event.tag
  pub entry : Contains message.entries event.entry

-- An acknowledged event is kept as a plan asks: a buffer or a sink has it, under a tag that it may
-- bear; or, under the duty every, it is kept along each branch of its way.
abbrev pub IsKeptAs : {A : Type 0} → Duty → Network A → World → Told → Type 0
IsKeptAs duty.Any net w told = IsKept net w told
IsKeptAs duty.Every net w told = IsKeptEvery net w told

-- Every event that was acknowledged to a client is held, under a tag that it may bear.
abbrev pub NothingIsLost : {A : Type 0} → Network A → World → Type 0
NothingIsLost net w = All (IsKept net w) w.acknowledged

-- Every event that was acknowledged to a client comes to a buffer, and is kept by each buffer that
-- it comes to, or further on from there.
abbrev pub EachBranchKeeps : {A : Type 0} → Network A → World → Type 0
EachBranchKeeps net w = All (IsKeptEvery net w) w.acknowledged

-- Whatever is in a sink was sent by a client.
abbrev pub NothingIsMadeUp : {A : Type 0} → Network A → World → Type 0
NothingIsMadeUp net w = (place buffer : ℕ)
    → All (λ event. Any (IsOriginOf net event) w.messages) (w.buffers place buffer).sink
