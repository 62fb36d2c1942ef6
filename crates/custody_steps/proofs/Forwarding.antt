-- What is answered where a chunk is sent on, or goes since it was.
use Rattle.std.proofs.Common.{◌≡◌, ℕ, ◌<◌, ◌⊎◌, length, Bool, true, false, Option, Some, None, Err, not, refl, sym, ap, ◌∙◌, inl, inr, IsSome, IsSomeAnd, IfSome, slice_get, rules}
use denote.Enum.Bare.{sameb, same_true}
use Rattle.std.specs.Option.{option_and_then}
use Rattle.std.proofs.lemmas.Bool.{false≢true}
use Rattle.std.proofs.lemmas.Option.{slice_get_within}
use Rattle.custody_store.specs.contracts.chunk.Stage.{the_type}
use Rattle.custody_store.specs.declared.chunk.Stage.{Stage}
use Rattle.custody_store.specs.declared.chunk.Stage.TheVariants.{Claimed}
use Rattle.relay_conf.specs.declared.output.Output.{Output}
use Rattle.relay_conf.specs.declared.output.Output.TheVariants as output
use Rattle.relay_conf.specs.declared.output.Server.{Server}
use Rattle.relay_net.specs.Addresses.{Address}
use Rattle.relay_net.specs.Network.{Network, output_at, address_of_server}
use Rattle.relay_net.specs.Outputs.{servers_of}
use Rattle.step_lines.specs.declared.step.ChunkName.{ChunkName}
use Rattle.step_lines.specs.declared.step.Step.TheVariants as step
use Rattle.custody_steps.specs.Found.{IsFound, chunk_of, sent_on}
use Rattle.custody_steps.specs.Rules.{Names, Allowed, effect}
use Rattle.custody_steps.specs.Steps.{Answers, Forwards, chunk_named, output_named}
use Rattle.custody_steps.specs.World.{World}
use Rattle.custody_steps.specs.declared.fault.StepFault.TheVariants as fault
use Rattle.custody_steps.specs.declared.found.Found.{Found}
use Rattle.custody_steps.proofs.Delivered.{got_within}
use Rattle.custody_steps.proofs.Named.{there, at_stage, of_chunk, of_output, of_named_output, found_stage, forwarded_is}

-- what a test that isn't taken says
pub unless : (b : Bool) → not b ≡ false → b ≡ true
unless true e = refl
unless false e = absurd (false≢true (sym e))

-- the stage that a test for it found
pub claimed_by : (s : Stage) → false ≡ not (sameb the_type s Claimed) → s ≡ Claimed
claimed_by s e = same_true the_type (search rules) s Claimed (unless (sameb the_type s Claimed) (sym e))

either : (b : Bool) → (b ≡ true) ⊎ (b ≡ false)
either true = inl refl
either false = inr refl

none_there : {X : Type 0} (o : Option X) → o ≡ None → ¬ IsSome o
none_there o e h = false≢true (rw e at h)

-- The chunk isn't there.
pub no_chunk : {A : Type 0} (net : Network A) (w : World) (name : ChunkName) (number : ℕ) → chunk_named net w name ≡ None → Answers net w (step.Forward name number) w (Err fault.NoSuch)
no_chunk net w name number e = (λ h. none_there (chunk_named net w name) e h.0, refl)

-- The server of this number of an output that may be there.
module _ {A : Type 0} (number : ℕ) where
  abbrev pub server_of : Option (Output A) → Option (Server A)
  server_of = option_and_then (λ o. slice_get (servers_of o) number)

  without : (o : Option (Output A)) → None ≡ server_of o → ¬ IsSomeAnd o (λ o. number < length (servers_of o))
  without None e h = h
  without (Some o) e h = let x = got_within (servers_of o) number h in let at = x.1 in absurd (cc)

  has_number : (o : Option (Output A)) (to : Server A) → Some to ≡ server_of o → IsSomeAnd o (λ o. number < length (servers_of o))
  has_number None to e = absurd (cc)
  has_number (Some o) to e = slice_get_within (servers_of o) number to (sym e)

  sends_on : (o : Option (Output A)) (to : Server A) → Some to ≡ server_of o → IsSomeAnd o (λ o. Forwards true o ⊎ Forwards false o)
  sends_on None to e = absurd (cc)
  sends_on (Some (output.Null line)) to e = absurd (cc)
  sends_on (Some (output.Relabel target line)) to e = absurd (cc)
  sends_on (Some (output.Forward settings line)) to e = either settings.require_ack_response
  sends_on (Some (output.File settings line)) to e = absurd (cc)

module _ {A : Type 0} (net : Network A) (w : World) (name : ChunkName) (found : Found) (f : IsFound net w name found) (number : ℕ) where
  -- The chunk's output has no server of this number.
  pub no_server : None ≡ server_of number (output_at net found.place found.buffer) → Answers net w (step.Forward name number) w (Err fault.NoSuch)
  no_server e = (λ h. without number (output_at net found.place found.buffer) e (of_named_output net w name found f (λ o. number < length (servers_of o)) h.1), refl)

  -- It has this server.
  module _ (to : Server A) (is : Some to ≡ server_of number (output_at net found.place found.buffer)) where
    pub all_there : Names net w (step.Forward name number)
    all_there = (there net w name found f, of_output net w name found f (λ o. number < length (servers_of o)) (has_number number (output_at net found.place found.buffer) to is))

    pub not_claimed : ¬ (found.look.stage ≡ Claimed) → Answers net w (step.Forward name number) w (Err fault.NotAllowed)
    not_claimed other = (all_there, λ h. other (found_stage net w name found f Claimed _ h), refl)

    pub may_go : found.look.stage ≡ Claimed → Allowed net w (step.Forward name number)
    may_go e = at_stage net w name found f Claimed _ e (of_output net w name found f (λ o. Forwards true o ⊎ Forwards false o) (sends_on number (output_at net found.place found.buffer) to is))

    pub went : (new : World) (address : Address) → address ≡ address_of_server to → IfSome (chunk_of w found) (λ chunk. new ≡ sent_on w found address chunk) → new ≡ effect net w (step.Forward name number)
    went new address same sent =
        let one : new ≡ sent_on w found address f.chunk = rw f.chunk_is at sent in
        rw (f.place_is, f.buffer_is, f.serial_is, f.chunk_is, ← is) (one ∙ ap (λ (a : Address). sent_on w found a f.chunk) same)

module _ {A : Type 0} (net : Network A) (w : World) (name : ChunkName) (found : Found) (f : IsFound net w name found) where
  -- The chunk goes, if its output asks for no acknowledgement and it was sent on.
  pub not_done : (¬ IsSomeAnd (output_at net found.place found.buffer) (Forwards false)) ⊎ (found.look.forwarded ≡ false) → Answers net w (step.Done name) w (Err fault.NotAllowed)
  not_done why = (there net w name found f, λ h. by why (of_chunk net w name found f Claimed _ h), refl)
    where
      by : (¬ IsSomeAnd (output_at net found.place found.buffer) (Forwards false)) ⊎ (found.look.forwarded ≡ false) → IsSomeAnd (output_named net name) (Forwards false) × (f.chunk.forwarded ≡ true) → ⊥
      by (inl asks) p = asks (of_named_output net w name found f (Forwards false) p.0)
      by (inr kept) p = false≢true (sym kept ∙ sym (forwarded_is net w name found f) ∙ p.1)

  pub may_end : found.look.stage ≡ Claimed → IsSomeAnd (output_at net found.place found.buffer) (Forwards false) → found.look.forwarded ≡ true → Allowed net w (step.Done name)
  may_end e asks sent = at_stage net w name found f Claimed _ e (of_output net w name found f (Forwards false) asks, forwarded_is net w name found f ∙ sent)
