-- What is answered on a message that is begun, or acknowledged from outside.
use Rattle.std.proofs.Common.{◌≡◌, ℕ, ◌<◌, length, true, false, List, Option, Some, None, Err, refl, sym, ◌∙◌, arith, is_some, option_map, slice_get}
use Rattle.std.proofs.lemmas.Bool.{false≢true}
use Rattle.std.proofs.lemmas.Option.{slice_get_within}
use Rattle.custody_store.specs.Book.{Message}
use Rattle.relay_net.specs.Network.{Network, entrance}
use Rattle.relay_net.specs.Ways.{HasLoop}
use Rattle.relay_net.specs.declared.address.Entrance.{Entrance}
use Rattle.step_lines.specs.declared.step.Step.TheVariants as step
use Rattle.custody_steps.specs.Rules.{Allowed}
use Rattle.custody_steps.specs.Steps.{Answers, MayRunOut, tag_of}
use Rattle.custody_steps.specs.World.{World}
use Rattle.custody_steps.specs.declared.fault.StepFault.TheVariants as fault
use Rattle.custody_steps.proofs.Delivered.{got_within}
use Rattle.tag_pattern.specs.Parts.{most_tag_bytes}

none_within : {X : Type 0} (xs : List X) (n : ℕ) → None ≡ slice_get xs n → ¬ (n < length xs)
none_within xs n e h = let x = got_within xs n h in let at = x.1 in absurd (cc)

-- none of them has the number that something was looked up for in vain
pub none_shown : {X Y : Type 0} (xs : List X) (n : ℕ) (f : X → Y) → None ≡ option_map f (slice_get xs n) → ¬ (n < length xs)
none_shown xs n f e h = let x = got_within xs n h in let shown = rw x.1 at e in absurd (cc)

none_some : {X : Type 0} (o : Option X) → o ≡ None → is_some o ≡ true → ⊥
none_some o e h = false≢true (rw e at h)

none_of : {X : Type 0} (o : Option X) → is_some o ≡ false → o ≡ None
none_of None e = refl
none_of (Some x) e = absurd (false≢true (sym e))

module _ {A : Type 0} (net : Network A) (w : World) (number : ℕ) where
  -- No message has this number.
  module _ (e : None ≡ slice_get w.messages number) where
    pub none_begins : Answers net w (step.Begin number) w (Err fault.NoSuch)
    none_begins = (none_within w.messages number e, refl)

    pub none_outside : Answers net w (step.Foreign number) w (Err fault.NoSuch)
    none_outside = (none_within w.messages number e, refl)

  -- This message has it.
  module _ (m : Message) (at : Some m ≡ slice_get w.messages number) where
    pub is_there : number < length w.messages
    is_there = slice_get_within w.messages number m (sym at)

    pub nowhere : None ≡ entrance net m.address → Answers net w (step.Begin number) w (Err fault.NotAllowed)
    nowhere none = (is_there, λ h. (rw (← at, ← none) at h), refl)

    -- It comes in there.
    module _ (place : Entrance) (comes : Some place ≡ entrance net m.address) where
      pub known : MayRunOut net w (step.Begin number)
      known = rw (← at, ← comes) refl

      pub no_room : Answers net w (step.Begin number) w (Err fault.Memory)
      no_room = (is_there, known, refl)

      pub too_long : most_tag_bytes < length (tag_of net m) → Answers net w (step.Begin number) w (Err fault.NotAllowed)
      too_long long = (is_there, λ h. (let c = rw (← at, ← comes) at h in let short = c.0 in omega arith), refl)

      pub loops : HasLoop net place (tag_of net m) m.entries → Answers net w (step.Begin number) w (Err fault.NotAllowed)
      loops loop = (is_there, λ h. (let c = rw (← at, ← comes) at h in c.1 loop), refl)

    module _ (r : Option Entrance) (is : r ≡ entrance net m.address) where
      pub comes_in : true ≡ is_some r → Answers net w (step.Foreign number) w (Err fault.NotAllowed)
      comes_in some = (is_there, λ h. (let none = rw (← at) at h in none_some r (is ∙ none) (sym some)), refl)

      pub from_outside : false ≡ is_some r → Allowed net w (step.Foreign number)
      from_outside none = rw (← at) (sym is ∙ none_of r (sym none))
