use Rattle.std.proofs.Common.{◌≡◌, ◌⊎◌, false, None, IsSomeAnd, sym, ◌∙◌, inl, inr}
use Rattle.std.proofs.lemmas.Bool.{false≢true, not-true}
use Rattle.relay_net.specs.Network.{output_at}
use Rattle.custody_steps.specs.Steps.{Forwards}
use Rattle.custody_steps.specs.WorldOf.{world_of}
use Rattle.custody_steps.proofs.Forwarding.{unless, not_done, may_end}
use Rattle.custody_steps.proofs.Named.{there, live}
use Rattle.custody_steps.proofs.Views.{named_changed}
use Rattle.custody_steps.proofs.world.World.done.Goals as goal
use Rattle.custody_steps.proofs.world.World.done.Goals.{then-not-is_forwarded-via-then-not-is_forwarded, then-not-is_forwarded-via-else-not-is_forwarded+then-not-found}

pub returns-then-not-is_forwarded-clause-answer : goal.returns-then-not-is_forwarded-clause-answer
returns-then-not-is_forwarded-clause-answer g c =
    let w = c.args.self.now in
    let found = c.in_ok-found.found in
    let why : (¬ IsSomeAnd (output_at w.net.now found.place found.buffer) (Forwards false)) ⊎ (found.look.forwarded ≡ false) = elim c.then-not-is_forwarded.branch [
      | then-not-is_forwarded-via-then-not-is_forwarded x ↦ inl (λ h. false≢true (sym x.if-not-is_forwarded.true ∙ c.is_forwarded.ensures.1 h))
      | then-not-is_forwarded-via-else-not-is_forwarded+then-not-found x ↦ inr (not-true found.look.forwarded x.if-not-found.true)
    ] in
    not_done w.net.now (world_of w) c.args.name.now found c.in_ok-found.ensures.found.0 why

pub remove-requires : goal.remove-requires
remove-requires g c =
    let w = c.args.self.now in
    record { live = live w.net.now (world_of w) c.args.name.now c.in_ok-found.found c.in_ok-found.ensures.found.0 }

pub returns-clause-answer : goal.returns-clause-answer
returns-clause-answer g c =
    let w = c.args.self.now in
    let net = w.net.now in
    let name = c.args.name.now in
    let found = c.in_ok-found.found in
    let f = c.in_ok-found.ensures.found in (
      there net (world_of w) name found f.0,
      may_end net (world_of w) name found f.0 f.1 (c.is_forwarded.ensures.0 c.if-not-is_forwarded.false) (unless found.look.forwarded c.if-not-found.false),
      c.remove.ensures.world ∙ named_changed net (world_of w) name found f.0 (world_of w) (λ chunk. None),
    )
