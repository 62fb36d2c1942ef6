use Rattle.std.proofs.Common.{ap, sym, subst, ◌∙◌}
use Rattle.std.specs.Prelude.{IfSome}
use Rattle.buffer_state.specs.State.{State, IsAt}
use Rattle.buffer_state.specs.Steps.{reopened}
use Rattle.buffer_state.specs.declared.chunk.Stage.TheVariants.{Queued, Claimed}
use Rattle.buffer_state.proofs.Serials.{if_some}
use Rattle.buffer_store.specs.Buffers.{Held}
use Rattle.buffer_store.specs.Durability.{BeganWell, IsDurable, KeepsClaims}
use Rattle.buffer_store.specs.Logs.{held_of}
use Rattle.buffer_store.proofs.Lasting.{lasts_each, endures_each}
use Rattle.buffer_store.proofs.Told.{claims_same, durable_same}
use Rattle.buffer_store.proofs.Claims.{claim_counts, claim_takes}
use Rattle.buffer_store.proofs.ShortTags.{tags_claimed}
use Rattle.buffer_store.proofs.buffer.Buffer.claim.Goals as goal

pub invariant_of-self : goal.invariant_of-self
invariant_of-self g c =
    let counts = ap reopened c.claim.ensures.state ∙ claim_counts c.self.inside.chunks c.claim.result c.claim.ensures.first (λ s e. if_some c.claim.result (IsAt Queued c.self.inside.chunks) s c.claim.ensures.queued e) in
    record {
      tags = rw c.claim.ensures.state (tags_claimed c.self.inside.chunks c.self.invariant.tags);
      durable = λ began. durable_same g.D.Dir.is_honest g.D.Dir.history (held_of c.self.inside.log c.self.inside.chunks c.self.inside.settings) c.claim.new.self counts (c.self.invariant.durable began);
    }

pub returns-clause-lasts : goal.returns-clause-lasts
returns-clause-lasts g c = λ began.
    let v = c.self.view_is in
    let counts = ap reopened c.claim.ensures.state ∙ claim_counts c.self.inside.chunks c.claim.result c.claim.ensures.first (λ s e. if_some c.claim.result (IsAt Queued c.self.inside.chunks) s c.claim.ensures.queued e) in
    let new : Held g.row.D.Denot = held_of c.self.inside.log c.claim.new.self c.self.inside.settings in
    let began0 : BeganWell g.D.Dir.is_honest g.D.Dir.history (held_of c.self.inside.log c.self.inside.chunks c.self.inside.settings) = subst (λ (b : Held g.row.D.Denot). BeganWell g.D.Dir.is_honest g.D.Dir.history b) (sym v) began in
    let durable : IsDurable g.D.Dir.is_honest g.D.Dir.history new = durable_same g.D.Dir.is_honest g.D.Dir.history (held_of c.self.inside.log c.self.inside.chunks c.self.inside.settings) c.claim.new.self counts (c.self.invariant.durable began0) in
    let taken : IfSome c.claim.result (IsAt Claimed c.claim.new.self) = subst (λ (state : State). IfSome c.claim.result (IsAt Claimed state)) (sym c.claim.ensures.state) (claim_takes c.self.inside.chunks c.claim.result c.claim.ensures.first c.claim.ensures.queued) in
    lasts_each g.D.Dir.is_honest g.D.Dir.history new c.claim.result durable taken

pub returns-clause-counts : goal.returns-clause-counts
returns-clause-counts g c = ap reopened c.claim.ensures.state
    ∙ claim_counts c.self.inside.chunks c.claim.result c.claim.ensures.first (λ s e. if_some c.claim.result (IsAt Queued c.self.inside.chunks) s c.claim.ensures.queued e)
    ∙ ap (λ (b : Held g.row.D.Denot). reopened b.chunks) c.self.view_is

pub returns-clause-taken : goal.returns-clause-taken
returns-clause-taken g c = subst (λ (b : Held g.row.D.Denot). IfSome c.claim.result (IsAt Claimed c.claim.new.self)) c.self.view_is
    (subst (λ (state : State). IfSome c.claim.result (IsAt Claimed state)) (sym c.claim.ensures.state) (claim_takes c.self.inside.chunks c.claim.result c.claim.ensures.first c.claim.ensures.queued))

pub returns-clause-endures : goal.returns-clause-endures
returns-clause-endures g c = λ began.
    let v = c.self.view_is in
    let counts = ap reopened c.claim.ensures.state ∙ claim_counts c.self.inside.chunks c.claim.result c.claim.ensures.first (λ s e. if_some c.claim.result (IsAt Queued c.self.inside.chunks) s c.claim.ensures.queued e) in
    let new : Held g.row.D.Denot = held_of c.self.inside.log c.claim.new.self c.self.inside.settings in
    let began0 : BeganWell g.D.Dir.is_honest g.D.Dir.history (held_of c.self.inside.log c.self.inside.chunks c.self.inside.settings) = subst (λ (b : Held g.row.D.Denot). BeganWell g.D.Dir.is_honest g.D.Dir.history b) (sym v) began in
    let durable : IsDurable g.D.Dir.is_honest g.D.Dir.history new = durable_same g.D.Dir.is_honest g.D.Dir.history (held_of c.self.inside.log c.self.inside.chunks c.self.inside.settings) c.claim.new.self counts (c.self.invariant.durable began0) in
    let taken : IfSome c.claim.result (IsAt Claimed c.claim.new.self) = subst (λ (state : State). IfSome c.claim.result (IsAt Claimed state)) (sym c.claim.ensures.state) (claim_takes c.self.inside.chunks c.claim.result c.claim.ensures.first c.claim.ensures.queued) in
    endures_each g.D.Dir.is_honest g.D.Dir.history new c.claim.result durable taken

pub returns-clause-claims : goal.returns-clause-claims
returns-clause-claims g c =
    let counts = ap reopened c.claim.ensures.state ∙ claim_counts c.self.inside.chunks c.claim.result c.claim.ensures.first (λ s e. if_some c.claim.result (IsAt Queued c.self.inside.chunks) s c.claim.ensures.queued e) in
    subst (λ (b : Held g.row.D.Denot). KeepsClaims g.D.Dir.history b (held_of c.self.inside.log c.claim.new.self c.self.inside.settings)) c.self.view_is
    (claims_same g.D.Dir.history (held_of c.self.inside.log c.self.inside.chunks c.self.inside.settings) c.claim.new.self counts)
