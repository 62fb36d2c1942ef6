use Rattle.std.proofs.Common.{sym, ap, subst, ◌∙◌}
use Rattle.buffer_state.specs.State.{IsAt}
use Rattle.buffer_state.specs.Steps.{reopened}
use Rattle.buffer_state.specs.declared.chunk.Stage.TheVariants.{Claimed}
use Rattle.buffer_store.specs.Buffers.{Held}
use Rattle.buffer_store.specs.Durability.{KeepsClaims}
use Rattle.buffer_store.specs.Logs.{held_of}
use Rattle.buffer_store.proofs.Told.{claims_same, durable_same}
use Rattle.buffer_store.proofs.Claims.{back_counts}
use Rattle.buffer_store.proofs.ShortTags.{tags_queued}
use Rattle.buffer_store.proofs.buffer.Buffer.give_back.Goals as goal

pub invariant_of-self : goal.invariant_of-self
invariant_of-self g c =
    let claimed : IsAt Claimed c.self.inside.chunks c.args.serial = subst (λ (b : Held g.row.D.Denot). IsAt Claimed b.chunks c.args.serial) (sym c.self.view_is) c.requires in
    record {
      tags = rw c.give_back.ensures (tags_queued c.self.inside.chunks c.args.serial c.self.invariant.tags);
      durable = λ began. durable_same g.D.Dir.is_honest g.D.Dir.history (held_of c.self.inside.log c.self.inside.chunks c.self.inside.settings) c.give_back.new.self
          (ap reopened c.give_back.ensures ∙ back_counts c.self.inside.chunks c.args.serial claimed) (c.self.invariant.durable began);
    }

pub returns-clause-counts : goal.returns-clause-counts
returns-clause-counts g c = ap reopened c.give_back.ensures
    ∙ back_counts c.self.inside.chunks c.args.serial (subst (λ (b : Held g.row.D.Denot). IsAt Claimed b.chunks c.args.serial) (sym c.self.view_is) c.requires)
    ∙ ap (λ (b : Held g.row.D.Denot). reopened b.chunks) c.self.view_is

pub returns-clause-claims : goal.returns-clause-claims
returns-clause-claims g c =
    let claimed : IsAt Claimed c.self.inside.chunks c.args.serial = subst (λ (b : Held g.row.D.Denot). IsAt Claimed b.chunks c.args.serial) (sym c.self.view_is) c.requires in
    subst (λ (b : Held g.row.D.Denot). KeepsClaims g.D.Dir.history b (held_of c.self.inside.log c.give_back.new.self c.self.inside.settings)) c.self.view_is
    (claims_same g.D.Dir.history (held_of c.self.inside.log c.self.inside.chunks c.self.inside.settings) c.give_back.new.self (ap reopened c.give_back.ensures ∙ back_counts c.self.inside.chunks c.args.serial claimed))
