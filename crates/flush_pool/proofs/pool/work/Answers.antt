use Rattle.std.proofs.Common.{ap, subst, ◌∙◌}
use Rattle.flush_pool.specs.Rounds.{HasWorked}
use Rattle.flush_pool.proofs.pool.work.Goals as goal

pub returns : goal.returns
returns g c = subst (λ post. HasWorked g.G.Gate.lets g.C.Courier.gives post c.work.result) (c.work.ensures.post ∙ ap (λ place. place.post) c.new.ensures) (c.work.new.self.acts, c.work.ensures.worked)
