use Rattle.std.proofs.Common.{ap, ◌∙◌}
use Rattle.std.specs.List.{list_all}
use Rattle.relay_conf.specs.declared.output.Output.{Output}
use Rattle.label_plan.specs.Clashes.{are_apart}
use Rattle.label_plan.proofs.sink.is_free_of_match.Goals as goal

pub returns : goal.returns
returns g c = c.are_all_apart.ensures ∙ ap (list_all (λ (o : Output g.row.A.Denot). are_apart o c.args.sink.now)) c.deref.ensures.value
