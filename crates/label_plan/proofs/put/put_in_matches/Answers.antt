use Rattle.std.proofs.Common.{refl, vec_len}
use Rattle.label_plan.specs.Changes.{PutsOutputs}
use Rattle.label_plan.proofs.Changing.{changed}
use Rattle.label_plan.proofs.put.put_in_matches.Goals as goal

pub returns : goal.returns
returns g c = changed (PutsOutputs c.args.outputs.items) c.args.rule c.args.matches.now.items (vec_len c.args.matches.now) c.index_mut.result.now _
    c.args.matches.now.ok.0 c.requires c.index_mut.ensures.value (record { patterns_are = refl; line_is = refl; outputs_are = refl })
