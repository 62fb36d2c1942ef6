use Rattle.std.proofs.Common.{◌∙◌, ap, map}
use Rattle.conf_text.specs.Views.{tree_of}
use Rattle.relay_conf.proofs.Trees.{children_are}
use Rattle.relay_conf.proofs.element.children_of.Goals as goal

pub returns : goal.returns
returns g c = ap (λ es. map tree_of es) c.as_slice.ensures.value ∙ children_are c.args.element.now
