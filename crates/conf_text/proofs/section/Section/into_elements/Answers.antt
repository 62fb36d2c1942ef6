use Rattle.std.proofs.Common.{◌<◌, ◌∷◌, length, map, Ok, sym, ◌∙◌, ap, arith}
use Rattle.std.proofs.lemmas.Bool.Decides.{nat_tests}
use Rattle.conf_text.specs.Reading.{headed}
use Rattle.std.specs.Prelude.{string_bytes}
use Rattle.conf_text.specs.Trees.{Tree, tree, trees}
use Rattle.conf_text.specs.Views.{setting, tree_of}
use Rattle.conf_text.proofs.Elements.{tree_of_roll}
use Rattle.conf_text.proofs.Stacks.{first_some}
use Rattle.conf_text.proofs.section.Section.into_elements.Goals as goal

pub returns : goal.returns
returns g c =
    let len = c.args.self.pairs.ok.0 in
    let some : 0 < length c.args.self.pairs.items = grind (arith, nat_tests) in
    let heading = headed (string_bytes c.args.self.name) (string_bytes c.args.self.argument) c.args.self.line in
    let settings = map setting c.args.self.pairs.items in
    let rolled = tree_of_roll {A = g.row.A.Denot} (record { name = c.args.self.name; argument = c.args.self.argument; line = c.args.self.line; pairs = c.args.self.pairs; children = c.new.result }) in
    let first = rolled ∙ ap (λ cs. tree heading settings (trees (map tree_of cs))) c.new.ensures.items in
    rw (c.in_ok-insert.ensures.items, first_some setting heading c.args.self.pairs.items (map tree_of c.args.self.children.items) some) (ap (λ (t : Tree). Ok (t ∷ map tree_of c.args.self.children.items)) (sym first))
