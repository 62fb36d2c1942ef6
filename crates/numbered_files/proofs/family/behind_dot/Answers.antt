use Rattle.std.proofs.Common.{◌≡◌, rules, arith, [], ◌∷◌, Some, None}
use Rattle.std.proofs.lemmas.Bool.Decides.{Decides-eqb}
use Rattle.std.proofs.lemmas.Slice.Eq.{strip_prefix_is}
use Rattle.std.proofs.lemmas.Grind.{common_steps}
use Rattle.numbered_files.proofs.Parts.{no_front, front_dot}
use Rattle.numbered_files.proofs.family.behind_dot.Goals as goal

pub returns-in-Some : goal.returns-in-Some
returns-in-Some c =
    let dot : c.as_slice.result.now ≡ 46 ∷ [] = first_of (search rules, grind (arith, common_steps), cc) in
    front_dot c.args.bytes.now c.args.front.now c.in-Some.rest.now c.as_slice.result.now c.strip_prefix-in-Some.result dot
    (strip_prefix_is Decides-eqb c.args.bytes.now c.args.front.now (Some c.in-Some.rest) c.in-Some.ensures.cases)
    (strip_prefix_is Decides-eqb c.in-Some.rest.now c.as_slice.result.now c.strip_prefix-in-Some.result c.strip_prefix-in-Some.ensures.cases)

pub returns-in-None : goal.returns-in-None
returns-in-None c = no_front c.args.bytes.now c.args.front.now (strip_prefix_is Decides-eqb c.args.bytes.now c.args.front.now None c.in-None.ensures.cases)
