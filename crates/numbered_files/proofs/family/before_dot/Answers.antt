use Rattle.std.proofs.Common.{◌≡◌, rules, arith, [], ◌∷◌, Some, None}
use Rattle.std.proofs.lemmas.Bool.Decides.{Decides-eqb}
use Rattle.std.proofs.lemmas.Slice.Eq.{strip_suffix_is}
use Rattle.std.proofs.lemmas.Grind.{common_steps}
use Rattle.numbered_files.proofs.Parts.{no_end, end_dot}
use Rattle.numbered_files.proofs.family.before_dot.Goals as goal

pub returns-in-Some : goal.returns-in-Some
returns-in-Some c =
    let dot : c.as_slice.result.now ≡ 46 ∷ [] = first_of (search rules, grind (arith, common_steps), cc) in
    end_dot c.args.bytes.now c.args.end.now c.in-Some.front.now c.as_slice.result.now c.strip_suffix-in-Some.result dot
    (strip_suffix_is Decides-eqb c.args.bytes.now c.args.end.now (Some c.in-Some.front) c.in-Some.ensures.cases)
    (strip_suffix_is Decides-eqb c.in-Some.front.now c.as_slice.result.now c.strip_suffix-in-Some.result c.strip_suffix-in-Some.ensures.cases)

pub returns-in-None : goal.returns-in-None
returns-in-None c = no_end c.args.bytes.now c.args.end.now (strip_suffix_is Decides-eqb c.args.bytes.now c.args.end.now None c.in-None.ensures.cases)
