-- What the checker's answer is printed as.
use Rattle.std.specs.Prelude.{ℕ, List, ◌++◌, codes}
use Rattle.std.specs.Fmt.{decimal}
use Rattle.loss_rules.specs.declared.answer.Answer.{Answer}
use Rattle.loss_rules.specs.declared.answer.Answer.TheVariants as answer
use Rattle.loss_rules.specs.declared.answer.Place.{Place}
use Rattle.loss_rules.specs.declared.answer.Place.TheVariants as place
use Rattle.loss_rules.specs.declared.answer.Rule.{Rule}
use Rattle.loss_rules.specs.Breaks.{rule_number}

-- the code of a rule, from `K1` to `K10`
abbrev pub rule_code : Rule → List ℕ
rule_code broken = codes "K" ++ decimal (rule_number broken)

-- a line of the plan, or of a relay's configuration
abbrev pub place_text : Place → List ℕ
place_text (place.Plan line) = codes "plan line " ++ decimal line
place_text (place.Conf relay line) = codes "relay " ++ decimal relay ++ codes " line "
    ++ decimal line

-- `yes`, or `no` with the rule and its place
abbrev pub answer_text : Answer → List ℕ
answer_text answer.Yes = codes "yes"
answer_text (answer.No broken at) = codes "no " ++ rule_code broken ++ codes " " ++ place_text at
