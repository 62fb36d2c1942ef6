use Rattle.std.proofs.lemmas.Bool.{not-true, both_ways}
use Rattle.tag_pattern.specs.Parts.{parts_of}
use Rattle.tag_pattern.proofs.Sets.{common_meets}
use Rattle.tag_pattern.proofs.comparison.apart.Goals as goal

pub returns-clause-none_common : goal.returns-clause-none_common
returns-clause-none_common g c apart tag left right =
    let meet = common_meets c.args.pattern.now c.args.other.now (parts_of tag) left right in
    let met = rw (c.items.ensures.items, c.items-2.ensures.items) at c.compare.ensures in
    both_ways c.compare.result (not-true c.compare.result apart) (met.1 meet)
