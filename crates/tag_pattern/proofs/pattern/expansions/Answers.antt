use Rattle.std.proofs.Common.{◌≤◌, length, arith}
use Rattle.std.proofs.lemmas.List.{length-map, take_all}
use Rattle.tag_pattern.specs.Grammar.{plain_patterns}
use Rattle.tag_pattern.specs.Items.{item_of, items_of}
use Rattle.tag_pattern.proofs.Readings.{short, read_more, same_count}
use Rattle.tag_pattern.proofs.pattern.expansions.Goals as goal

pub new-requires : goal.new-requires
new-requires g c =
    let slots = c.requires.0 in
    let items = c.in_ok-expansion.field-0.items in
    let few : length (items_of items) ≤ 32 = short slots c.loop-number.number _ c.requires.1.few (omega (arith, c.requires.2)) (c.in_ok-expansion.ensures slots c.requires.1.spelled) in
    omega (arith, length-map items item_of)

pub loop-number-preserved : goal.loop-number-preserved
loop-number-preserved g c slots h =
    let count = same_count c.requires.0 slots c.args.text.now c.args.plains c.requires.1.spelled h c.requires.2 in
    rw (c.in_ok-push.ensures.items, c.new.ensures) (read_more slots c.loop-number.number _ _ (omega arith) (c.loop-number.invariant slots h) (c.in_ok-expansion.ensures slots h))

pub returns : goal.returns
returns g c slots h =
    let count = same_count c.requires.0 slots c.args.text.now c.args.plains c.requires.1.spelled h c.requires.2 in
    let all : length (plain_patterns slots) ≤ c.loop-number.number = omega arith in
    rw take_all at (c.loop-number.invariant slots h)
