use Rattle.std.proofs.Common.{◌≡◌, ◌<◌, false, length, refl, arith, rules, vec_len}
use Rattle.plan_lines.specs.Plans.{IsPlanOf, texts as texts_of}
use Rattle.relayctl.proofs.Dropping.{some_there}
use Rattle.relayctl.proofs.drops.say_missing.Goals as goal

pub returns : goal.returns
returns g c =
    let lines = c.in_ok-lines.lines in
    let is : IsPlanOf c.args.text.now (texts_of c.args.confs.now) c.in-Ok.plan = search rules in
    let not : c.is_empty.result ≡ false = search rules in
    let long : 0 < vec_len lines = some_there (vec_len lines) c.is_empty.result c.is_empty.ensures not in
    let some : 0 < length lines.items = omega arith in
    record { plan = c.in-Ok.plan; plan_is = is; listed = c.in_ok-lines.ensures; some = some; is_status = refl }
