use Rattle.std.proofs.Common.{rules, ◌≡◌, List, length, map, subst}
use Rattle.std.specs.Prelude.{string_bytes}
use Rattle.plan_lines.specs.Plans.{texts}
use Rattle.conf_listing.specs.Networks.{AreTextsOf}
use Rattle.conf_listing.specs.declared.outcome.AdaptedConf.{AdaptedConf}
use Rattle.conf_listing.proofs.EachConf.{all_adapted, as_many}
use Rattle.conf_listing.proofs.confs.adapt_confs.Goals as goal

pub noted_in-requires : goal.noted_in-requires
noted_in-requires g c =
    let many : length c.in_ok-outcomes.outcomes.items ≡ length c.args.confs.now = as_many (map string_bytes c.args.accepted.now) c.args.confs.now c.in_ok-outcomes.outcomes.items c.in_ok-outcomes.ensures in
    cc

pub returns-in-Some : goal.returns-in-Some
returns-in-Some g c =
    let said : AreTextsOf c.deref.result.now (texts c.in-Some.texts.items) = search rules in
    all_adapted (map string_bytes c.args.accepted.now) (texts c.args.confs.now) c.in_ok-outcomes.outcomes.items (texts c.in-Some.texts.items) c.in_ok-outcomes.ensures
    (subst (λ (os : List (AdaptedConf g.row.A.Denot)). AreTextsOf os (texts c.in-Some.texts.items)) c.deref.ensures.value said)

pub stopped-requires : goal.stopped-requires
stopped-requires g c =
    let many : length c.in_ok-outcomes.outcomes.items ≡ length c.args.confs.now = as_many (map string_bytes c.args.accepted.now) c.args.confs.now c.in_ok-outcomes.outcomes.items c.in_ok-outcomes.ensures in
    cc
