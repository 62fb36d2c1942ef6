use Rattle.std.proofs.Common.{rules, ◌≡◌, ◌++◌, ℕ, List, ap, codes, inl, subst, ◌∙◌}
use Rattle.plan_lines.specs.Plans.{network}
use Rattle.label_plan.specs.OneByOne.{IsMeant}
use Rattle.relayctl.specs.Dropping.{name_text, IsSaidOf}
use Rattle.plan_advice.specs.Sites.{site_line}
use Rattle.relayctl.proofs.Dropping.{on_ok}
use Rattle.relayctl.proofs.drops.put_drop.Goals as goal

pub returns-in_ok-words-in-Ok : goal.returns-in_ok-words-in-Ok
returns-in_ok-words-in-Ok g c =
    let plan = c.args.plan.now in
    let name = c.args.name.now in
    let at = c.in-Ok.at in
    let old = c.args.lines.now.items in
    let new = c.put.new.out.items in
    let file = c.conf_site.result.name.now in
    let line = c.conf_site.result.line in
    let words = c.as_str.result.now in
    let said = codes "  " ++ (name_text name ++ codes " in") in
    let relays : c.relays.result.now ≡ plan.net.relays = c.relays.ensures ∙ ap (λ net. net.relays) c.net.ensures.net in
    let meant : IsMeant plan.net name at = subst (λ rs. IsMeant (network rs plan.net.clients) name at) relays (c.in-Ok.ensures.meant plan.net.clients) in
    let words_are : words ≡ said = search rules in
    let line_is : line ≡ at.line = c.conf_site.ensures in
    on_ok ((shown : List ℕ) × (new ≡ old ++ site_line words file line shown)) ((text : List ℕ) × IsSaidOf plan name text × (new ≡ old ++ text)) c.put.result c.put.ensures (λ (shown, is). (
      site_line words file line shown,
      inl (record { at = at; meant = meant; file = file; shown = shown; text_is = ap (λ w. site_line w file line shown) words_are ∙ ap (λ n. site_line said file n shown) line_is }),
      is,
    ))
