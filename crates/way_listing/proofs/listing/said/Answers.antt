use Rattle.std.proofs.Common.{rules, refl, inl, ◌≡◌, ◌∙◌, codes}
use Rattle.std.specs.Prelude.{Some}
use Rattle.std.proofs.lemmas.Result.{IfOk-weaker}
use Rattle.relay_net.specs.Network.{entrance, tag_at}
use Rattle.way_listing.specs.Lines.{folder_at, IsBehind}
use Rattle.way_listing.proofs.Joining.{three}
use Rattle.way_listing.proofs.listing.said.Goals as goal

pub returns : goal.returns
returns g c =
    let plan = c.args.plan.now in
    let sent = c.args.sent.now in
    let at = c.in-Some.at in
    let behind = c.in_ok-behind.behind.items in
    let enters : entrance plan.net sent.address ≡ Some at = search rules in
    let is_behind : IsBehind plan.net at (tag_at plan.net sent.address sent.tag) behind = search rules in
    IfOk-weaker c.joined.result _ _ (λ text is. inl (record {
      at = at;
      enters = enters;
      behind = behind;
      is_behind = is_behind;
      text_is = three (codes " ") (folder_at plan at.relay) behind _ _ _ text.items refl (c.as_bytes.ensures.value ∙ c.folder-folder.ensures) c.deref.ensures.value is;
    })) c.joined.ensures
