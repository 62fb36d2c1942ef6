-- Where the rules on labels hold, each labelled tag leads to an output that keeps, and on to where
-- it is labelled.
use Rattle.std.proofs.Common.{◌≡◌, ℕ, List, Option, Some, None, slice_get, refl, All, IsSome}
use Rattle.std.proofs.lemmas.List.Elements.{All-contains}
use Rattle.tag_pattern.specs.Items.{Item}
use Rattle.tag_pattern.specs.Parts.{parts_of}
use Rattle.tag_pattern.specs.Patterns.{IsTagOf}
use Rattle.tag_pattern.specs.Prefixes.{entered_tag}
use Rattle.tag_pattern.proofs.Sets.{subset}
use Rattle.relay_net.specs.Network.{Network, relay_at, entrance, prefix_at, tag_at, address_of_client, address_of_server}
use Rattle.relay_net.specs.Outputs.{servers_of}
use Rattle.relay_net.specs.Ways.{table_at}
use Rattle.relay_net.specs.declared.address.Entrance.{Entrance}
use Rattle.relay_net.specs.declared.node.Client.{Client}
use Rattle.route_graph.specs.Ways.{HaveTag, IsLeaf}
use Rattle.loss_rules.specs.Labels.{FitsLabelWith, IsLabelledTag}
use Rattle.loss_rules.specs.Rules.{IsLabelledClient}
use Rattle.loss_rules.specs.Sites.{BuffersAreDistinct}
use Rattle.loss_rules.specs.declared.label.Label.{Label}
use Rattle.loss_rules.specs.declared.label.Reach.{Reach}
use Rattle.loss_rules.proofs.Passing.{entered-tag}
use Rattle.loss_rules.proofs.Keeping.{KeepingRules}
use Rattle.loss_rules.proofs.Sites.{site-of}
use Rattle.loss_rules.proofs.Ways.{labelled_safe}
use Rattle.custody_store.proofs.Lists.{some_and}
use Rattle.custody_store.proofs.Members.{get-contains}
use Rattle.custody_core.proofs.Serials.{and_some}
use Rattle.custody_core.proofs.Ranked.{Labelling, IsTaken, IsSentOn, LeadOn}

-- a tag of a pattern that fits a label, both with this in front, is one of the label
fits_labelled : {A : Type 0} (labels : List (Label A)) (place scope : ℕ) (prefix : Option (List ℕ)) (pattern : List Item) (tag : List ℕ) → IsTagOf pattern tag → FitsLabelWith labels place scope prefix pattern → IsLabelledTag labels place scope (entered_tag prefix tag)
fits_labelled labels place scope prefix pattern tag has fits =
    let one = fits.4.1 in
    (fits.0, fits.1, fits.2, fits.3, (fits.4.0, (one.0, one.1, one.2, one.3, subset one.4 (parts_of (entered_tag prefix tag)) (entered-tag prefix pattern tag has))))

module _ {A : Type 0} (net : Network A) (labels : List (Label A)) (reaches : List (Reach A)) (distinct : BuffersAreDistinct net) (rules : KeepingRules net labels reaches) where
  -- the tags of the labels
  abbrev pub labelled : Labelling
  labelled = λ at tag. IsLabelledTag labels at.relay at.scope tag

  clients_lead : (number : ℕ) (client : Client A) → slice_get net.clients number ≡ Some client → (tag : List ℕ) → HaveTag client.patterns.items tag → IsTaken net labelled (address_of_client net client) tag
  clients_lead number client at tag has =
      let rule : IsLabelledClient net labels client = All-contains (IsLabelledClient net labels) net.clients client rules.clients (get-contains net.clients client number at) in
      let prefix = prefix_at net (address_of_client net client) in
      let enter = some_and (entrance net (address_of_client net client)) (λ at. All (FitsLabelWith labels at.relay at.scope prefix) client.patterns.items) rule in
      let pattern : List Item = has.1 in
      let fits = All-contains (FitsLabelWith labels enter.0.relay enter.0.scope prefix) client.patterns.items pattern enter.2 (has.0, has.2, has.3) in
      and_some (entrance net (address_of_client net client)) (λ at. labelled at (tag_at net (address_of_client net client) tag)) enter.0 enter.1 (fits_labelled labels enter.0.relay enter.0.scope prefix pattern tag has.4 fits)

  -- what is there is something
  there : {X : Type 0} (o : Option X) → IsSome o → (x : X) × (o ≡ Some x)
  there None h = absurd (cc)
  there (Some x) h = (x, refl)

  servers_lead : (at : Entrance) (tag : List ℕ) → labelled at tag → (buffer : ℕ) → IsLeaf (table_at net at.relay) tag at.scope buffer → IsSentOn net labelled at.relay buffer tag
  servers_lead at tag is buffer leaf o output number server among =
      let inside = get-contains (servers_of o) server number among in
      let site = site-of (relay_at net at.relay) o buffer output in
      let enter = there (entrance net (address_of_server server)) (rules.servers at.relay site.scope site.rule site.output o site.there server inside) in
      and_some (entrance net (address_of_server server)) (λ to. labelled to (tag_at net (address_of_server server) tag)) enter.0 enter.1
      ((labelled_safe net labels reaches distinct rules at.relay at.scope tag is).onward buffer leaf o server enter.0 output inside enter.1)

  -- labelled tags lead on
  pub lead_on : LeadOn net labelled
  lead_on = record {
    clients = clients_lead;
    ends = λ at tag is. (labelled_safe net labels reaches distinct rules at.relay at.scope tag is).no_loop;
    keeps = λ at tag is. (let way = labelled_safe net labels reaches distinct rules at.relay at.scope tag is in (way.buffer, way.leaf, way.keeps));
    sends = servers_lead;
  }
