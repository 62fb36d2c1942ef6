-- What a buffer of a relay sends, and to which servers.
use Rattle.std.proofs.Common.{Bor, option_copied, ◌≡◌, ℕ, List, length, ◌<◌, ◌≤◌, arith, Option, Some, None, refl, sym, ap, subst, ◌∙◌, ◌↔◌, Contains}
use Rattle.std.proofs.lemmas.Option.{same_Some}
use Rattle.relay_conf.specs.declared.output.BufferNo.{BufferNo}
use Rattle.relay_conf.specs.declared.output.Output.{Output}
use Rattle.relay_conf.specs.declared.output.Server.{Server}
use Rattle.relay_net.specs.Network.{Network, entrance, output_at, address_of_server, prefix_at, tag_at}
use Rattle.relay_net.specs.Outputs.{servers_of}
use Rattle.relay_net.specs.Ways.{table_at}
use Rattle.relay_net.specs.declared.address.Entrance.{Entrance}
use Rattle.route_graph.specs.Listing.{numbers_of}
use Rattle.route_graph.specs.Ways.{IsLeaf, IsLoop}
use Rattle.relay_net.specs.Routed.{ComesTo, LeadsOn, SendsTo}
use Rattle.relay_net.proofs.Sending.{number_in, leaf_of, sends_by, sent_from}
use Rattle.relay_net.specs.Addresses.{Address}
use Rattle.tag_pattern.specs.Parts.{most_tag_bytes}
use Rattle.tag_pattern.specs.Prefixes.{entered_tag}
use Rattle.way_listing.specs.Sendings.{Sending, Through, GoesOn, sending}

module _ {A : Type 0} (net : Network A) (place buffer : ℕ) (tag : List ℕ) (output : Output A) (there : output_at net place buffer ≡ Some output) (next : Sending) where
  pub by_server : Through (λ (server : Server A) (x : Sending). sending (address_of_server server) tag ≡ x) (servers_of output) next → SendsTo net place buffer next.address × (next.tag ≡ tag)
  by_server h = (
    subst (SendsTo net place buffer) (ap (λ (x : Sending). x.address) h.2) (sends_by net place buffer output there h.0 h.1),
    sym (ap (λ (x : Sending). x.tag) h.2),
  )

  pub sent_by : SendsTo net place buffer next.address × (next.tag ≡ tag) → Through (λ (server : Server A) (x : Sending). sending (address_of_server server) tag ≡ x) (servers_of output) next
  sent_by h =
      let s = sent_from net place buffer output there next.address h.0 in
      (s.0, s.1, λ i. record { address = s.2 i; tag = sym h.1 i })

-- An event comes in there and bears this tag; its way ends, at these leaves.
module _ {A : Type 0} (net : Network A) (here : Sending) (at : Entrance) (enters : entrance net here.address ≡ Some at) (tag : List ℕ) (is : tag ≡ tag_at net here.address here.tag) (short : length tag ≤ most_tag_bytes)
    (leaves : List BufferNo) (ends : ¬ IsLoop (table_at net at.relay) tag at.scope) (are : (buffer : ℕ) → Contains (numbers_of leaves) buffer ↔ IsLeaf (table_at net at.relay) tag at.scope buffer) (next : Sending) where
  pub by_leaf : Through (λ (leaf : BufferNo) (x : Sending). SendsTo net at.relay leaf.0 x.address × (x.tag ≡ tag)) leaves next → GoesOn net here next
  by_leaf h = record {
    leads = record {
      at = at;
      buffer = h.0.0;
      enters = enters;
      comes = subst (λ t. ComesTo net at t h.0.0) is (record { ends = ends; leaf = (are h.0.0).0 (number_in leaves h.0 h.1) });
      sends = h.2.0;
      borne_is = h.2.1 ∙ is;
    };
    short = subst (λ t. length t ≤ most_tag_bytes) (sym h.2.1) short;
  }

  pub of_leaf : GoesOn net here next → Through (λ (leaf : BufferNo) (x : Sending). SendsTo net at.relay leaf.0 x.address × (x.tag ≡ tag)) leaves next
  of_leaf n =
      let same : n.leads.at ≡ at = same_Some n.leads.at at (sym n.leads.enters ∙ enters) in
      let comes = subst (λ e. ComesTo net e tag n.leads.buffer) same (subst (λ t. ComesTo net n.leads.at t n.leads.buffer) (sym is) n.leads.comes) in
      let sends = subst (λ (e : Entrance). SendsTo net e.relay n.leads.buffer next.address) same n.leads.sends in
      let l = leaf_of leaves n.leads.buffer ((are n.leads.buffer).1 comes.leaf) in
      (l.0, l.1, (subst (λ b. SendsTo net at.relay b next.address) (sym l.2) sends, n.leads.borne_is ∙ sym is))

-- the tag that an event bears where it comes in, by what the prefix there is
pub same_tag : {A : Type 0} (net : Network A) (address : Address) (found : Option (Bor (List ℕ))) (tag given : List ℕ) → option_copied found ≡ prefix_at net address → given ≡ tag → entered_tag (option_copied found) given ≡ tag_at net address tag
same_tag net address found tag given prefix is = ap (λ p. entered_tag p given) prefix ∙ ap (entered_tag (prefix_at net address)) is

-- The events of a message go on in none where it doesn't come in, where they bear too long a tag,
-- and where their way is a loop.
module _ {A : Type 0} (net : Network A) (here next : Sending) where
  pub no_entrance : entrance net here.address ≡ None → GoesOn net here next → ⊥
  no_entrance none n = absurd (let enters = n.leads.enters in cc)

  pub too_long : most_tag_bytes < length (tag_at net here.address here.tag) → GoesOn net here next → ⊥
  too_long long n = (let short = n.short in let same = ap length n.leads.borne_is in absurd (omega (arith, same)))

  pub loops : (at : Entrance) → entrance net here.address ≡ Some at → IsLoop (table_at net at.relay) (tag_at net here.address here.tag) at.scope → GoesOn net here next → ⊥
  loops at enters loop n =
      let same : n.leads.at ≡ at = same_Some n.leads.at at (sym n.leads.enters ∙ enters) in
      let comes = subst (λ (e : Entrance). ComesTo net e (tag_at net here.address here.tag) n.leads.buffer) same n.leads.comes in
      comes.ends loop
