-- In the network of a plan no two outputs of a relay share a buffer.
use Rattle.std.proofs.Common.{◌≡◌, ℕ, ◌+◌, List, length, Option, Some, None, slice_get, refl, sym, subst}
use Rattle.std.specs.Prelude.{All, option_map}
use Rattle.std.proofs.lemmas.List.Elements.{All-push, All-nil}
use Rattle.std.proofs.lemmas.Option.{same_Some, slice_get_within, get_or_from_slice_get}
use Rattle.loss_rules.specs.Breaks.{Subject}
use Rattle.loss_rules.specs.Sites.{BuffersAreDistinct}
use Rattle.loss_rules.proofs.Sites.{own-distinct}
use Rattle.relay_conf.specs.Buffers.{HaveOwnBuffers}
use Rattle.relay_conf.proofs.OwnBuffers.{own_buffers}
use Rattle.relay_conf.specs.declared.relay.Relay.{Relay}
use Rattle.relay_net.specs.Network.{Network}
use Rattle.relay_net.specs.declared.node.Node.{Node}
use Rattle.plan_lines.specs.Forms.{nothing, a_relay, a_client, a_label, a_reach, a_duty, no_form, line_form}
use Rattle.plan_lines.specs.Plans.{Say, none, one_more}
use Rattle.plan_lines.proofs.Saying.{Kept}

-- each relay's outputs have buffers of their own
abbrev HaveOwn : {A : Type 0} → List (Node A) → Type 0
HaveOwn nodes = All (λ node. HaveOwnBuffers node.relay) nodes

abbrev HasOwnBuffers : {A : Type 0} → Subject A → Type 0
HasOwnBuffers plan = HaveOwn plan.net.relays

at_place : {A : Type 0} (nodes : List (Node A)) (place : ℕ) (node : Node A) → HaveOwn nodes → slice_get nodes place ≡ Some node → HaveOwnBuffers node.relay
at_place nodes place node own at =
    subst (λ (n : Node _). HaveOwnBuffers n.relay) (get_or_from_slice_get nodes place node node at) (own place node (slice_get_within nodes place node at))

-- so have the network's
distinct : {A : Type 0} (net : Network A) → HaveOwn net.relays → BuffersAreDistinct net
distinct {A} net own = own-distinct net (λ place relay is. by place relay (slice_get net.relays place) refl is)
  where
    by : (place : ℕ) (relay : Relay A) (node : Option (Node A)) → slice_get net.relays place ≡ node → option_map (λ n. n.relay) node ≡ Some relay → HaveOwnBuffers relay
    by place relay None at is = absurd (cc)
    by place relay (Some node) at is = subst HaveOwnBuffers (same_Some node.relay relay is) (at_place net.relays place node own at)

own_buffers_kept : {A : Type 0} → Kept A HasOwnBuffers
own_buffers_kept confs line nothing before after h e = subst HasOwnBuffers (sym h) e
own_buffers_kept confs line (a_relay number host folder conf) before after h e =
    subst HasOwnBuffers (sym h.after_is) (All-push (λ node. HaveOwnBuffers node.relay) before.net.relays h.node e (own_buffers h.relay_is.elements h.node.relay h.relay_is.described))
own_buffers_kept confs line (a_client number port patterns) before after h e = subst HasOwnBuffers (sym h.after_is) e
own_buffers_kept confs line (a_label number scope patterns) before after h e = subst HasOwnBuffers (sym h.after_is) e
own_buffers_kept confs line (a_reach number scope index patterns) before after h e = subst HasOwnBuffers (sym h.after_is) e
own_buffers_kept confs line (a_duty asked) before after h e = subst HasOwnBuffers (sym h) e
own_buffers_kept confs line no_form before after h e = absurd h

own_buffers_said : {A : Type 0} {confs lines : List (List ℕ)} {plan : Subject A} → Say confs lines plan → HasOwnBuffers plan
own_buffers_said {A} none = All-nil (λ (node : Node A). HaveOwnBuffers node.relay)
own_buffers_said {A} {confs} (one_more {lines} {before} {after} line said adds) = own_buffers_kept confs (length lines + 1) (line_form line) before after adds (own_buffers_said said)

pub distinct_said : {A : Type 0} {confs lines : List (List ℕ)} {plan : Subject A} → Say confs lines plan → BuffersAreDistinct plan.net
distinct_said {plan = plan} said = distinct plan.net (own_buffers_said said)
