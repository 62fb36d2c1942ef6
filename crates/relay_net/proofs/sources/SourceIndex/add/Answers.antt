use Rattle.std.proofs.Common.{ℕ, Some, rules, refl, sym, subst, ◌∙◌}
use Rattle.std.specs.Prelude.{Vec}
use Rattle.std.specs.BTreeMap.{BTreeMap, UpdatesBy}
use Rattle.relay_net.proofs.Entries.{added, key_cmp, host_cmp}
use Rattle.relay_net.proofs.sources.SourceIndex.add.Goals as goal

pub returns-in-Some : goal.returns-in-Some
returns-in-Some g c = λ other.
    let h = c.get_mut.follows.holds c.add_port.new.ports in
    added c.args.self.now.hosts (c.get_mut.follows.lender c.add_port.new.ports) c.args.host.now c.add_port.new.ports c.args.port c.args.place (h.3 (search rules))
    (λ port. rw (← c.in-Some.ensures.value) (c.in_ok-add_port.ensures port)) other

pub returns : goal.returns
returns g c = λ other.
    let n = c.insert.new.self in
    let w = Some c.add_port-2.new.ports in
    let here : UpdatesBy key_cmp (host_cmp c.in_ok-key.key.items) c.args.self.now.hosts n w =
    subst (λ (m : BTreeMap (Vec ℕ g.row.A.Denot) (BTreeMap ℕ ℕ)). UpdatesBy key_cmp (host_cmp c.in_ok-key.key.items) m n w) c.get_mut.follows.holds-at-none c.in_ok-insert.ensures.updates in
    added c.args.self.now.hosts n c.args.host.now c.add_port-2.new.ports c.args.port c.args.place (subst (λ host. UpdatesBy key_cmp (host_cmp host) c.args.self.now.hosts n w) c.in_ok-key.ensures.items here)
    (λ port. c.in_ok-add_port-2.ensures port ∙ rw (c.new-ports.ensures.empty, sym c.in_default.ensures.value) refl) other
