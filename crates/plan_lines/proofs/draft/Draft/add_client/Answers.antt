use Rattle.std.proofs.Common.{◌∙◌, Some, sym, ap, refl}
use Rattle.conf_values.specs.Numbers.{number_of}
use Rattle.relay_net.specs.Network.{node_of}
use Rattle.plan_lines.proofs.Found.{source_found}
use Rattle.plan_lines.proofs.draft.Draft.add_client.Goals as goal

pub returns-clause-adds : goal.returns-clause-adds
returns-clause-adds g c = λ confs.
    let found = source_found (node_of c.args.self.now.relays c.in-Some.relay) c.in-Some-whole_number.wanted c.in-Some-source_port.port c.in-Some-source_port.ensures in
    record {
      client = record { relay = c.in-Some.relay; port = c.in-Some-source_port.port; patterns = c.in_ok-patterns.patterns };
      number_is = sym c.in-Some.ensures;
      port_is = ap number_of (sym c.as_bytes.ensures.value) ∙ sym c.in-Some-whole_number.ensures ∙ ap Some (sym found.0);
      source_is = found.1;
      patterns_are = c.in_ok-patterns.ensures.patterns;
      after_is = rw (c.in_ok-push.ensures.items, c.in_ok-push-2.ensures.items) refl;
    }
