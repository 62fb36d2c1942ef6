use Rattle.std.proofs.Common.{◌≡◌, map, codes, subst, unwrap_or, option_and_then, if◌then◌else◌, Some, None, string_bytes}
use Rattle.conf_text.specs.Views.{tree_of}
use Rattle.conf_values.specs.Numbers.{port_of}
use Rattle.tag_pattern.specs.Prefixes.{is_prefix}
use Rattle.relay_conf.specs.Elements.{last_child, read_or, value_of}
use Rattle.relay_conf.specs.Described.{IsSecurityIn}
use Rattle.relay_conf.specs.Targets.{target_of}
use Rattle.relay_conf.proofs.reading.source.Goals as goal

pub returns : goal.returns
returns g c = record {
  port = subst (λ s. c.port_or.result ≡ read_or port_of 24224 (value_of (codes "port") s)) c.pairs_of-pairs.ensures c.port_or.ensures;
  bind = subst (λ s. string_bytes c.in_ok-text_or.field-0 ≡ unwrap_or (value_of (codes "bind") s) (codes "0.0.0.0")) c.pairs_of-pairs.ensures c.in_ok-text_or.ensures;
  label = subst (λ s. c.target.result.0 ≡ target_of (map tree_of c.args.elements.now) (value_of (codes "@label") s)) c.pairs_of-pairs.ensures
      (subst (λ l. c.target.result.0 ≡ target_of (map tree_of c.args.elements.now) l) c.value_of.ensures c.target.ensures);
  prefix = subst (λ s. c.in_ok-prefix.field-0 ≡ option_and_then (λ text. if is_prefix text then Some text else None) (value_of (codes "add_tag_prefix") s))
      c.pairs_of-pairs.ensures c.in_ok-prefix.ensures;
  security = subst (λ kids. IsSecurityIn (last_child (codes "security") kids) c.in_ok-security_in.field-0) c.children_of.ensures c.in_ok-security_in.ensures;
  line = c.line_of.ensures;
}
