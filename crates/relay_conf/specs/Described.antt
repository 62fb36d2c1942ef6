-- What the sections of a relay describe: each value is that of its last line, or the default.
use Rattle.std.specs.Prelude.{◌≡◌, ◌≢◌, ℕ, false, List, [], codes, filter, Option, Some, None, unwrap_or, option_and_then, MatchOption, IsSomeAnd, if◌then◌else◌, string_bytes}
use Rattle.std.specs.List.{AllZip}
use Rattle.conf_text.specs.Trees.{Setting, Tree}
use Rattle.conf_values.specs.Numbers.{port_of}
use Rattle.conf_values.specs.Amounts.{seconds_of}
use Rattle.conf_values.specs.Words.{boolean_of}
use Rattle.tag_pattern.specs.Prefixes.{is_prefix}
use Rattle.relay_conf.specs.declared.form.OutputType.TheVariants as outputs
use Rattle.relay_conf.specs.declared.output.ForwardSettings.{ForwardSettings}
use Rattle.relay_conf.specs.declared.output.FileSettings.{FileSettings}
use Rattle.relay_conf.specs.declared.output.Server.{Server}
use Rattle.relay_conf.specs.declared.output.Output.{Output}
use Rattle.relay_conf.specs.declared.output.Output.TheVariants as output
use Rattle.relay_conf.specs.declared.relay.Security.{Security}
use Rattle.relay_conf.specs.declared.relay.Source.{Source}
use Rattle.relay_conf.specs.Elements.{heading_of, settings_of, children_of, value_of, is_named, last_child, read_or}
use Rattle.relay_conf.specs.BufferSection.{IsBufferIn}
use Rattle.relay_conf.specs.Meaning.{kind_of, is_buffered}
use Rattle.relay_conf.specs.Targets.{target_of}

-- the end of a handshake that these parameters describe
pub record IsSecurityOf {A : Type 0} (settings : List Setting) (s : Security A) : Type 0 where
  pub self_hostname : string_bytes s.self_hostname
      ≡ unwrap_or (value_of (codes "self_hostname") settings) []
  pub shared_key : string_bytes s.shared_key ≡ unwrap_or (value_of (codes "shared_key") settings) []

-- that of this security section, and none where there is no section
abbrev pub IsSecurityIn : {A : Type 0} → Option Tree → Option (Security A) → Type 0
IsSecurityIn section found = MatchOption section (found ≡ None)
    (λ t. IsSomeAnd found (IsSecurityOf (settings_of t)))

-- the source that a section describes: port 24224 of every local address, the main scope, and no
-- prefix, where nothing else is said
pub record IsSourceOf {A : Type 0} (elements : List Tree) (t : Tree) (s : Source A) : Type 0 where
  pub port : s.port ≡ read_or port_of 24224 (value_of (codes "port") (settings_of t))
  pub bind : string_bytes s.bind
      ≡ unwrap_or (value_of (codes "bind") (settings_of t)) (codes "0.0.0.0")
  pub label : s.label.0 ≡ target_of elements (value_of (codes "@label") (settings_of t))
  pub prefix : s.prefix ≡ option_and_then (λ text. if is_prefix text then Some text else None)
      (value_of (codes "add_tag_prefix") (settings_of t))
  pub security : IsSecurityIn (last_child (codes "security") (children_of t)) s.security
  pub line : s.line ≡ (heading_of t).line

-- the server that a section describes: port 24224 where nothing else is said
pub record IsServerOf {A : Type 0} (t : Tree) (s : Server A) : Type 0 where
  pub host : string_bytes s.host ≡ unwrap_or (value_of (codes "host") (settings_of t)) []
  pub port : s.port ≡ read_or port_of 24224 (value_of (codes "port") (settings_of t))
  pub line : s.line ≡ (heading_of t).line

-- the forward output that a section describes, whose buffer has this number: no acknowledgements are
-- asked for, and one is waited for 190 seconds, where nothing else is said
pub record IsForwardOf {A : Type 0} (n : ℕ) (t : Tree) (f : ForwardSettings A) : Type 0 where
  pub servers : AllZip (λ section server. IsServerOf section server)
      (filter (is_named (codes "server")) (children_of t)) f.servers.items
  pub require_ack_response : f.require_ack_response
      ≡ read_or boolean_of false (value_of (codes "require_ack_response") (settings_of t))
  pub ack_response_timeout : f.ack_response_timeout
      ≡ read_or seconds_of 190 (value_of (codes "ack_response_timeout") (settings_of t))
  pub security : IsSecurityIn (last_child (codes "security") (children_of t)) f.security
  pub buffer : IsBufferIn (children_of t) f.buffer
  pub number : f.number.0 ≡ n

-- the file output that a section describes, whose buffer has this number
pub record IsFileOf {A : Type 0} (n : ℕ) (t : Tree) (f : FileSettings A) : Type 0 where
  pub path : string_bytes f.path ≡ unwrap_or (value_of (codes "path") (settings_of t)) []
  pub buffer : IsBufferIn (children_of t) f.buffer
  pub number : f.number.0 ≡ n

-- the output that a match or a store describes, by its type: it leads nowhere where that is `null`,
-- a copy, or none that is known; its buffer, if it has one, has this number
abbrev pub IsOutputOf : {A : Type 0} → List Tree → ℕ → Tree → Output A → Type 0
IsOutputOf elements number t (output.Null line) = (is_buffered (kind_of (settings_of t)) ≡ false)
    × (kind_of (settings_of t) ≢ Some outputs.Relabel) × (line ≡ (heading_of t).line)
IsOutputOf elements number t (output.Relabel target line) =
    (kind_of (settings_of t) ≡ Some outputs.Relabel)
    × (target.0 ≡ target_of elements (value_of (codes "@label") (settings_of t)))
    × (line ≡ (heading_of t).line)
IsOutputOf elements number t (output.Forward settings line) =
    (kind_of (settings_of t) ≡ Some outputs.Forward) × IsForwardOf number t settings
    × (line ≡ (heading_of t).line)
IsOutputOf elements number t (output.File settings line) =
    (kind_of (settings_of t) ≡ Some outputs.File) × IsFileOf number t settings
    × (line ≡ (heading_of t).line)
