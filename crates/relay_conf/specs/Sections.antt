-- The sections of a configuration, and what may stand in each.
use Rattle.std.specs.Prelude.{ℕ, ◌||◌, ◌&&◌, not, Bool, false, List, [], ◌∷◌, codes, length, nat_le, Option, Some, None, if◌then◌else◌}
use Rattle.std.specs.List.{list_any}
use Rattle.std.specs.Option.{option_map_or}
use Rattle.std.specs.Str.{bytes_eq}
use Rattle.conf_text.specs.Trees.{Setting, Tree}
use Rattle.conf_values.specs.Numbers.{port_of}
use Rattle.conf_values.specs.Amounts.{seconds_of}
use Rattle.conf_values.specs.Words.{boolean_of, most_host_bytes}
use Rattle.tag_pattern.specs.Prefixes.{is_prefix}
use Rattle.relay_conf.specs.declared.fault.RelayFaultKind.{RelayFaultKind}
use Rattle.relay_conf.specs.declared.fault.RelayFaultKind.TheVariants as kinds
use Rattle.relay_conf.specs.declared.form.OutputType.{OutputType}
use Rattle.relay_conf.specs.declared.form.OutputType.TheVariants as outputs
use Rattle.relay_conf.specs.declared.section.Section.{Section}
use Rattle.relay_conf.specs.declared.section.Section.TheVariants as sections
use Rattle.relay_conf.specs.declared.section.Opening.{Opening}
use Rattle.relay_conf.specs.declared.section.Opening.TheVariants as opening
use Rattle.relay_conf.specs.BufferSection.{buffer_parameters, has_files, is_file_of}
use Rattle.relay_conf.specs.Checks.{Check, any_text, among, bad_unless, outside_unless, path_fault, reads, target_fault}
use Rattle.relay_conf.specs.Elements.{is_named, lacks}
use Rattle.relay_conf.specs.Words.{output_type_of, store_type_of}

-- What may stand in a section: its type, if it has one, its other parameters, and the sections in
-- it, each by its name; and whether it lacks what it must have.
pub record Profile : Type 0 where
  pub type : Option Check
  pub parameters : List ℕ → Option Check
  pub sections : List ℕ → Option Opening
  pub lacks : List Setting → List Tree → Bool

-- nothing may stand there
abbrev pub nothing : Profile
nothing = record {
  type = None;
  parameters = λ name. None;
  sections = λ name. None;
  lacks = λ s children. false;
}

-- anything may stand in what is passed over
abbrev pub passed : Profile
passed = record nothing {
  parameters = λ name. Some any_text;
  sections = λ name. Some (opening.Plain sections.Passed);
}

-- an output of this type (Fluentd, out_forward, out_file, out_copy, out_relabel, out_null)
abbrev pub output_profile : OutputType → Profile
output_profile outputs.Forward = record nothing {
  parameters = among
      ((codes "require_ack_response", bad_unless (reads boolean_of))
      ∷ (codes "ack_response_timeout", bad_unless (reads seconds_of))
      ∷ (codes "send_timeout", bad_unless (reads seconds_of))
      ∷ (codes "recover_wait", bad_unless (reads seconds_of))
      ∷ (codes "hard_timeout", bad_unless (reads seconds_of))
      ∷ []);
  sections = among
      ((codes "server", opening.Plain sections.Server)
      ∷ (codes "buffer", opening.Plain sections.Buffer)
      ∷ (codes "security", opening.Plain sections.Security)
      ∷ []);
  lacks = λ s children. not (list_any (is_named (codes "server")) children);
}
output_profile outputs.File = record nothing {
  parameters = among ((codes "path", path_fault) ∷ []);
  sections = among ((codes "buffer", opening.Plain sections.Buffer) ∷ []);
  lacks = λ s children. lacks (codes "path") s;
}
output_profile outputs.Copy = record nothing {
  sections = among ((codes "store", opening.Store) ∷ []);
  lacks = λ s children. not (list_any (is_named (codes "store")) children);
}
output_profile outputs.Relabel = record nothing {
  parameters = among ((codes "@label", target_fault) ∷ []);
  lacks = λ s children. lacks (codes "@label") s;
}
output_profile outputs.Null = nothing

-- A section (Fluentd, in_forward, out_forward, "Config: Buffer Section"). The parameters outside
-- every section have an empty name; what `add_tag_prefix` may be is chosen here; where the type of
-- a match or a store isn't known, nothing but the type is asked.
abbrev pub profile_of : Section → Profile
profile_of sections.Top = record nothing {
  sections = among
      (([], opening.Plain sections.Outside)
      ∷ (codes "source", opening.Plain sections.Source)
      ∷ (codes "match", opening.Match)
      ∷ (codes "label", opening.Plain sections.Label)
      ∷ (codes "system", opening.Plain sections.Passed)
      ∷ []);
}
profile_of sections.Passed = passed
profile_of sections.Outside = nothing
profile_of sections.Source = record nothing {
  type = Some (outside_unless (λ text. bytes_eq text (codes "forward")));
  parameters = among
      ((codes "port", bad_unless (reads port_of))
      ∷ (codes "bind", any_text)
      ∷ (codes "@label", target_fault)
      ∷ (codes "add_tag_prefix", bad_unless is_prefix)
      ∷ []);
  sections = among ((codes "security", opening.Plain sections.Security) ∷ []);
}
profile_of sections.Label = record nothing {
  sections = among ((codes "match", opening.Match) ∷ []);
}
profile_of sections.Server = record nothing {
  parameters = among
      ((codes "host", any_text)
      ∷ (codes "port", bad_unless (reads port_of))
      ∷ (codes "name", any_text)
      ∷ (codes "weight", any_text)
      ∷ (codes "standby", any_text)
      ∷ []);
  lacks = λ s children. lacks (codes "host") s;
}
profile_of sections.Security = record nothing {
  parameters = among
      ((codes "self_hostname", bad_unless (λ text. nat_le (length text) most_host_bytes))
      ∷ (codes "shared_key", any_text)
      ∷ []);
  lacks = λ s children. lacks (codes "self_hostname") s || lacks (codes "shared_key") s;
}
profile_of sections.Buffer = record nothing {
  type = Some (outside_unless (reads is_file_of));
  parameters = buffer_parameters;
  lacks = λ s children. has_files s && lacks (codes "path") s;
}
profile_of (sections.Match kind) = record (option_map_or output_profile kind passed) {
  type = Some (outside_unless (reads output_type_of));
}
profile_of (sections.Store kind) = record (option_map_or output_profile kind passed) {
  type = Some (outside_unless (reads store_type_of));
}

-- What is wrong with a parameter of this name and value in this section, if anything. What is
-- passed over isn't looked at.
abbrev pub setting_fault : Section → List ℕ → List ℕ → Option RelayFaultKind
setting_fault sections.Passed name value = None
setting_fault section name value =
    if bytes_eq name (codes "@id") || bytes_eq name (codes "@log_level") then None
    else (if bytes_eq name (codes "@include") then Some kinds.OutOfProfile
    else option_map_or (λ check. check value)
    (if bytes_eq name (codes "@type") then (profile_of section).type
    else (profile_of section).parameters name)
    (Some kinds.UnknownParameter))

-- what is wrong with a section that may not stand where it does: Fluentd's other sections are out
-- of the profile
abbrev pub refusal : List ℕ → RelayFaultKind
refusal name = if bytes_eq name (codes "filter") || bytes_eq name (codes "worker")
    || bytes_eq name (codes "secondary") then kinds.OutOfProfile else kinds.UnknownSection
