-- The code's names for what a parameter's value must be.
use Rattle.std.specs.Prelude.{⊤, codes, length, nat_le}
use Rattle.std.specs.Str.{bytes_eq}
use Rattle.conf_values.specs.Numbers.{number_of, port_of}
use Rattle.conf_values.specs.Amounts.{size_of, seconds_of}
use Rattle.conf_values.specs.Words.{boolean_of, most_host_bytes}
use Rattle.tag_pattern.specs.Prefixes.{is_prefix}
use Rattle.relay_conf.specs.declared.form.Form.{Form}
use Rattle.relay_conf.specs.declared.form.Form.TheVariants as form
use Rattle.relay_conf.specs.BufferSection.{flush_mode_of, is_file_of, overflow_of, threads_of}
use Rattle.relay_conf.specs.Checks.{Check, any_text, reads, bad_unless, outside_unless, path_fault, target_fault}
use Rattle.relay_conf.specs.Words.{output_type_of, store_type_of}

-- what is wrong with a value of this form
abbrev pub value_fault : Form → Check
value_fault form.Text = any_text
value_fault form.Number = bad_unless (reads number_of)
value_fault form.Size = bad_unless (reads size_of)
value_fault form.Time = bad_unless (reads seconds_of)
value_fault form.Flag = bad_unless (reads boolean_of)
value_fault form.Port = bad_unless (reads port_of)
value_fault form.Threads = bad_unless (reads threads_of)
value_fault form.Path = path_fault
value_fault form.HostName = bad_unless (λ text. nat_le (length text) most_host_bytes)
value_fault form.Target = target_fault
value_fault form.Prefix = bad_unless is_prefix
value_fault form.FlushMode = outside_unless (reads flush_mode_of)
value_fault form.RetryType = outside_unless (λ text. bytes_eq text (codes "exponential_backoff"))
value_fault form.Overflow = outside_unless (reads overflow_of)
value_fault form.BufferType = outside_unless (reads is_file_of)
value_fault form.SourceType = outside_unless (λ text. bytes_eq text (codes "forward"))
value_fault form.MatchType = outside_unless (reads output_type_of)
value_fault form.StoreType = outside_unless (reads store_type_of)

-- the forms that are lists of words
abbrev pub IsWordForm : Form → Type 0
IsWordForm form.FlushMode = ⊤
IsWordForm form.RetryType = ⊤
IsWordForm form.Overflow = ⊤
IsWordForm form.BufferType = ⊤
IsWordForm form.SourceType = ⊤
IsWordForm form.MatchType = ⊤
IsWordForm form.StoreType = ⊤
IsWordForm _ = ⊥
