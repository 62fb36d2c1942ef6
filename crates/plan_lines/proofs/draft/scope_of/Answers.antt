use Rattle.std.proofs.Common.{ℕ, List, ap, ◌∙◌}
use Rattle.std.specs.Prelude.{position, string_bytes}
use Rattle.std.specs.Str.{bytes_eq}
use Rattle.plan_lines.proofs.draft.scope_of.Goals as goal

pub returns : goal.returns
returns g c = c.scope_in.ensures ∙ ap (λ (name : List ℕ). position (λ scope. bytes_eq (string_bytes scope.name) name) c.args.relay.now.scopes.items) c.scope_name.ensures
